-- The days of a plan by the calendar's own numbers.
use Rattle.std.proofs.Common.{◌≡◌, ℕ, zero, suc, ◌+◌, ◌-◌, ◌≤◌, ◌<◌, nat_lt, ℤ, pos, negsuc, ◌+ℤ◌, ◌≤ℤ◌, unsigned_abs, refl, add-zero, sym, ap, ◌∙◌, inl, inr, arith}
use Rattle.std.proofs.lemmas.Bool.{cases_Bool, ltb-true, ltb-false}
use Rattle.jiff_core.specs.declared.civil.date.Date.{Date}
use Rattle.jiff_core.specs.Calendar.{IsBetween, days_from_civil, days_in_month}
use Rattle.jiff_core.specs.Date.{epoch_day}
use Rattle.jiff_core.proofs.SignedLemmas.{signed_arith}
use Rattle.jiff_core.proofs.CalendarLemmas.{days_in_month_bounds}
use Rattle.jiff_core.proofs.DateLemmas.{days_from_civil-day, days_from_civil-next_month, days_from_civil-next_year, epoch_day_injective}
use Rattle.apron_dates.specs.Dates.{Ymd, civil_ymd, next_ymd, previous_ymd, days_later, plan_ymd, IsPlanDay}

-- the calendar has the day, of a year up to this one
pub record IsCivil (most : ℕ) (t : Ymd) : Type 0 where
  pub year : t.0 ≤ most
  pub month_low : 1 ≤ t.1
  pub month_high : t.1 ≤ 12
  pub day_low : 1 ≤ t.2
  pub day_high : t.2 ≤ days_in_month (pos t.0) t.1

abbrev number : Ymd → ℤ
number t = days_from_civil (pos t.0) t.1 t.2

day-is : (most y m d : ℕ) → IsCivil most (y, m, d) → d < days_in_month (pos y) m → IsCivil (most + 1) (y, m, d + 1) × (number (y, m, d + 1) ≡ number (y, m, d) +ℤ pos 1)
day-is most y m d h less = (
  record { year = omega (arith, h.year); month_low = h.month_low; month_high = h.month_high; day_low = omega arith; day_high = omega arith },
  omega (arith, signed_arith, days_from_civil-day (pos y) m d (d + 1) h.day_low (omega arith)),
)

month-is : (most y m d : ℕ) → IsCivil most (y, m, d) → days_in_month (pos y) m ≤ d → m < 12 → IsCivil (most + 1) (y, m + 1, 1) × (number (y, m + 1, 1) ≡ number (y, m, d) +ℤ pos 1)
month-is most y m d h last less =
    let long = days_in_month_bounds (pos y) (m + 1) in (
      record { year = omega (arith, h.year); month_low = omega arith; month_high = omega arith; day_low = omega arith; day_high = omega (arith, long.1) },
      days_from_civil-next_month (pos y) m d h.month_low (omega (arith, h.day_high)),
    )

year-is : (most y m d : ℕ) → IsCivil most (y, m, d) → days_in_month (pos y) m ≤ d → 12 ≤ m → IsCivil (most + 1) (y + 1, 1, 1) × (number (y + 1, 1, 1) ≡ number (y, m, d) +ℤ pos 1)
year-is most y m d h last over =
    let twelfth : m ≡ 12 = omega (arith, h.month_high) in
    let last_day : d ≡ days_in_month (pos y) m = omega (arith, h.day_high) in
    let end : d ≡ 31 = last_day ∙ ap (days_in_month (pos y)) twelfth in (
      record { year = omega (arith, h.year); month_low = omega arith; month_high = omega arith; day_low = omega arith; day_high = omega arith },
      rw (twelfth, end) (days_from_civil-next_year (pos y) (pos (y + 1)) (omega (arith, signed_arith)) (omega (arith, signed_arith))),
    )

next-is : (most : ℕ) (t : Ymd) → IsCivil most t → IsCivil (most + 1) (next_ymd t) × (number (next_ymd t) ≡ number t +ℤ pos 1)
next-is most (y, m, d) h =
    elim (cases_Bool (nat_lt d (days_in_month (pos y) m))) [
      | inl within ↦ rw within (day-is most y m d h (ltb-true d _ within))
      | inr last ↦ elim (cases_Bool (nat_lt m 12)) [
        | inl early ↦ rw (last, early) (month-is most y m d h (ltb-false d _ last) (ltb-true m 12 early))
        | inr late ↦ rw (last, late) (year-is most y m d h (ltb-false d _ last) (ltb-false m 12 late))
      ]
    ]

previous-is : (most : ℕ) (t : Ymd) → IsCivil most t → 1 ≤ t.0 → IsCivil most (previous_ymd t) × (number (previous_ymd t) +ℤ pos 1 ≡ number t)
previous-is most (y, m, d) h some =
    elim (cases_Bool (nat_lt 1 d)) [
      | inl inside ↦
          let more : 1 < d = ltb-true 1 d inside in
          rw inside (record { year = h.year; month_low = h.month_low; month_high = h.month_high; day_low = omega arith; day_high = omega (arith, h.day_high) }, omega (arith, signed_arith, days_from_civil-day (pos y) m (d - 1) d (omega arith) h.day_low))
      | inr at_start ↦
          let only : d ≡ 1 = omega (arith, ltb-false 1 d at_start, h.day_low) in
          elim (cases_Bool (nat_lt 1 m)) [
            | inl later ↦
                let more : 1 < m = ltb-true 1 m later in
                let back : (m - 1) + 1 ≡ m = omega arith in
                let long = days_in_month_bounds (pos y) (m - 1) in
                let turn = days_from_civil-next_month (pos y) (m - 1) (days_in_month (pos y) (m - 1)) (omega arith) refl in
                rw (at_start, later) (record { year = h.year; month_low = omega arith; month_high = omega (arith, h.month_high); day_low = omega (arith, long.1); day_high = omega arith }, sym (rw back at turn) ∙ rw only)
            | inr first ↦
                let january : m ≡ 1 = omega (arith, ltb-false 1 m first, h.month_low) in
                let turn = days_from_civil-next_year (pos (y - 1)) (pos y) (omega (arith, signed_arith)) (omega (arith, signed_arith)) in
                rw (at_start, first) (record { year = omega (arith, h.year); month_low = omega arith; month_high = omega arith; day_low = omega arith; day_high = omega arith }, sym turn ∙ rw (only, january))
          ]
    ]

later-is : (n most : ℕ) (t : Ymd) → IsCivil most t → IsCivil (most + n) (days_later n t) × (number (days_later n t) ≡ number t +ℤ pos n)
unfolding days_later
later-is zero most t h = (rw add-zero h, omega (arith, signed_arith))
later-is (suc n) most t h =
    let (civil, value) = later-is n most t h in
    let (after, more) = next-is (most + n) (days_later n t) civil in
    let widen : most + n + 1 ≡ most + suc n = omega arith in
    (rw widen at after, omega (arith, signed_arith, value, more))

positive : (z : ℤ) → pos 2000 ≤ℤ z → pos (unsigned_abs z) ≡ z
positive (pos n) h = refl
positive (negsuc n) h = absurd (omega (arith, signed_arith, h))

first-is : (first : Date) → IsBetween (pos 2000) (pos 2099) first.year → IsCivil 2099 (civil_ymd first) × (number (civil_ymd first) ≡ epoch_day first)
first-is first h =
    let same = positive first.year h.0 in
    let days : first.day ≤ days_in_month (pos (unsigned_abs first.year)) first.month = first.day_in.1 in
    let year : unsigned_abs first.year ≤ 2099 = omega (arith, signed_arith, same, h.1) in
    (record { year = year; month_low = first.month_in.0; month_high = first.month_in.1; day_low = first.day_in.0; day_high = days }, rw same)

made : (most : ℕ) (t : Ymd) → IsCivil most t → most ≤ 9999 → (e : Date) × (civil_ymd e ≡ t) × (epoch_day e ≡ number t)
made most t h k = (record { year = pos t.0; month = t.1; day = t.2; year_in = (omega (arith, signed_arith, h.year), omega (arith, signed_arith, h.year)); month_in = (h.month_low, h.month_high); day_in = (h.day_low, h.day_high) }, refl, refl)

same_parts : (a b : Date) → epoch_day a ≡ epoch_day b → civil_ymd a ≡ civil_ymd b
same_parts a b e = let parts = epoch_day_injective a b e in rw (parts.0, parts.1, parts.2)

pub plan_ymd_is : (first d : Date) (day : ℕ) → IsBetween (pos 2000) (pos 2099) first.year → day ≤ 28 → IsPlanDay first day d → civil_ymd d ≡ plan_ymd (civil_ymd first) day
plan_ymd_is first d day h k e =
    let (start, at_first) = first-is first h in
    let low : 1 ≤ unsigned_abs first.year = omega (arith, signed_arith, positive first.year h.0, h.0) in
    let (before, step) = previous-is 2099 (civil_ymd first) start low in
    let (there, count) = later-is day 2099 (previous_ymd (civil_ymd first)) before in
    let (m, parts, at) = made (2099 + day) (plan_ymd (civil_ymd first) day) there (omega arith) in
    same_parts d m (omega (arith, signed_arith, e, at, count, step, at_first)) ∙ parts
