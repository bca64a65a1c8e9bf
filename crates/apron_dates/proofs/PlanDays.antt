-- A plan's days are within the calendar.
use Rattle.std.proofs.Common.{true, ◌≡◌, ℕ, ◌≤◌, pos, ◌+ℤ◌, ◌-ℤ◌, ◌≤ℤ◌, ◌<ℤ◌, inl, arith, rules}
use Rattle.jiff_core.specs.declared.civil.date.Date.{Date}
use Rattle.std.proofs.lemmas.Bool.{le-leb}
use Rattle.std.proofs.lemmas.Bool.Decides.{nat_tests}
use Rattle.apron_dates.specs.Dates.{is_date}
use Rattle.jiff_core.specs.Calendar.{IsDate, days_in_month, IsBetween, IsEpochDay}
use Rattle.jiff_core.specs.Date.{epoch_day}
use Rattle.jiff_core.proofs.SignedLemmas.{signed_arith}
use Rattle.jiff_core.proofs.DateLemmas.{epoch_day-lt, days_from_civil-day, days_from_civil-max, min-lt-epoch_day}

late : Date
late = record { year = pos 9999; month = 12; day = 1; year_in = search rules; month_in = search rules; day_in = search rules }

late-day : epoch_day late +ℤ pos 30 ≡ pos 2_932_896
unfolding late
late-day = omega (arith, signed_arith, days_from_civil-day (pos 9999) 12 1 31 (omega arith) (omega arith), days_from_civil-max)

before_late : (first : Date) → first.year ≤ℤ pos 2099 → epoch_day first <ℤ epoch_day late
unfolding late
before_late first h = epoch_day-lt first late (inl (omega (arith, signed_arith)))

pub plan_day_in : (first : Date) (n : ℕ) → IsBetween (pos 2000) (pos 2099) first.year → n ≤ 28 → IsEpochDay (epoch_day first +ℤ (pos n -ℤ pos 1))
plan_day_in first n h k =
    let top = before_late first h.1 in
    let bottom = min-lt-epoch_day first (λ p. absurd (omega (arith, signed_arith, p.0, h.0))) in
    omega (arith, signed_arith, late-day, top, bottom)

pub is_date-IsDate : (y m d : ℕ) → y ≤ 2099 → is_date y m d ≡ true → IsDate (pos y) (pos m) (pos d)
is_date-IsDate y m d h e = (omega (arith, signed_arith), grind (arith, nat_tests, signed_arith), grind (arith, nat_tests, signed_arith))

pub IsDate-is_date : (y m d : ℕ) → IsDate (pos y) (pos m) (pos d) → is_date y m d ≡ true
IsDate-is_date y m d h =
    rw (
      le-leb 1 m (omega (arith, signed_arith)),
      le-leb m 12 (omega (arith, signed_arith)),
      le-leb 1 d (omega (arith, signed_arith)),
      le-leb d (days_in_month (pos y) m) (omega (arith, signed_arith, h.2.1)),
    )
