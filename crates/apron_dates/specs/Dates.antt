-- The dates of a plan.
use Rattle.std.specs.Prelude.{◌≡◌, ◌≤◌, IsTrue, ℕ, ◌+◌, ◌-◌, ◌*◌, ◌&&◌, ◌==◌, nat_le, length, slice_index, Bool, List, Option, Some, None, option_and_then, if◌then◌else◌, pos, ◌+ℤ◌, ◌-ℤ◌, unsigned_abs, zero, suc, nat_lt}
use Rattle.jiff_core.specs.Calendar.{days_in_month}
use Rattle.jiff_core.specs.Date.{epoch_day}
use Rattle.jiff_core.specs.declared.civil.date.Date as civil
use Rattle.apron_dates.specs.declared.day.Date.{Date}

infixl 10 ◌>>=◌
abbrev pub ◌>>=◌ : {A B : Type 0} → Option A → (A → Option B) → Option B
o >>= f = option_and_then f o

-- a decimal digit
abbrev pub digit_of : ℕ → Option ℕ
digit_of b = if nat_le 48 b && nat_le b 57 then Some (b - 48) else None

-- a number of two digits
abbrev pub two_of : ℕ → ℕ → Option ℕ
two_of a b = do
  tens ← digit_of a
  ones ← digit_of b
  Some (10 * tens + ones)

-- year, month and day
abbrev pub Ymd : Type 0
Ymd = ℕ × ℕ × ℕ

abbrev pub ymd_of : Date → Ymd
ymd_of d = (d.year, d.month, d.day)

-- the same for a date of the calendar
abbrev pub civil_ymd : civil.Date → Ymd
civil_ymd d = (unsigned_abs d.year, d.month, d.day)

-- the calendar has the day
abbrev pub is_date : ℕ → ℕ → ℕ → Bool
is_date y m d = (nat_le 1 m && nat_le m 12) && (nat_le 1 d && nat_le d (days_in_month (pos y) m))

-- the date, if the calendar has it
abbrev pub date_if : ℕ → ℕ → ℕ → Option Date
date_if y m d = if is_date y m d then Some (record { year = y; month = m; day = d }) else None

-- a day that the calendar has, of the years 2000 to 2099
pub record IsFirstDay (first : Date) : Type 0 where
  pub low : 2000 ≤ first.year
  pub high : first.year ≤ 2099
  pub date : IsTrue (is_date first.year first.month first.day)

-- the date in the century from 2000 on of these six digits
abbrev pub of_digits : ℕ → ℕ → ℕ → ℕ → ℕ → ℕ → Option Date
of_digits a b c d e f = do
  year ← two_of a b
  month ← two_of c d
  day ← two_of e f
  date_if (2000 + year) month day

-- 20YY-MM-DD, by its length and the bytes that are fixed
abbrev pub is_shape : List ℕ → Bool
is_shape text = (length text == 10)
    && ((slice_index text 0 == 50)
    && ((slice_index text 1 == 48) && ((slice_index text 4 == 45) && (slice_index text 7 == 45))))

-- the date that a text writes as YYYY-MM-DD, of the years 2000 to 2099
abbrev pub read_date : List ℕ → Option Date
read_date text =
    if is_shape text
    then of_digits (slice_index text 2) (slice_index text 3) (slice_index text 5)
    (slice_index text 6) (slice_index text 8) (slice_index text 9)
    else None

-- the date of a day of the plan: day 1 is the first, day 0 the one before
abbrev pub IsPlanDay : civil.Date → ℕ → civil.Date → Type 0
IsPlanDay first day d = epoch_day d ≡ epoch_day first +ℤ (pos day -ℤ pos 1)

-- the day after
abbrev pub next_ymd : Ymd → Ymd
next_ymd (y, m, d) =
    if nat_lt d (days_in_month (pos y) m) then (y, m, d + 1)
    else if nat_lt m 12 then (y, m + 1, 1)
    else (y + 1, 1, 1)

-- the day before
abbrev pub previous_ymd : Ymd → Ymd
previous_ymd (y, m, d) =
    if nat_lt 1 d then (y, m, d - 1)
    else if nat_lt 1 m then (y, m - 1, days_in_month (pos y) (m - 1))
    else (y - 1, 12, 31)

-- the day this many days later
unfoldable pub days_later : ℕ → Ymd → Ymd
days_later zero ymd = ymd
days_later (suc n) ymd = next_ymd (days_later n ymd)

-- the date of a day of the plan: day 1 is the first, day 0 the one before
abbrev pub plan_ymd : Ymd → ℕ → Ymd
plan_ymd first day = days_later day (previous_ymd first)
