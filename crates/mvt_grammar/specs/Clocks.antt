-- The times of an element: HHMM or DDHHMM, one or two of them.
use Rattle.std.specs.Prelude.{ℕ, ◌+◌, ◌*◌, ◌==◌, ◌&&◌, nat_le, nat_lt, List, length, take, drop, Option, Some, None, if◌then◌else◌}
use Rattle.mvt_grammar.specs.Bytes.{two_digits, split_once}
use Rattle.apron_base.specs.OptionChain.{◌>>=◌}
use Rattle.mvt_grammar.specs.declared.message.Clock.{Clock}

-- DD, the day of a month
abbrev pub read_day : List ℕ → Option ℕ
read_day text = do
  day ← two_digits text
  if nat_le 1 day && nat_le day 31 then Some day else None

-- HHMM, as the minute of the day
abbrev pub read_minute : List ℕ → Option ℕ
read_minute text = do
  hours ← two_digits (take 2 text)
  minutes ← two_digits (drop 2 text)
  if nat_lt hours 24 && nat_lt minutes 60 then Some (60 * hours + minutes) else None

-- HHMM
abbrev pub time_without_day : List ℕ → Option Clock
time_without_day text = do
  minute ← read_minute text
  Some (record { day = None; minute = minute })

-- DDHHMM
abbrev pub time_with_day : List ℕ → Option Clock
time_with_day text = do
  day ← read_day (take 2 text)
  minute ← read_minute (drop 2 text)
  Some (record { day = Some day; minute = minute })

-- a time in either form
abbrev pub clock_of : List ℕ → Option Clock
clock_of text = if length text == 6 then time_with_day text else time_without_day text

-- the times, if the text was parted at its first slash
abbrev pub times_parted : List ℕ → Option (List ℕ × List ℕ) → Option (Clock × Option Clock)
times_parted text None = do
  clock ← clock_of text
  Some (clock, None)
times_parted text (Some parts) = do
  first ← clock_of parts.0
  second ← clock_of parts.1
  Some (first, Some second)

-- a time, or two with a slash between them
abbrev pub times_of : List ℕ → Option (Clock × Option Clock)
times_of text = times_parted text (split_once 47 text)
