-- The minutes of a day.
use Rattle.std.specs.Prelude.{◌+◌, ◌-◌, ◌*◌, ℕ, zero, suc, List, [], ◌∷◌}

-- how many minutes a day has
abbrev pub day_length : ℕ
day_length = 1440

-- the first minute of a day; day 1 is the plan's first
abbrev pub day_start : ℕ → ℕ
day_start day = day_length * (day - 1)

-- this many minutes from this one on
unfoldable pub minutes_from : ℕ → ℕ → List ℕ
minutes_from minute zero = []
minutes_from minute (suc more) = minute ∷ minutes_from (minute + 1) more

-- the minutes of a day in order
unfoldable pub minutes_of_day : ℕ → List ℕ
minutes_of_day day = minutes_from (day_start day) day_length
