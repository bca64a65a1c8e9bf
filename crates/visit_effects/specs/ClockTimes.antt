-- The days and minutes that days of a month and clock times name.
use Rattle.std.specs.Prelude.{◌+◌, ◌-◌, ◌*◌, ◌==◌, ◌&&◌, ℕ, zero, suc, Bool, Option, None, Some, nat_le, nat_lt, if◌then◌else◌}
use Rattle.std.specs.Option.{option_map, option_map_or}
use Rattle.apron_dates.specs.Dates.{plan_ymd, ymd_of}
use Rattle.mvt_grammar.specs.declared.message.Clock.{Clock}
use Rattle.apron_rules.specs.declared.parts.AirportParts.{AirportParts}

-- the latest of this many days, from this one on, that passes the test
abbrev pub latest_day : (ℕ → Bool) → ℕ → ℕ → Option ℕ
latest_day test first zero = None
latest_day test first (suc more) =
    if test (first + more) then Some (first + more) else latest_day test first more

-- a day of the plan has this day of the month
abbrev pub is_of_month : AirportParts → ℕ → ℕ → Bool
is_of_month airport number day = (plan_ymd (ymd_of airport.first) day).2 == number

-- a minute of the day, on this day of the plan
abbrev pub minute_on : ℕ → ℕ → ℕ
minute_on minute day = 1440 * (day - 1) + minute

-- of the minutes with one clock time, this one is nearest to the scheduled one, or the later of
-- two: it is less than half a day before it, or at most half a day after it
abbrev pub is_nearest : ℕ → ℕ → Bool
is_nearest scheduled minute = nat_lt scheduled (minute + 720) && nat_le minute (scheduled + 720)

-- the day of the plan that brings a minute of the day nearest to the scheduled one
abbrev pub nearest_day : AirportParts → ℕ → ℕ → Option ℕ
nearest_day airport scheduled minute =
    latest_day (λ day. is_nearest scheduled (minute_on minute day)) 1 airport.days

-- the day of the plan that a clock time names: the one of its day of the month, if it has one, or
-- otherwise the one that brings it nearest to the scheduled minute
abbrev pub plan_day_of : AirportParts → ℕ → Clock → Option ℕ
plan_day_of airport scheduled clock =
    option_map_or (λ number. latest_day (is_of_month airport number) 1 airport.days) clock.day
    (nearest_day airport scheduled clock.minute)

-- the minute of the plan that a clock time names beside a scheduled minute
abbrev pub plan_minute_of : AirportParts → ℕ → Clock → Option ℕ
plan_minute_of airport scheduled clock =
    option_map (minute_on clock.minute) (plan_day_of airport scheduled clock)
