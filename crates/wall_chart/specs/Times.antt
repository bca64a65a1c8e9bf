-- Minutes, days and dates as a chart writes them.
use Rattle.std.specs.Prelude.{◌+◌, ◌/◌, ◌%◌, ◌++◌, ℕ, List, codes, decimal}
use Rattle.apron_dates.specs.Dates.{Ymd, plan_ymd, ymd_of}
use Rattle.apron_rules.specs.declared.parts.AirportParts.{AirportParts}
use Rattle.mvt_grammar.specs.Canonical.{two_text}
use Rattle.plan_lists.specs.Days.{day_length}

-- the hours and minutes of a minute of a day
abbrev pub hour_and_minute : ℕ → List ℕ
hour_and_minute minute = two_text (minute / 60) ++ two_text (minute % 60)

-- DAY/HHMM; day 1 is the plan's first
abbrev pub time_text : ℕ → List ℕ
time_text minute =
    decimal (minute / day_length + 1) ++ codes "/" ++ hour_and_minute (minute % day_length)

-- FROM-TO
abbrev pub span_text : ℕ → ℕ → List ℕ
span_text from to = time_text from ++ codes "-" ++ time_text to

-- YYYY-MM-DD
abbrev pub ymd_text : Ymd → List ℕ
ymd_text (year, month, day) =
    decimal year ++ codes "-" ++ two_text month ++ codes "-" ++ two_text day

-- the date of a day of the airport's plan
abbrev pub plan_date_text : AirportParts → ℕ → List ℕ
plan_date_text airport day = ymd_text (plan_ymd (ymd_of airport.first) day)
