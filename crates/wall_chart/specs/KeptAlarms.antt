-- Alarms as they are kept while a chart is made.
use Rattle.std.specs.Prelude.{[], ◌∷◌, ℕ, List, if◌then◌else◌}
use Rattle.apron_rules.specs.declared.rules.Clash.{Clash}
use Rattle.wall_chart.specs.declared.alarms.Alarm.{Alarm}
use Rattle.wall_chart.specs.Alarms.{alarm_line, is_in_order}

-- the clash that is kept as this alarm
abbrev pub clash_of : Alarm → Clash
clash_of alarm = record {
  minute = alarm.minute;
  a = record { visit = alarm.a; part = alarm.a_part };
  b = record { visit = alarm.b; part = alarm.b_part };
  rule = alarm.rule;
}

-- its line
abbrev pub kept_line : Alarm → List ℕ
kept_line alarm = alarm_line (clash_of alarm)

-- the clash, if its first part is the smaller one
abbrev pub alarms_in : Clash → List Clash
alarms_in clash = if is_in_order clash then clash ∷ [] else []
