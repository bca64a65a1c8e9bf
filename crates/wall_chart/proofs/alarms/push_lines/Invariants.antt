use Rattle.std.proofs.Common.{◌≡◌, ◌++◌, take}
use Rattle.std.specs.List.{flat_map}
use Rattle.std.specs.Prelude.{IfSome}
use Rattle.wall_chart.specs.Alarms.{alarm_head}
use Rattle.wall_chart.specs.KeptAlarms.{clash_of, kept_line}
use Rattle.wall_chart.proofs.alarms.push_lines.Given as goal

abbrev pub invariant-loop-alarm : goal.invariant-loop-alarm
invariant-loop-alarm l = record {
  text : l.text.items ≡ l.fn.text.items ++ flat_map kept_line (take l.alarm-index l.found);
  head : IfSome l.last (λ last. l.head.items ≡ alarm_head (clash_of last.now));
}
