use Rattle.std.proofs.Common.{take}
use Rattle.apron_rules.specs.Tables.{AreHalves}
use Rattle.apron_rules.proofs.checks.halves.Given as goal

abbrev pub invariant-loop-place : goal.invariant-loop-place
invariant-loop-place l = AreHalves l.halves (take l.place l.rows)
