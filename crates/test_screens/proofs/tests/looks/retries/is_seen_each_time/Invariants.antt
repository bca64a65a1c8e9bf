use Rattle.std.proofs.Common.{◌≡◌}
use Rattle.test_screens.proofs.tests.looks.retries.is_seen_each_time.Given as goal

abbrev pub invariant-loop-number : goal.invariant-loop-number
invariant-loop-number g l = l.screen.pair ≡ l.stage.0
