use Rattle.std.proofs.Common.{◌≡◌, length}
use Rattle.test_screens.proofs.tests.halls.are_seen.Given as goal

abbrev pub invariant-loop-index : goal.invariant-loop-index
invariant-loop-index g l = (l.hall.board.board.airport ≡ l.airport) × (length l.screens ≡ length l.row.days.now)
