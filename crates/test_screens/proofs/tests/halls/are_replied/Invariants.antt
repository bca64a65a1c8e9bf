use Rattle.std.proofs.Common.{◌≡◌}
use Rattle.test_screens.proofs.tests.halls.are_replied.Given as goal

abbrev pub invariant-loop-deed : goal.invariant-loop-deed
invariant-loop-deed g l = l.hall.board.board.airport ≡ l.airport
