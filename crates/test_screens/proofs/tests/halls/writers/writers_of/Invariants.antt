use Rattle.std.proofs.Common.{◌≡◌}
use Rattle.apron_base.specs.Histories.{Every}
use Rattle.history_core.specs.History.{replay}
use Rattle.shown_board.specs.Halls.{IsNewWriter}
use Rattle.test_screens.proofs.tests.halls.writers.writers_of.Given as goal

abbrev pub invariant-loop-day : goal.invariant-loop-day
invariant-loop-day g l =
    Every (IsNewWriter l.board.board.airport l.board.board.history) l.writers.items
    × (l.board.board.airport ≡ l.airport) × (l.plan.plan ≡ replay l.board.board.airport l.board.board.history)
    × (l.plan.plan.airport ≡ l.airport)
