use Rattle.std.proofs.Common.{◌≡◌, length, map}
use Rattle.apron_base.specs.Histories.{Every}
use Rattle.history_core.specs.History.{replay}
use Rattle.screen_feed.specs.Screens.{ScreenState}
use Rattle.shown_board.specs.Halls.{IsNewWriter, pairs_of}
use Rattle.screen_server.specs.Looks.{IsNewScreen}
use Rattle.screen_server.proofs.writers.writers_of.Given as goal

abbrev pub invariant-loop-made : goal.invariant-loop-made
invariant-loop-made g l =
    Every (IsNewWriter l.board.board.airport l.board.board.history) l.writers.items
    × Every (IsNewScreen l.airport l.board.board.history l.day) l.screens.items
    × (pairs_of l.writers.items ≡ map (λ (screen : ScreenState). screen.pair) l.screens.items)
    × (l.board.board.airport ≡ l.airport) × (l.plan.plan ≡ replay l.board.board.airport l.board.board.history)
    × (l.plan.plan.airport ≡ l.airport) × (length l.writers.items ≡ l._made)
