use Rattle.std.proofs.Common.{length}
use Rattle.shown_board.proofs.show.+show_on_all.Given as goal

abbrev pub decreases-show_on_all : goal.decreases-show_on_all
decreases-show_on_all g l = length l.writers.now
