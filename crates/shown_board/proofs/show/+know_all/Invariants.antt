use Rattle.std.proofs.Common.{length}
use Rattle.shown_board.proofs.show.+know_all.Given as goal

abbrev pub decreases-know_all : goal.decreases-know_all
decreases-know_all l = length l.writers.now
