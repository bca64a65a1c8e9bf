use Rattle.shown_board.proofs.show.close_all.Given as goal

abbrev pub decreases-loop-writer : goal.decreases-loop-writer
decreases-loop-writer g l = goal.left-loop-writer g l
