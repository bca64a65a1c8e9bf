use Rattle.std.proofs.Common.{◌≡◌, length}
use Rattle.mvt_grammar.specs.Left.{left_marks}
use Rattle.mvt_grammar.specs.Spans.{left_cut}
use Rattle.mvt_grammar.proofs.reading.next_of.Given as goal

abbrev pub invariant-loop-mark : goal.invariant-loop-mark
invariant-loop-mark l = left_marks l.left ≡ left_marks l.fn.start

abbrev pub decreases-loop-mark : goal.decreases-loop-mark
decreases-loop-mark l = length (left_cut 10 l.left.lines)
