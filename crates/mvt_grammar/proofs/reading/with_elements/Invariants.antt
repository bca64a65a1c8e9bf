use Rattle.std.proofs.Common.{◌≡◌, length}
use Rattle.mvt_grammar.specs.Left.{left_marks}
use Rattle.mvt_grammar.specs.Reading.{with_marks}
use Rattle.mvt_grammar.proofs.reading.with_elements.Given as goal

abbrev pub invariant-loop-mark : goal.invariant-loop-mark
invariant-loop-mark l = with_marks l.message (left_marks l.left) ≡ with_marks l.fn.heading (left_marks l.fn.start)

abbrev pub decreases-loop-mark : goal.decreases-loop-mark
decreases-loop-mark l = length (left_marks l.left)
