use Rattle.std.proofs.Common.{◌≡◌, length}
use Rattle.mvt_grammar.specs.Spans.{left_cut, left_words}
use Rattle.mvt_grammar.proofs.pieces.Span.word.Given as goal

abbrev pub invariant-loop-left : goal.invariant-loop-left
invariant-loop-left l = left_words l.left ≡ left_words l.fn.line

abbrev pub decreases-loop-left : goal.decreases-loop-left
decreases-loop-left l = length (left_cut 32 l.left)
