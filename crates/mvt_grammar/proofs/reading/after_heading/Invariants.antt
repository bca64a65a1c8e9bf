use Rattle.std.proofs.Common.{◌≡◌, length}
use Rattle.mvt_grammar.specs.Reading.{after_heading}
use Rattle.mvt_grammar.specs.Spans.{rest_lines}
use Rattle.mvt_grammar.proofs.reading.after_heading.Given as goal

abbrev pub invariant-loop-left : goal.invariant-loop-left
invariant-loop-left l = after_heading (rest_lines l.left) ≡ after_heading (rest_lines l.fn.lines)

abbrev pub decreases-loop-left : goal.decreases-loop-left
decreases-loop-left l = length (rest_lines l.left)
