use Rattle.std.proofs.Common.{◌≡◌, ◌-◌, Some}
use Rattle.mvt_grammar.specs.Reading.{after_identifier}
use Rattle.mvt_grammar.specs.Spans.{rest_lines}
use Rattle.mvt_grammar.proofs.reading.after_identifier.Given as goal

abbrev pub invariant-loop-looked_at : goal.invariant-loop-looked_at
invariant-loop-looked_at l = after_identifier (21 - l._looked_at) (rest_lines l.left) ≡ after_identifier 21 (rest_lines (Some l.fn.text))
