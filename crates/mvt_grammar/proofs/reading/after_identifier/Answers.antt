use Rattle.std.proofs.Common.{sym, ◌∙◌, arith}
use Rattle.mvt_grammar.specs.Spans.{piece_of, rest_lines}
use Rattle.mvt_grammar.proofs.Identifying.{identifier-none, identifier-past, identifier-step}
use Rattle.mvt_grammar.proofs.reading.after_identifier.Goals as goal

pub returns-in_default : goal.returns-in_default
returns-in_default c = record { value = grind (arith, identifier-none) }

pub returns-then-eq : goal.returns-then-eq
returns-then-eq c = let step = identifier-step c.loop-looked_at._looked_at (piece_of c.line.result.0) (rest_lines c.line.result.1) (omega arith) in record { value = grind arith }

pub loop-looked_at-preserved : goal.loop-looked_at-preserved
loop-looked_at-preserved c = let step = identifier-step c.loop-looked_at._looked_at (piece_of c.line.result.0) (rest_lines c.line.result.1) (omega arith) in grind arith

pub returns : goal.returns
returns c = record { value = sym c.loop-looked_at.invariant ∙ identifier-past c.loop-looked_at._looked_at (rest_lines c.loop-looked_at.left) (omega arith) }
