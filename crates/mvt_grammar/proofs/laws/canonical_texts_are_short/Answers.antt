use Rattle.mvt_grammar.proofs.Lengths.{length-canonical}
use Rattle.mvt_grammar.proofs.laws.canonical_texts_are_short.Goals as goal

pub returns : goal.returns
returns c = record { few = length-canonical }
