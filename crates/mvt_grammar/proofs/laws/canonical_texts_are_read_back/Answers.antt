use Rattle.mvt_grammar.proofs.RoundTrip.{read_mvt_of-canonical}
use Rattle.mvt_grammar.proofs.laws.canonical_texts_are_read_back.Goals as goal

pub returns : goal.returns
returns c = record { read = read_mvt_of-canonical }
