use Rattle.mvt_grammar.proofs.RoundTrip.{canonical-same}
use Rattle.mvt_grammar.proofs.laws.canonical_texts_tell_messages_apart.Goals as goal

pub returns : goal.returns
returns c = record { same = canonical-same }
