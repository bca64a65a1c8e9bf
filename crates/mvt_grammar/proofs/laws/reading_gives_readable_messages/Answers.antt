use Rattle.mvt_grammar.proofs.Gives.{read_mvt_of-readable}
use Rattle.mvt_grammar.proofs.laws.reading_gives_readable_messages.Goals as goal

pub returns : goal.returns
returns c = record { readable = read_mvt_of-readable }
