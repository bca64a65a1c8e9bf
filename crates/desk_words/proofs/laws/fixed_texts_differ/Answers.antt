use Rattle.desk_words.proofs.Apart.{early_apart, early_one, fixed_apart}
use Rattle.desk_words.proofs.laws.fixed_texts_differ.Goals as goal

pub returns : goal.returns
returns c = record { fixed = fixed_apart; early = early_apart; one = early_one }
