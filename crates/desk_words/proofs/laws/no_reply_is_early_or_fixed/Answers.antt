use Rattle.desk_words.proofs.Versions.{reply_not_early, reply_not_fixed}
use Rattle.desk_words.proofs.laws.no_reply_is_early_or_fixed.Goals as goal

pub returns : goal.returns
returns c = record { early = reply_not_early; fixed = reply_not_fixed }
