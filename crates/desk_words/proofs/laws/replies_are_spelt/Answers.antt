use Rattle.std.proofs.Common.{refl}
use Rattle.std.specs.Fmt.{digits}
use Rattle.serde_json.proofs.OnLiterals.{serde_json_on_literals}
use Rattle.desk_words.specs.Replies.{reply_text}
use Rattle.desk_words.proofs.laws.replies_are_spelt.Goals as goal

pub returns-clause-committed : goal.returns-clause-committed
unfolding digits serde_json_on_literals reply_text
returns-clause-committed c = λ airport. refl

pub returns-clause-visit : goal.returns-clause-visit
unfolding digits serde_json_on_literals reply_text
returns-clause-visit c = refl

pub returns-clause-plan : goal.returns-clause-plan
unfolding digits serde_json_on_literals reply_text
returns-clause-plan c = refl

pub returns-clause-unplaced : goal.returns-clause-unplaced
unfolding digits serde_json_on_literals reply_text
returns-clause-unplaced c = refl

pub returns-clause-chart : goal.returns-clause-chart
unfolding digits serde_json_on_literals reply_text
returns-clause-chart c = λ airport. refl

pub returns-clause-unfit : goal.returns-clause-unfit
unfolding digits serde_json_on_literals reply_text
returns-clause-unfit c = λ airport. refl

pub returns-clause-clash : goal.returns-clause-clash
unfolding digits serde_json_on_literals reply_text
returns-clause-clash c = λ airport. refl
