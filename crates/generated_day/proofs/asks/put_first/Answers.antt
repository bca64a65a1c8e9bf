use Rattle.std.proofs.Common.{◌∙◌}
use Rattle.generated_day.proofs.OfDay.{put_of_day, stand_of_day}
use Rattle.generated_day.proofs.asks.put_first.Goals as goal

pub returns-clause-valid : goal.returns-clause-valid
returns-clause-valid c = put_of_day c.from_vec.result _ (c.from_vec.ensures.items ∙ c.in_ok-edits.ensures.items) (stand_of_day c.args.stand c.requires.stand)
