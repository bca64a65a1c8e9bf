-- The parts that lost their stands by the last entry.
use Rattle.std.specs.Prelude.{List, []}
use Rattle.apron_base.specs.declared.numbers.PartId.{PartId}
use Rattle.plan_core.specs.PlanState.{PlanState}
use Rattle.bump_core.specs.Bumped.{bumped_by}
use Rattle.desk_words.specs.declared.replies.ReplyBody.{ReplyBody}
use Rattle.desk_words.specs.declared.replies.ReplyBody.TheVariants.{Message, Reported}

-- the parts that lost their stands by the last entry of the plan, in order of visit and part
abbrev pub last_bumped : PlanState → List PartId
last_bumped plan = bumped_by plan.version plan.visits

-- the parts that a reply says to have lost their stands
abbrev pub bumped_in : ReplyBody → List PartId
bumped_in (Message bumped visit) = bumped
bumped_in (Reported bumped) = bumped
bumped_in told = []
