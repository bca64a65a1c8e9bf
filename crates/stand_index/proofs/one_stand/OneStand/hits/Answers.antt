use Rattle.std.proofs.Common.{◌≤◌, ◌+◌, subst}
use Rattle.stand_index.specs.Slots.{StandSlots}
use Rattle.stand_index.specs.Steps.{most_steps}
use Rattle.stand_index.proofs.Blocks.{all_steps, planned_steps}
use Rattle.stand_index.proofs.one_stand.OneStand.hits.Goals as goal

pub returns-in_err-hits-clause-steps : goal.returns-in_err-hits-clause-steps
returns-in_err-hits-clause-steps g c =
    let P : StandSlots → Type 0 = λ slots. c.hits_of_rising.new.steps ≤ c.args.steps.now + most_steps slots c.args.from c.args.end in
    subst P c.self.view_is (planned_steps _ c.args.from c.args.end _ _ c.hits_of_rising.ensures.steps)

pub returns-in_err-push_hits-clause-steps : goal.returns-in_err-push_hits-clause-steps
returns-in_err-push_hits-clause-steps g c =
    let P : StandSlots → Type 0 = λ slots. c.push_hits.new.steps ≤ c.args.steps.now + most_steps slots c.args.from c.args.end in
    subst P c.self.view_is (all_steps _ c.args.from c.args.end _ _ _ c.hits_of_rising.ensures.steps c.push_hits.ensures.steps)

pub returns-clause-steps : goal.returns-clause-steps
returns-clause-steps g c =
    let P : StandSlots → Type 0 = λ slots. c.push_hits.new.steps ≤ c.args.steps.now + most_steps slots c.args.from c.args.end in
    subst P c.self.view_is (all_steps _ c.args.from c.args.end _ _ _ c.hits_of_rising.ensures.steps c.push_hits.ensures.steps)
