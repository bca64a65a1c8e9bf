use Rattle.std.proofs.Common.{◌≡◌, arith}
use Rattle.std.specs.Prelude.{IsSome}
use Rattle.std.proofs.lemmas.Grind.{common_steps}
use Rattle.std.proofs.lemmas.List.Elements.{All-same}
use Rattle.visit_book.specs.Places.{stand_of}
use Rattle.visit_book.specs.declared.visits.PartRow.{PartRow}
use Rattle.plan_lists.specs.Held.{held_on}
use Rattle.plan_lists.proofs.OnStands.{held_are_on}
use Rattle.plan_lists.proofs.held.held_on.Goals as goal

pub returns-clause-placed : goal.returns-clause-placed
returns-clause-placed c =
    let plan = c.args.plan.now.plan in
    let is : c.loop-visit.rows ≡ held_on plan c.args.day = grind (arith, common_steps) in
    All-same (λ (row : PartRow). IsSome (stand_of row.part.place)) c.loop-visit.rows (held_on plan c.args.day) is (held_are_on plan c.args.day)
