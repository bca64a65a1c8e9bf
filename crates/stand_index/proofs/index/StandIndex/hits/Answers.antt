use Rattle.std.proofs.Common.{◌≤◌, ◌+◌, List, arith, length, rules, subst, sym}
use Rattle.stand_index.specs.Slots.{IsIndex, AreSlotsAt, StandSlots, at_stand, hits_of}
use Rattle.stand_index.specs.Steps.{binary_digits}
use Rattle.stand_index.proofs.Blocks.{most_within}
use Rattle.stand_index.proofs.Stands.{at_read, planned_minutes}
use Rattle.stand_index.proofs.index.StandIndex.hits.Given.{Over}
use Rattle.stand_index.proofs.index.StandIndex.hits.Goals as goal

the_stand : (g : Over) (c : goal.After-hits-arg-1 g) → AreSlotsAt c.args.stand c.index.result.now
the_stand g c =
    let inside = c.self.inside.stands.items in
    subst (AreSlotsAt c.args.stand) (at_read inside c.args.stand c.index.result.now (search rules) c.index.ensures) (c.self.invariant c.args.stand)

pub hits-requires-clause-rise : goal.hits-requires-clause-rise
hits-requires-clause-rise g c = (the_stand g c).rise

pub hits-requires-clause-minutes : goal.hits-requires-clause-minutes
hits-requires-clause-minutes g c = planned_minutes c.args.stand c.index.result.now (the_stand g c)

pub returns-clause-index : goal.returns-clause-index
returns-clause-index g c = subst IsIndex c.self.view_is c.self.invariant

pub returns-clause-bound : goal.returns-clause-bound
returns-clause-bound g c =
    let inside = c.self.inside.stands.items in
    let P : StandSlots → Type 0 = λ slots.
    c.hits.new.steps ≤ c.args.steps.now + binary_digits (length slots.planned) + 1 + length (hits_of slots c.args.from c.args.end) + length slots.actual in
    let Q : List StandSlots → Type 0 = λ index. P (at_stand index c.args.stand) in
    subst Q c.self.view_is
    (subst P (sym (at_read inside c.args.stand c.index.result.now (search rules) c.index.ensures))
    (omega (arith, c.hits.ensures.steps, most_within c.index.result.now c.args.from c.args.end)))
