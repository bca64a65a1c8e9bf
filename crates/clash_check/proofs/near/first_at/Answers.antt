use Rattle.std.proofs.Common.{◌≡◌, ◌∙◌, subst, sym, List}
use Rattle.std.specs.Prelude.{All, filter}
use Rattle.apron_base.specs.declared.slot.Slot.{Slot}
use Rattle.apron_rules.specs.Clash.{IsSlotOf}
use Rattle.apron_rules.proofs.Least.{least_same}
use Rattle.stand_index.specs.Slots.{at_stand, hits_of}
use Rattle.clash_check.specs.Clear.{is_of_other}
use Rattle.clash_check.specs.FirstWith.{IsFirstWith}
use Rattle.clash_check.proofs.Looked.{all_hits, clash_to_hit, hit_to_clash}
use Rattle.clash_check.proofs.near.first_at.Goals as goal

pub first_of_others-first-requires-clause-slots : goal.first_of_others-first-requires-clause-slots
first_of_others-first-requires-clause-slots g c =
    subst (All (IsSlotOf c.args.airport.now)) (sym (c.deref.ensures.value ∙ c.in_ok-hits.ensures.hits))
    (all_hits (IsSlotOf c.args.airport.now) c.args.index.now c.args.stand c.args.slot.now.from c.args.slot.now.end c.requires.stand c.requires.slots)

pub returns-clause-first : goal.returns-clause-first
returns-clause-first g c =
    let airport = c.args.airport.now in
    let slot = c.args.slot.now in
    let without = c.args.without.now in
    let slots = at_stand c.args.index.now c.args.stand in
    let is : c.deref.result.now ≡ hits_of slots slot.from slot.end = c.deref.ensures.value ∙ c.in_ok-hits.ensures.hits in
    least_same _ _ c.first_of_others-first.result (hit_to_clash airport slots without slot) (clash_to_hit airport slots without slot)
    (subst (λ (xs : List Slot). IsFirstWith airport slot (filter (is_of_other without) xs) c.first_of_others-first.result) is c.first_of_others-first.ensures.first)
