use Rattle.std.proofs.Common.{◌≡◌, ◌∙◌, ◌-◌, ◌++◌, ℕ, List, arith, length, subst, sym, ap, take, take_all}
use Rattle.std.specs.Prelude.{All, sum_by}
use Rattle.std.specs.List.{flat_map}
use Rattle.std.proofs.lemmas.List.Elements.{filter_map-append}
use Rattle.std.proofs.lemmas.List.Sums.{sum_by_more, sum_by_more_le}
use Rattle.apron_base.specs.declared.numbers.StandNo.{StandNo}
use Rattle.apron_base.specs.declared.slot.Slot.{Slot}
use Rattle.apron_rules.specs.Clash.{IsSlotOf}
use Rattle.apron_rules.specs.Neighbours.{neighbours_of}
use Rattle.apron_rules.specs.declared.rules.Clash.{Clash}
use Rattle.stand_index.specs.Slots.{at_stand, hits_of}
use Rattle.stand_index.specs.Steps.{most_steps}
use Rattle.clash_check.specs.Indexed.{all_slots}
use Rattle.clash_check.specs.Meetings.{clash_within, clashes_within}
use Rattle.clash_check.proofs.Among.{one_more_stand}
use Rattle.clash_check.proofs.Everywhere.{all_clashes, some_neighbour}
use Rattle.clash_check.proofs.Looked.{all_hits, neighbours_inside}
use Rattle.clash_check.proofs.clashes.clashes_near.Goals as goal

pub hits-requires : goal.hits-requires
hits-requires g c = record {
  stand = neighbours_inside c.args.airport.now c.args.index.now c.args.slot.now.stand c.neighbours-neighbours.result.now c.neighbours-neighbours.ensures.neighbours c.requires.clear.stands
      c.loop-place.place (record { 0 = 0 }) c.loop-place-test.true;
}

pub push_clashes-requires-clause-others : goal.push_clashes-requires-clause-others
push_clashes-requires-clause-others g c =
    let inside = neighbours_inside c.args.airport.now c.args.index.now c.args.slot.now.stand c.neighbours-neighbours.result.now c.neighbours-neighbours.ensures.neighbours c.requires.clear.stands
    c.loop-place.place (record { 0 = 0 }) c.loop-place-test.true in
    subst (All (IsSlotOf c.args.airport.now)) (sym (c.deref.ensures.value ∙ c.in_ok-hits.ensures.hits))
    (all_hits (IsSlotOf c.args.airport.now) c.args.index.now _ c.max-first.result c.min-last.result inside c.requires.clear.slots)

pub returns-in_err-push_clashes-clause-steps : goal.returns-in_err-push_clashes-clause-steps
returns-in_err-push_clashes-clause-steps g c =
    let stands = c.neighbours-neighbours.result.now in
    let f : StandNo → ℕ = λ s. most_steps (at_stand c.args.index.now s) c.max-first.result c.min-last.result in
    rw (← c.max-first.ensures, ← c.min-last.ensures) (
    omega (arith, sum_by_more_le f stands c.loop-place.place (record { 0 = 0 }) c.loop-place-test.true, c.in_ok-hits.ensures.steps, c.loop-place.invariant.steps, ap (λ (ys : List StandNo). sum_by f ys) c.neighbours-neighbours.ensures.neighbours)
    )

pub loop-place-preserved : goal.loop-place-preserved
loop-place-preserved g c =
    let airport = c.args.airport.now in
    let stands = c.neighbours-neighbours.result.now in
    let index = c.args.index.now in
    let slot = c.args.slot.now in
    let more = c.args.end - c.args.from in
    let f : StandNo → List Slot = λ s. hits_of (at_stand index s) c.max-first.result c.min-last.result in
    let before = flat_map f (take c.loop-place.place stands) in
    let hits = c.deref.ensures.value ∙ c.in_ok-hits.ensures.hits in
    record {
      clashes = c.in_ok-push_clashes.ensures.clashes
          ∙ (ap (λ (xs : List Clash). xs ++ clashes_within airport slot c.args.from more c.deref.result.now) c.loop-place.invariant.clashes
          ∙ (ap (λ (xs : List Slot). clashes_within airport slot c.args.from more before ++ clashes_within airport slot c.args.from more xs) hits
          ∙ (sym (filter_map-append (clash_within airport slot c.args.from more) before (f _))
          ∙ ap (clashes_within airport slot c.args.from more) (one_more_stand f stands c.loop-place.place (record { 0 = 0 }) c.loop-place-test.true))));
      steps = omega (arith, sum_by_more (λ (s : StandNo). most_steps (at_stand index s) c.max-first.result c.min-last.result) stands c.loop-place.place (record { 0 = 0 }) c.loop-place-test.true, c.in_ok-hits.ensures.steps, c.loop-place.invariant.steps);
      index = λ some. c.in_ok-hits.ensures.index;
    }

pub returns-clause-clashes : goal.returns-clause-clashes
returns-clause-clashes g c =
    let airport = c.args.airport.now in
    let listed = c.neighbours-neighbours.ensures.neighbours in
    let none = c.neighbours-neighbours.ensures.airport.faultless in
    let index = c.args.index.now in
    let slot = c.args.slot.now in
    let more = c.args.end - c.args.from in
    let f : StandNo → List Slot = λ s. hits_of (at_stand index s) c.max-first.result c.min-last.result in
    let whole : take c.loop-place.place c.neighbours-neighbours.result.now ≡ neighbours_of airport slot.stand = take_all c.loop-place.place c.neighbours-neighbours.result.now c.loop-place-test.false ∙ listed in
    let some = some_neighbour airport slot none c.requires.slot in
    let all : clashes_within airport slot c.args.from more (flat_map f (neighbours_of airport slot.stand)) ≡ clashes_within airport slot c.args.from more (all_slots index) =
    rw (c.max-first.ensures, c.min-last.ensures) (
    all_clashes airport index slot c.args.from c.args.end none (c.loop-place.invariant.index (omega (arith, some, ap length listed, c.loop-place-test.false))) c.requires.clear.stands
    ) in
    c.loop-place.invariant.clashes
    ∙ (ap (λ (stands : List StandNo). clashes_within airport slot c.args.from more (flat_map f stands)) whole
    ∙ all)
