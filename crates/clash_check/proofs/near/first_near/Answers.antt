use Rattle.std.proofs.Common.{◌≡◌, ◌∙◌, refl, subst, arith, length, ap, take, take_all, List}
use Rattle.std.specs.List.{flat_map}
use Rattle.std.proofs.lemmas.List.Sums.{sum_by_more}
use Rattle.apron_base.specs.declared.numbers.StandNo.{StandNo}
use Rattle.apron_rules.specs.Neighbours.{neighbours_of}
use Rattle.apron_rules.proofs.Least.{least_same}
use Rattle.stand_index.specs.Slots.{at_stand}
use Rattle.stand_index.specs.Steps.{most_steps}
use Rattle.clash_check.specs.FirstWith.{IsFirstWith}
use Rattle.clash_check.proofs.Among.{one_more_stand, with_more}
use Rattle.clash_check.proofs.Looked.{clash_to_near, near_to_clash, neighbours_inside, others_at}
use Rattle.clash_check.proofs.near.first_near.Goals as goal

pub first_at-requires-clause-stand : goal.first_at-requires-clause-stand
first_at-requires-clause-stand g c =
    neighbours_inside c.args.airport.now c.args.index.now c.args.slot.now.stand c.neighbours-neighbours.result.now c.neighbours-neighbours.ensures.neighbours c.requires.clear.stands
    c.loop-place.place (record { 0 = 0 }) c.loop-place-test.true

pub loop-place-preserved : goal.loop-place-preserved
loop-place-preserved g c =
    let index = c.args.index.now in
    let slot = c.args.slot.now in
    let stands = c.neighbours-neighbours.result.now in
    let others = others_at index c.args.without.now in
    record {
      first = with_more c.args.airport.now slot (flat_map others (take c.loop-place.place stands)) _ _ c.loop-place.first c.in_ok-found.found c.sooner-first.result
          (one_more_stand others stands c.loop-place.place (record { 0 = 0 }) c.loop-place-test.true) c.loop-place.invariant.first c.in_ok-found.ensures.first c.sooner-first.ensures.sooner;
      steps = omega (arith, sum_by_more (λ (s : StandNo). most_steps (at_stand index s) slot.from slot.end) stands c.loop-place.place (record { 0 = 0 }) c.loop-place-test.true, c.in_ok-found.ensures.steps, c.loop-place.invariant.steps);
      index = λ some. c.in_ok-found.ensures.index;
    }

pub returns-clause-first : goal.returns-clause-first
returns-clause-first g c =
    let airport = c.args.airport.now in
    let index = c.args.index.now in
    let slot = c.args.slot.now in
    let without = c.args.without.now in
    let listed = c.neighbours-neighbours.ensures.neighbours in
    let whole : take c.loop-place.place c.neighbours-neighbours.result.now ≡ neighbours_of airport slot.stand = take_all c.loop-place.place c.neighbours-neighbours.result.now c.loop-place-test.false ∙ listed in
    least_same _ _ c.loop-place.first
    (λ d. near_to_clash airport index without slot d (neighbours_inside airport index slot.stand (neighbours_of airport slot.stand) refl c.requires.clear.stands))
    (λ d. clash_to_near airport index without slot d c.neighbours-neighbours.ensures.airport.faultless (λ some. c.loop-place.invariant.index (omega (arith, some, ap length listed, c.loop-place-test.false))))
    (subst (λ (stands : List StandNo). IsFirstWith airport slot (flat_map (others_at index without) stands) c.loop-place.first) whole c.loop-place.invariant.first)
