use Rattle.std.proofs.Common.{arith, take, take_all, subst, List, None}
use Rattle.apron_base.specs.declared.slot.Slot.{Slot}
use Rattle.clash_check.specs.FirstWith.{IsFirstWith}
use Rattle.clash_check.proofs.Among.{one_more, sooner_none, with_more, with_none}
use Rattle.clash_check.proofs.Looked.{passed_over}
use Rattle.clash_check.proofs.near.first_among.Goals.{then-may_meet, else-may_meet}
use Rattle.clash_check.proofs.near.first_among.Goals as goal

pub loop-other-init : goal.loop-other-init
loop-other-init g c = record { first = with_none c.args.airport.now c.args.slot.now; steps = omega arith }

pub loop-other-preserved : goal.loop-other-preserved
loop-other-preserved g c =
    let one = one_more c.args.slots.now c.loop-other.other-index _ c.loop-other-test.true in
    let front = take c.loop-other.other-index c.args.slots.now in
    let airport = c.args.airport.now in
    let slot = c.args.slot.now in
    record {
      first = elim c.if-may_meet.branch [
        | then-may_meet w ↦ rw w.first-is (with_more airport slot front _ _ c.loop-other.first w.clash_of_both.result w.sooner-first.result one c.loop-other.invariant.first w.clash_of_both.ensures.first w.sooner-first.ensures.sooner)
        | else-may_meet w ↦ rw w.first-is (with_more airport slot front _ _ c.loop-other.first None c.loop-other.first one c.loop-other.invariant.first (passed_over airport slot _ (c.may_meet.ensures.never w.if-may_meet.false)) (sooner_none c.loop-other.first))
      ];
      steps = omega (arith, c.tick.ensures.step, c.loop-other.invariant.steps);
    }

pub returns-clause-first : goal.returns-clause-first
returns-clause-first g c =
    subst (λ (xs : List Slot). IsFirstWith c.args.airport.now c.args.slot.now xs c.loop-other.first) (take_all c.loop-other.other-index c.args.slots.now c.loop-other-test.false) c.loop-other.invariant.first
