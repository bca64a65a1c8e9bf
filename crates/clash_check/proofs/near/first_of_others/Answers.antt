use Rattle.std.proofs.Common.{take, take_all, subst, List}
use Rattle.std.specs.Prelude.{filter}
use Rattle.apron_base.specs.declared.slot.Slot.{Slot}
use Rattle.clash_check.specs.Clear.{is_of_other}
use Rattle.clash_check.specs.FirstWith.{IsFirstWith}
use Rattle.clash_check.proofs.Among.{one_more_passed, with_more, with_none}
use Rattle.clash_check.proofs.near.first_of_others.Goals as goal

pub loop-other-init : goal.loop-other-init
loop-other-init c = with_none c.args.airport.now c.args.slot.now

pub loop-other-preserved : goal.loop-other-preserved
loop-other-preserved c =
    let other = is_of_other c.args.without.now in
    with_more c.args.airport.now c.args.slot.now (filter other (take c.loop-other.other-index c.args.slots.now)) _ _ c.loop-other.first c.clash_with_other.result c.sooner-first.result
    (one_more_passed other c.args.slots.now c.loop-other.other-index _ c.loop-other-test.true) c.loop-other.invariant c.clash_with_other.ensures.first c.sooner-first.ensures.sooner

pub returns : goal.returns
returns c = record {
  first = subst (λ (xs : List Slot). IsFirstWith c.args.airport.now c.args.slot.now (filter (is_of_other c.args.without.now) xs) c.loop-other.first)
      (take_all c.loop-other.other-index c.args.slots.now c.loop-other-test.false) c.loop-other.invariant;
}
