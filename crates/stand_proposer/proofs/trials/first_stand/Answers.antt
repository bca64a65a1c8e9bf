use Rattle.std.proofs.Common.{◌+◌, ◌++◌, Some, subst, sym}
use Rattle.apron_base.specs.declared.numbers.StandNo.{StandNo}
use Rattle.apron_base.specs.declared.slot.Slot.{Slot}
use Rattle.clash_check.specs.Indexed.{all_slots}
use Rattle.stand_proposer.specs.Trials.{AreTrials, IsTrial, slot_at}
use Rattle.stand_proposer.proofs.OneMore.{stands_push}
use Rattle.stand_proposer.proofs.trials.first_stand.Goals as goal

pub loop-number-preserved : goal.loop-number-preserved
loop-number-preserved g c =
    let airport = c.args.airport.now in
    let others = all_slots c.args.index.now ++ c.args.more.now in
    let trial = subst (λ (x : Slot). IsTrial airport others x (Some c.in-Some.why)) c.slot_at-slot.ensures.is
    (subst (IsTrial airport others c.slot_at-slot.result) c.in-Some.is c.in_ok-why.ensures.trial) in
    subst (AreTrials airport others c.args.visit.now c.args.row.now (c.loop-number.number + 1)) (sym c.in_ok-push-in-Some.ensures.ok)
    (stands_push (λ (stand : StandNo) why. IsTrial airport others (slot_at airport c.args.visit.now c.args.row.now stand) (Some why)) c.loop-number.number c.loop-number.whys c.in-Some.why
    c.loop-number.invariant trial)
