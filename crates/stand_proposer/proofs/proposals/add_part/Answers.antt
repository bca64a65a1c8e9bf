use Rattle.std.proofs.Common.{◌≡◌, ◌<◌, ◌∙◌, ◌++◌, List, ap, arith, length, subst, sym}
use Rattle.std.specs.Option.{option_copied}
use Rattle.apron_rules.specs.declared.parts.AirportParts.{AirportParts}
use Rattle.apron_rules.specs.Clash.{IsSound}
use Rattle.clash_check.specs.Indexed.{all_slots}
use Rattle.visit_book.specs.declared.visits.Visit.{Visit}
use Rattle.visit_book.specs.Edits.{most_edits}
use Rattle.visit_book.specs.Numbers.{visit_at}
use Rattle.visit_book.specs.WellFormed.{IsWellFormed}
use Rattle.stand_proposer.specs.Trials.{AreTrials, IsFirstTaker, IsTriedOn}
use Rattle.stand_proposer.proofs.Decided.{all_more_slots, always_ok, fits_decided, fits_made, if_ok, left_decided, left_push, over_decided}
use Rattle.stand_proposer.proofs.Made.{found_is, sound_others, turn_of}
use Rattle.stand_proposer.proofs.proposals.add_part.Goals as goal

pub returns-then-len-ge-MAX_EDITS-clause-decided : goal.returns-then-len-ge-MAX_EDITS-clause-decided
returns-then-len-ge-MAX_EDITS-clause-decided g c =
    if_ok c.push.result (λ more. over_decided c.args.plan.now.plan c.args.proposing.now.proposal c.args.row.now.id c.push.new.self (omega (arith, c.len.ensures.count, c.if-len-ge-MAX_EDITS.true)) more)
    c.push.ensures.ok

pub first_stand-requires-clause-sound : goal.first_stand-requires-clause-sound
first_stand-requires-clause-sound g c =
    let plan = c.args.plan.now.plan in
    let before = c.args.proposing.now.proposal in
    let slots = c.args.proposing.now.slots in
    let visit = c.unwrap-visit.result.now in
    let others = all_slots c.index.result.now ++ c.as_slice-slots.result.now in
    let is : c.requires.waits.1.visit ≡ visit = found_is (visit_at plan.visits c.args.row.now.id.visit) c.requires.waits.1.visit visit c.requires.waits.1.at
    (ap (λ (visits : List Visit). visit_at visits c.args.row.now.id.visit) (sym c.requires.visits) ∙ (sym c.visit_at.ensures.is ∙ ap option_copied c.unwrap-visit.ensures)) in
    let turn = turn_of plan c.index.result.now c.args.plan.now.index before.edits slots c.as_slice-slots.result.now c.args.row.now visit
    c.requires.made c.requires.waits is c.requires.unasked c.index.ensures.value c.index.ensures.indexed c.as_slice-slots.ensures.items in
    subst (λ (a : AirportParts). IsSound a others) (sym c.requires.airport) (sound_others plan before.edits slots others c.args.row.now visit turn)

pub first_stand-requires-clause-visit : goal.first_stand-requires-clause-visit
first_stand-requires-clause-visit g c =
    let plan = c.args.plan.now.plan in
    let before = c.args.proposing.now.proposal in
    let slots = c.args.proposing.now.slots in
    let visit = c.unwrap-visit.result.now in
    let others = all_slots c.index.result.now ++ c.as_slice-slots.result.now in
    let is : c.requires.waits.1.visit ≡ visit = found_is (visit_at plan.visits c.args.row.now.id.visit) c.requires.waits.1.visit visit c.requires.waits.1.at
    (ap (λ (visits : List Visit). visit_at visits c.args.row.now.id.visit) (sym c.requires.visits) ∙ (sym c.visit_at.ensures.is ∙ ap option_copied c.unwrap-visit.ensures)) in
    let turn = turn_of plan c.index.result.now c.args.plan.now.index before.edits slots c.as_slice-slots.result.now c.args.row.now visit
    c.requires.made c.requires.waits is c.requires.unasked c.index.ensures.value c.index.ensures.indexed c.as_slice-slots.ensures.items in
    subst (λ (a : AirportParts). IsWellFormed a visit) (sym c.requires.airport) (subst (IsWellFormed plan.airport) is c.requires.waits.2)

pub returns-in_ok-push-in-Fits-clause-decided : goal.returns-in_ok-push-in-Fits-clause-decided
returns-in_ok-push-in-Fits-clause-decided g c =
    let plan = c.args.plan.now.plan in
    let before = c.args.proposing.now.proposal in
    let slots = c.args.proposing.now.slots in
    let visit = c.unwrap-visit.result.now in
    let others = all_slots c.index.result.now ++ c.as_slice-slots.result.now in
    let is : c.requires.waits.1.visit ≡ visit = found_is (visit_at plan.visits c.args.row.now.id.visit) c.requires.waits.1.visit visit c.requires.waits.1.at
    (ap (λ (visits : List Visit). visit_at visits c.args.row.now.id.visit) (sym c.requires.visits) ∙ (sym c.visit_at.ensures.is ∙ ap option_copied c.unwrap-visit.ensures)) in
    let turn = turn_of plan c.index.result.now c.args.plan.now.index before.edits slots c.as_slice-slots.result.now c.args.row.now visit
    c.requires.made c.requires.waits is c.requires.unasked c.index.ensures.value c.index.ensures.indexed c.as_slice-slots.ensures.items in
    let few : length before.edits < most_edits = omega (arith, c.len.ensures.count, c.if-len-ge-MAX_EDITS.false) in
    let taker : IsFirstTaker plan.airport others visit c.args.row.now c.in-Fits.slot =
    subst (λ (a : AirportParts). IsFirstTaker a others visit c.args.row.now c.in-Fits.slot) c.requires.airport
    (subst (IsTriedOn c.args.airport.now others visit c.args.row.now) c.in-Fits.is c.in_ok-slot.ensures.tried) in
    always_ok c.push-in-Fits-2.result
    (fits_decided plan before slots others c.args.row.now visit c.in-Fits.slot c.push-in-Fits.new.self few turn taker c.in_ok-push-in-Fits.ensures.ok)

pub returns-in_ok-push-in-Fits-clause-made : goal.returns-in_ok-push-in-Fits-clause-made
returns-in_ok-push-in-Fits-clause-made g c =
    let plan = c.args.plan.now.plan in
    let before = c.args.proposing.now.proposal in
    let slots = c.args.proposing.now.slots in
    let visit = c.unwrap-visit.result.now in
    let others = all_slots c.index.result.now ++ c.as_slice-slots.result.now in
    let is : c.requires.waits.1.visit ≡ visit = found_is (visit_at plan.visits c.args.row.now.id.visit) c.requires.waits.1.visit visit c.requires.waits.1.at
    (ap (λ (visits : List Visit). visit_at visits c.args.row.now.id.visit) (sym c.requires.visits) ∙ (sym c.visit_at.ensures.is ∙ ap option_copied c.unwrap-visit.ensures)) in
    let turn = turn_of plan c.index.result.now c.args.plan.now.index before.edits slots c.as_slice-slots.result.now c.args.row.now visit
    c.requires.made c.requires.waits is c.requires.unasked c.index.ensures.value c.index.ensures.indexed c.as_slice-slots.ensures.items in
    let few : length before.edits < most_edits = omega (arith, c.len.ensures.count, c.if-len-ge-MAX_EDITS.false) in
    let taker : IsFirstTaker plan.airport others visit c.args.row.now c.in-Fits.slot =
    subst (λ (a : AirportParts). IsFirstTaker a others visit c.args.row.now c.in-Fits.slot) c.requires.airport
    (subst (IsTriedOn c.args.airport.now others visit c.args.row.now) c.in-Fits.is c.in_ok-slot.ensures.tried) in
    let formed : IsWellFormed plan.airport visit = subst (IsWellFormed plan.airport) is c.requires.waits.2 in
    if_ok c.push-in-Fits-2.result (λ added. fits_made plan before.edits c.push-in-Fits.new.self slots others c.push-in-Fits-2.new.self c.args.row.now visit c.in-Fits.slot few formed.kind turn taker
    c.in_ok-push-in-Fits.ensures.ok added) c.push-in-Fits-2.ensures.ok

pub returns-in_ok-push-in-Fits-clause-told : goal.returns-in_ok-push-in-Fits-clause-told
returns-in_ok-push-in-Fits-clause-told g c =
    if_ok c.push-in-Fits-2.result (λ added. all_more_slots c.args.plan.now.plan c.args.proposing.now.slots c.push-in-Fits-2.new.self c.in-Fits.slot c.args.proposing.now.proposal.left c.requires.told added)
    c.push-in-Fits-2.ensures.ok

pub returns-in-Refused-clause-decided : goal.returns-in-Refused-clause-decided
returns-in-Refused-clause-decided g c =
    let plan = c.args.plan.now.plan in
    let before = c.args.proposing.now.proposal in
    let slots = c.args.proposing.now.slots in
    let visit = c.unwrap-visit.result.now in
    let others = all_slots c.index.result.now ++ c.as_slice-slots.result.now in
    let is : c.requires.waits.1.visit ≡ visit = found_is (visit_at plan.visits c.args.row.now.id.visit) c.requires.waits.1.visit visit c.requires.waits.1.at
    (ap (λ (visits : List Visit). visit_at visits c.args.row.now.id.visit) (sym c.requires.visits) ∙ (sym c.visit_at.ensures.is ∙ ap option_copied c.unwrap-visit.ensures)) in
    let turn = turn_of plan c.index.result.now c.args.plan.now.index before.edits slots c.as_slice-slots.result.now c.args.row.now visit
    c.requires.made c.requires.waits is c.requires.unasked c.index.ensures.value c.index.ensures.indexed c.as_slice-slots.ensures.items in
    let few : length before.edits < most_edits = omega (arith, c.len.ensures.count, c.if-len-ge-MAX_EDITS.false) in
    let trials : AreTrials plan.airport others visit c.args.row.now (length plan.airport.stands) c.in-Refused.why =
    subst (λ (a : AirportParts). AreTrials a others visit c.args.row.now (length a.stands) c.in-Refused.why) c.requires.airport
    (subst (IsTriedOn c.args.airport.now others visit c.args.row.now) c.in-Refused.is c.in_ok-slot.ensures.tried) in
    if_ok c.push-in-Refused.result (λ more. left_decided plan before slots others c.args.row.now visit c.in-Refused.why c.push-in-Refused.new.self few turn trials more) c.push-in-Refused.ensures.ok

pub returns-in-Refused-clause-told : goal.returns-in-Refused-clause-told
returns-in-Refused-clause-told g c =
    let plan = c.args.plan.now.plan in
    let before = c.args.proposing.now.proposal in
    let slots = c.args.proposing.now.slots in
    let visit = c.unwrap-visit.result.now in
    let others = all_slots c.index.result.now ++ c.as_slice-slots.result.now in
    let is : c.requires.waits.1.visit ≡ visit = found_is (visit_at plan.visits c.args.row.now.id.visit) c.requires.waits.1.visit visit c.requires.waits.1.at
    (ap (λ (visits : List Visit). visit_at visits c.args.row.now.id.visit) (sym c.requires.visits) ∙ (sym c.visit_at.ensures.is ∙ ap option_copied c.unwrap-visit.ensures)) in
    let turn = turn_of plan c.index.result.now c.args.plan.now.index before.edits slots c.as_slice-slots.result.now c.args.row.now visit
    c.requires.made c.requires.waits is c.requires.unasked c.index.ensures.value c.index.ensures.indexed c.as_slice-slots.ensures.items in
    let trials : AreTrials plan.airport others visit c.args.row.now (length plan.airport.stands) c.in-Refused.why =
    subst (λ (a : AirportParts). AreTrials a others visit c.args.row.now (length a.stands) c.in-Refused.why) c.requires.airport
    (subst (IsTriedOn c.args.airport.now others visit c.args.row.now) c.in-Refused.is c.in_ok-slot.ensures.tried) in
    if_ok c.push-in-Refused.result (λ more. left_push plan before.edits slots others c.args.row.now visit before.left c.push-in-Refused.new.self c.in-Refused.why turn trials c.requires.told more)
    c.push-in-Refused.ensures.ok
