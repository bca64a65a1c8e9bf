-- Parts decided one after the other.
use Rattle.std.proofs.Common.{◌≡◌, ◌∙◌, ◌<◌, ◌≤◌, ◌+◌, ◌⊎◌, inl, inr, ℕ, List, [], ◌∷◌, ◌++◌, refl, sym, ap, subst, arith, length, get_or, map, take, append_assoc, Some, Result, Ok, Err}
use Rattle.std.specs.Prelude.{All, Contains, OnOk}
use Rattle.std.proofs.lemmas.List.{take_more}
use Rattle.std.proofs.lemmas.List.Elements.{All-nil, All-push, All-weaker, Contains-append_left, Contains-push_cases}
use Rattle.apron_base.specs.declared.numbers.PartId.{PartId}
use Rattle.apron_base.specs.declared.numbers.StandNo.{StandNo}
use Rattle.apron_base.specs.declared.slot.Slot.{Slot}
use Rattle.visit_book.specs.declared.edits.Edit.{Edit}
use Rattle.visit_book.specs.declared.visits.Visit.{Visit}
use Rattle.visit_book.specs.Edits.{most_edits}
use Rattle.visit_book.specs.Slots.{slots_of}
use Rattle.plan_core.specs.PlanState.{PlanState}
use Rattle.plan_core.proofs.Results.{ok_is}
use Rattle.bump_core.proofs.Blockers.{map_append}
use Rattle.visit_book.specs.declared.visits.PartRow.{PartRow}
use Rattle.stand_proposer.specs.declared.proposals.Left.{Left}
use Rattle.stand_proposer.specs.declared.proposals.Proposal.{Proposal}
use Rattle.stand_proposer.specs.declared.proposals.Why.{Why}
use Rattle.stand_proposer.specs.declared.proposals.Why.TheVariants as why
use Rattle.stand_proposer.specs.Clauses.{ClashesAmong, ClashesHold, ClashesWith}
use Rattle.stand_proposer.specs.Proposals.{AreDecided, IsDecided, nothing_proposed, put_edit}
use Rattle.stand_proposer.specs.SoFar.{IsProposedSoFar, IsUnput, slots_so_far}
use Rattle.stand_proposer.specs.Trials.{AreTrials, IsFirstTaker, IsTrial, slot_at}
use Rattle.stand_proposer.proofs.Made.{IsTurn, clash_is, first_fit, made_with, whys_are}
use Rattle.stand_proposer.proofs.Puts.{id_is}
use Rattle.stand_proposer.proofs.OneMore.{at_stand}

-- one more part after others
pub decided_push : (plan : PlanState) (before : Proposal) (parts : List PartId) (part : PartId) (between after : Proposal) → AreDecided plan before parts between
    → IsDecided plan between part after → AreDecided plan before (parts ++ part ∷ []) after
decided_push plan before [] part between after h k = (after, subst (λ (p : Proposal). IsDecided plan p part after) h k, refl)
decided_push plan before (first ∷ parts) part between after h k = (h.0, h.1, decided_push plan h.0 parts part between after h.2 k)

-- what holds after a call that gives a value
pub always_ok : {T E P : Type 0} (r : Result T E) → P → OnOk r P
always_ok (Ok x) p = p
always_ok (Err e) p = tt

pub if_ok : {T E P Q : Type 0} (r : Result T E) → (P → Q) → OnOk r P → OnOk r Q
if_ok (Ok x) f p = f p
if_ok (Err e) f p = tt

-- a part that is put
pub fits_decided : (plan : PlanState) (before : Proposal) (slots others : List Slot) (row : PartRow) (visit : Visit) (slot : Slot) (edits : List Edit) → length before.edits < most_edits
    → IsTurn plan before.edits slots others row visit → IsFirstTaker plan.airport others visit row slot
    → edits ≡ before.edits ++ put_edit row.id slot.stand ∷ [] → IsDecided plan before row.id (record before { edits = edits })
fits_decided plan before slots others row visit slot edits few turn taker more =
    let is : edits ≡ before.edits ++ put_edit row.id taker.stand ∷ [] = more ∙ ap (λ (x : Slot). before.edits ++ put_edit row.id x.stand ∷ []) taker.is in
    inl (few, inl (taker.stand, first_fit plan before.edits slots others row visit turn slot taker, ap (λ (es : List Edit). record before { edits = es }) is))

pub fits_made : (plan : PlanState) (before edits : List Edit) (slots others after : List Slot) (row : PartRow) (visit : Visit) (slot : Slot) → length before < most_edits
    → visit.kind.0 < length plan.airport.types → IsTurn plan before slots others row visit → IsFirstTaker plan.airport others visit row slot
    → edits ≡ before ++ put_edit row.id slot.stand ∷ [] → after ≡ slots ++ slot ∷ [] → IsProposedSoFar plan edits after
fits_made plan before edits slots others after row visit slot few kind turn taker more added =
    let is : edits ≡ before ++ put_edit row.id taker.stand ∷ [] = more ∙ ap (λ (x : Slot). before ++ put_edit row.id x.stand ∷ []) taker.is in
    subst (λ (es : List Edit). IsProposedSoFar plan es after) (sym is)
    (subst (λ (xs : List Slot). IsProposedSoFar plan (before ++ put_edit row.id taker.stand ∷ []) xs) (sym added) (made_with plan before slots others row visit turn slot few kind taker))

-- a part that is left
pub left_decided : (plan : PlanState) (before : Proposal) (slots others : List Slot) (row : PartRow) (visit : Visit) (reasons : List Why) (lefts : List Left) → length before.edits < most_edits
    → IsTurn plan before.edits slots others row visit → AreTrials plan.airport others visit row (length plan.airport.stands) reasons
    → lefts ≡ before.left ++ record { part = row.id; why = reasons } ∷ [] → IsDecided plan before row.id (record before { left = lefts })
left_decided plan before slots others row visit reasons lefts few turn trials more =
    inl (few, inr (reasons, whys_are plan before.edits slots others row visit turn (length plan.airport.stands) reasons trials, ap (λ (ls : List Left). record before { left = ls }) more))

-- a part that is not tried
pub over_decided : (plan : PlanState) (before : Proposal) (part : PartId) (overs : List PartId) → most_edits ≤ length before.edits → overs ≡ before.over ++ part ∷ []
    → IsDecided plan before part (record before { over = overs })
over_decided plan before part overs full more = inr (full, ap (λ (ids : List PartId). record before { over = ids }) more)

-- what a decided part changes
record Changes (before : Proposal) (part : PartId) (after : Proposal) : Type 0 where
  base : after.base ≡ before.base
  edits : (after.edits ≡ before.edits) ⊎ ((stand : StandNo) × (after.edits ≡ before.edits ++ put_edit part stand ∷ []))

changes : (plan : PlanState) (before : Proposal) (part : PartId) (after : Proposal) → IsDecided plan before part after → Changes before part after
changes plan before part after (inl (few, inl (stand, fit, is))) = record { base = ap (λ (p : Proposal). p.base) is; edits = inr (stand, ap (λ (p : Proposal). p.edits) is) }
changes plan before part after (inl (few, inr (reasons, are, is))) = record { base = ap (λ (p : Proposal). p.base) is; edits = inl (ap (λ (p : Proposal). p.edits) is) }
changes plan before part after (inr (full, is)) = record { base = ap (λ (p : Proposal). p.base) is; edits = inl (ap (λ (p : Proposal). p.edits) is) }

pub decided_base : (plan : PlanState) (before : Proposal) (part : PartId) (after : Proposal) → IsDecided plan before part after → after.base ≡ before.base
decided_base plan before part after h = (changes plan before part after h).base

id_of_put : (id other : PartId) (s t : StandNo) → put_edit id s ≡ put_edit other t → id ≡ other
id_of_put id other s t e =
    let visit : id.visit ≡ other.visit = cc in
    let part : id.part ≡ other.part = cc in
    id_is id other visit part

-- the edits put no other part
pub decided_asks : (plan : PlanState) (before : Proposal) (part : PartId) (after : Proposal) (other : PartId) → IsDecided plan before part after → (part ≡ other → ⊥)
    → IsUnput before.edits other → IsUnput after.edits other
decided_asks plan before part after other h apart unasked stand listed =
    elim (changes plan before part after h).edits [
      | inl same ↦ unasked stand (subst (λ (edits : List Edit). Contains edits (put_edit other stand)) same listed)
      | inr more ↦ elim (Contains-push_cases before.edits (put_edit part more.0) (put_edit other stand) (subst (λ (edits : List Edit). Contains edits (put_edit other stand)) more.1 listed)) [
        | inl old ↦ unasked stand old
        | inr own ↦ apart (id_of_put part other more.0 stand own)
      ]
    ]

-- clashes with slots are clashes with more slots
more_slots : (plan : PlanState) (xs ys : List Slot) (left : Left) → ((y : Slot) → Contains xs y → Contains ys y) → ClashesAmong plan xs left → ClashesAmong plan ys left
more_slots plan xs ys left within h stand clash told =
    let found : ClashesWith plan xs left.part stand clash = h stand clash told in
    record { slot = found.slot; is = found.is; other = found.other; among = within found.other found.among; clashes = found.clashes }

one_more_slot : (plan : PlanState) (slots : List Slot) (slot : Slot) (lefts : List Left) → All (ClashesAmong plan (slots_so_far plan slots)) lefts
    → All (ClashesAmong plan (slots_so_far plan (slots ++ slot ∷ []))) lefts
one_more_slot plan slots slot lefts h =
    let more : slots_so_far plan slots ++ slot ∷ [] ≡ slots_so_far plan (slots ++ slot ∷ []) = append_assoc (slots_of plan.airport plan.visits) slots (slot ∷ []) in
    All-weaker (ClashesAmong plan (slots_so_far plan slots)) (ClashesAmong plan (slots_so_far plan (slots ++ slot ∷ [])))
    (λ left k. more_slots plan (slots_so_far plan slots) (slots_so_far plan (slots ++ slot ∷ [])) left
    (λ y listed. subst (λ (all : List Slot). Contains all y) more (Contains-append_left (slots_so_far plan slots) (slot ∷ []) y listed)) k) lefts h

pub all_more_slots : (plan : PlanState) (slots after : List Slot) (slot : Slot) (lefts : List Left) → All (ClashesAmong plan (slots_so_far plan slots)) lefts
    → after ≡ slots ++ slot ∷ [] → All (ClashesAmong plan (slots_so_far plan after)) lefts
all_more_slots plan slots after slot lefts h added =
    subst (λ (xs : List Slot). All (ClashesAmong plan (slots_so_far plan xs)) lefts) (sym added) (one_more_slot plan slots slot lefts h)

-- one more part that no stand takes
pub left_push : (plan : PlanState) (edits : List Edit) (slots others : List Slot) (row : PartRow) (visit : Visit) (lefts after : List Left) (reasons : List Why) → IsTurn plan edits slots others row visit
    → AreTrials plan.airport others visit row (length plan.airport.stands) reasons → All (ClashesAmong plan (slots_so_far plan slots)) lefts
    → after ≡ lefts ++ record { part = row.id; why = reasons } ∷ [] → All (ClashesAmong plan (slots_so_far plan slots)) after
left_push plan edits slots others row visit lefts after reasons turn trials h more =
    subst (All (ClashesAmong plan (slots_so_far plan slots))) (sym more)
    (All-push (ClashesAmong plan (slots_so_far plan slots)) lefts (record { part = row.id; why = reasons }) h
    (λ stand clash told. clash_is plan edits slots others row visit turn stand clash
    (at_stand (λ stand reason. IsTrial plan.airport others (slot_at plan.airport visit row stand) (Some reason)) (length plan.airport.stands) reasons stand (why.Clash clash) trials told)))

-- the clashes given for a part are with parts of the plan after the edits
pub clashes_hold : (plan : PlanState) (edits : List Edit) (slots : List Slot) (lefts : List Left) → IsProposedSoFar plan edits slots → All (ClashesAmong plan (slots_so_far plan slots)) lefts
    → All (ClashesHold plan edits) lefts
clashes_hold plan edits slots lefts made h =
    All-weaker (ClashesAmong plan (slots_so_far plan slots)) (ClashesHold plan edits)
    (λ left k new apply.
    let same : made.new ≡ new = ok_is made.new new (sym made.apply ∙ apply) in
    more_slots plan (slots_so_far plan slots) (slots_of plan.airport new) left
    (λ y listed. subst (λ (vs : List Visit). Contains (slots_of plan.airport vs) y) same ((made.adds y).0 listed)) k) lefts h

-- a proposal before any part
pub nothing_is : (plan : PlanState) (base : ℕ) (edits : List Edit) (left : List Left) (over : List PartId) → base ≡ plan.version → edits ≡ [] → left ≡ [] → over ≡ []
    → ◌≡◌ {A = Proposal} (record { base = base; edits = edits; left = left; over = over }) (nothing_proposed plan)
nothing_is plan base edits left over e f g h = rw (e, f, g, h) refl

pub nothing_asked : (edits : List Edit) (part : PartId) → edits ≡ [] → IsUnput edits part
nothing_asked edits part e stand listed = omega (arith, (subst (λ (es : List Edit). Contains es (put_edit part stand)) e listed).1)

pub nothing_left : (plan : PlanState) (slots : List Slot) (lefts : List Left) → lefts ≡ [] → All (ClashesAmong plan slots) lefts
nothing_left plan slots lefts e = subst (All (ClashesAmong plan slots)) (sym e) (All-nil (ClashesAmong plan slots))

-- one more row
pub rows_decided : (plan : PlanState) (before : Proposal) (rows : List PartRow) (i : ℕ) (d : PartRow) (between after : Proposal) → i < length rows
    → AreDecided plan before (map (λ (row : PartRow). row.id) (take i rows)) between → IsDecided plan between (get_or rows i d).id after
    → AreDecided plan before (map (λ (row : PartRow). row.id) (take (i + 1) rows)) after
rows_decided plan before rows i d between after inside h k =
    let ids : List PartRow → List PartId = map (λ (row : PartRow). row.id) in
    let more : ids (take i rows) ++ (get_or rows i d).id ∷ [] ≡ ids (take (i + 1) rows) =
    sym (map_append (λ (row : PartRow). row.id) (take i rows) (get_or rows i d ∷ [])) ∙ ap ids (sym (take_more rows i d inside)) in
    subst (λ (parts : List PartId). AreDecided plan before parts after) more (decided_push plan before (ids (take i rows)) (get_or rows i d).id between after h k)
