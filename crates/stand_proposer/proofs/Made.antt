-- Edits that put parts on stands, with one more.
use Rattle.std.proofs.Common.{◌≡◌, ◌∙◌, ◌<◌, ◌+◌, inl, inr, ℕ, List, [], ◌∷◌, ◌++◌, refl, sym, ap, subst, arith, length, length-append, append_assoc, append-nil, Option, None, Some, Result, Ok, Err}
use Rattle.std.specs.Prelude.{Contains, ◌↔◌}
use Rattle.std.proofs.lemmas.List.Elements.{All-nil, All-push, Contains-append_cases, Contains-append_left, Contains-append_right, Contains-push, Contains-push_cases}
use Rattle.apron_base.specs.declared.numbers.PartId.{PartId}
use Rattle.apron_base.specs.declared.numbers.StandNo.{StandNo}
use Rattle.apron_base.specs.declared.numbers.TypeNo.{TypeNo}
use Rattle.apron_base.specs.declared.slot.Slot.{Slot}
use Rattle.apron_rules.specs.declared.parts.AirportParts.{AirportParts}
use Rattle.apron_rules.specs.declared.rules.Clash.{Clash}
use Rattle.apron_rules.specs.declared.rules.UnfitBy.{UnfitBy}
use Rattle.apron_rules.specs.Clash.{IsFirstClash, IsSlotOf, IsSound}
use Rattle.apron_rules.specs.Neighbours.{first_stands}
use Rattle.apron_rules.specs.Rules.{unfit_of}
use Rattle.apron_rules.proofs.Symmetry.{sound_from_none}
use Rattle.stand_index.specs.Slots.{StandSlots}
use Rattle.clash_check.specs.Indexed.{all_slots}
use Rattle.visit_book.specs.declared.edits.Edit.{Edit}
use Rattle.visit_book.specs.declared.edits.EditFault.{EditFault}
use Rattle.visit_book.specs.declared.edits.EditFault.TheVariants as fault
use Rattle.visit_book.specs.declared.visits.Part.{Part}
use Rattle.visit_book.specs.declared.visits.Place.TheVariants.{Planned}
use Rattle.visit_book.specs.declared.visits.Visit.{Visit}
use Rattle.visit_book.specs.Edits.{IsEditOf, most_edits}
use Rattle.visit_book.specs.Numbers.{with_visit}
use Rattle.visit_book.specs.PartFields.{part_at}
use Rattle.visit_book.specs.Slots.{slot_on, slots_of}
use Rattle.plan_core.specs.Edits.{after_all_edits, part_at_place}
use Rattle.plan_core.specs.Indexed.{IsIndexed}
use Rattle.plan_core.specs.PlanState.{IsPlan, PlanState}
use Rattle.plan_core.proofs.IndexedVisits.{first_same, sound_within}
use Rattle.visit_book.specs.declared.visits.PartRow.{PartRow}
use Rattle.stand_proposer.specs.declared.proposals.Why.{Why}
use Rattle.stand_proposer.specs.declared.proposals.Why.TheVariants as why
use Rattle.stand_proposer.specs.Clauses.{ClashesWith}
use Rattle.stand_proposer.specs.Proposals.{AreWhys, IsFirstFit, IsWhy, put_edit}
use Rattle.stand_proposer.specs.SoFar.{IsProposedSoFar, IsUnput, Waits, WaitsInPlan, slots_so_far}
use Rattle.stand_proposer.specs.Trials.{AreTrials, IsFirstTaker, IsTrial, slot_at}
use Rattle.stand_proposer.proofs.Puts.{edits_push, put_fits, put_slots, put_unfit, still_waits, visit_after, waits_number}
use Rattle.stand_proposer.proofs.OneMore.{with_it, zip_map}

abbrev refused : ℕ → UnfitBy → Result (List Visit) EditFault
refused n by = Err (fault.Unfit n by)

-- a part that waits beside edits that do not put it on a stand, and the slots that there are then,
-- in any order
pub record IsTurn (plan : PlanState) (edits : List Edit) (slots others : List Slot) (row : PartRow) (visit : Visit) : Type 0 where
  pub made : IsProposedSoFar plan edits slots
  pub kind : TypeNo
  pub waits : Waits plan plan.visits kind row
  pub visit_is : waits.visit ≡ visit
  pub unasked : IsUnput edits row.id
  pub same : (y : Slot) → Contains others y ↔ Contains (slots_so_far plan slots) y

module _ (plan : PlanState) (edits : List Edit) (slots others : List Slot) (row : PartRow) (visit : Visit) (turn : IsTurn plan edits slots others row visit) where
  -- it waits after the edits too
  abbrev now : Waits plan turn.made.new turn.kind row
  now = turn.made.waits turn.kind row turn.waits turn.unasked

  -- the visits after one more edit, which puts it on the stand
  abbrev pub new_with : StandNo → List Visit
  new_with stand = with_visit turn.made.new (visit_after now.visit row stand)

  kind_is : turn.kind ≡ visit.kind
  kind_is = sym turn.waits.kind_is ∙ ap (λ (v : Visit). v.kind) turn.visit_is

  number_is : visit.number ≡ row.id.visit
  number_is = ap (λ (v : Visit). v.number) (sym turn.visit_is) ∙ waits_number plan plan.visits turn.kind row turn.waits

  alike : (a : AirportParts) (v w : Visit) (k : ℕ) (part : Part) (stand : StandNo) → v.number ≡ w.number → v.kind ≡ w.kind → slot_on a v k part stand ≡ slot_on a w k part stand
  alike a v w k part stand number kind = rw (number, kind) refl

  -- its slot on the stand
  slot_is : (stand : StandNo) → slot_on plan.airport now.visit row.id.part (part_at_place (Planned stand) row.part) stand ≡ slot_at plan.airport visit row stand
  slot_is stand =
      alike plan.airport now.visit visit row.id.part (part_at_place (Planned stand) row.part) stand
      (waits_number plan turn.made.new turn.kind row now ∙ sym number_is) (now.kind_is ∙ kind_is)

  put_now : (stand : StandNo) (y : Slot) → Contains (slots_of plan.airport turn.made.new ++ slot_at plan.airport visit row stand ∷ []) y ↔ Contains (slots_of plan.airport (new_with stand)) y
  put_now stand y =
      subst (λ (x : Slot). Contains (slots_of plan.airport turn.made.new ++ x ∷ []) y ↔ Contains (slots_of plan.airport (new_with stand)) y) (slot_is stand)
      (put_slots plan plan.airport turn.made.new turn.kind row stand now y)

  -- the slots that there are then
  pub same_with : (stand : StandNo) (y : Slot) → Contains (others ++ slot_at plan.airport visit row stand ∷ []) y ↔ Contains (slots_of plan.airport (new_with stand)) y
  same_with stand y =
      let x = slot_at plan.airport visit row stand in
      let before = slots_of plan.airport turn.made.new in (
        λ h. (put_now stand y).0 (elim (Contains-push_cases others x y h) [
          | inl old ↦ Contains-append_left before (x ∷ []) y ((turn.made.adds y).0 ((turn.same y).0 old))
          | inr own ↦ subst (Contains (before ++ x ∷ [])) own (Contains-push before x)
        ]),
        λ h. elim (Contains-push_cases before x y ((put_now stand y).1 h)) [
          | inl old ↦ Contains-append_left others (x ∷ []) y ((turn.same y).1 ((turn.made.adds y).1 old))
          | inr own ↦ subst (Contains (others ++ x ∷ [])) own (Contains-push others x)
        ],
      )

  first_with : (stand : StandNo) (found : Option Clash) → IsFirstClash plan.airport (others ++ slot_at plan.airport visit row stand ∷ []) found
      → IsFirstClash plan.airport (slots_of plan.airport (new_with stand)) found
  first_with stand found h = first_same plan.airport (others ++ slot_at plan.airport visit row stand ∷ []) (slots_of plan.airport (new_with stand)) found (same_with stand) h

  fits_by : (stand : StandNo) (unfit : Option UnfitBy) → unfit_of plan.airport stand visit.kind ≡ unfit → unfit_of plan.airport stand turn.kind ≡ unfit
  fits_by stand unfit h = ap (unfit_of plan.airport stand) kind_is ∙ h

  pub apply_with : (stand : StandNo) → unfit_of plan.airport stand visit.kind ≡ None
      → after_all_edits plan.airport plan.version (edits ++ put_edit row.id stand ∷ []) plan.visits ≡ Ok (new_with stand)
  apply_with stand fits =
      edits_push plan.airport plan.version 1 edits (put_edit row.id stand) plan.visits turn.made.new turn.made.apply
      ∙ put_fits plan turn.made.new turn.kind row stand (1 + length edits) now (fits_by stand None fits)

  refused_with : (stand : StandNo) (by : UnfitBy) → unfit_of plan.airport stand visit.kind ≡ Some by
      → after_all_edits plan.airport plan.version (edits ++ put_edit row.id stand ∷ []) plan.visits ≡ Err (fault.Unfit (length edits + 1) by)
  refused_with stand by unfit =
      let number : 1 + length edits ≡ length edits + 1 = omega arith in
      edits_push plan.airport plan.version 1 edits (put_edit row.id stand) plan.visits turn.made.new turn.made.apply
      ∙ (put_unfit plan turn.made.new turn.kind row stand (1 + length edits) by now (fits_by stand (Some by) unfit)
      ∙ ap (λ (n : ℕ). refused n by) number)

  pub sound_others : IsSound plan.airport others
  sound_others = sound_within plan.airport (slots_of plan.airport turn.made.new) others (λ y h. (turn.made.adds y).0 ((turn.same y).0 h)) turn.made.sound

  -- a trial that fails gives a reason
  pub why_is : (stand : StandNo) (reason : Why) → IsTrial plan.airport others (slot_at plan.airport visit row stand) (Some reason) → IsWhy plan edits row.id stand reason
  why_is stand (why.Unfit by) h = refused_with stand by h
  why_is stand (why.Clash clash) h = (new_with stand, apply_with stand h.0, first_with stand (Some clash) h.1)

  pub whys_are : (count : ℕ) (reasons : List Why) → AreTrials plan.airport others visit row count reasons → AreWhys plan edits row.id count reasons
  whys_are count reasons h = zip_map (λ stand reason. IsTrial plan.airport others (slot_at plan.airport visit row stand) (Some reason)) (IsWhy plan edits row.id) (first_stands count) reasons (λ stand reason k. why_is stand reason k) h

  -- a clash that is found is with one of these slots
  pub clash_is : (stand : StandNo) (clash : Clash) → IsTrial plan.airport others (slot_at plan.airport visit row stand) (Some (why.Clash clash))
      → ClashesWith plan (slots_so_far plan slots) row.id stand clash
  clash_is stand clash h =
      let x = slot_at plan.airport visit row stand in
      let found = with_it plan.airport others x clash sound_others h.1.0 in
      record {
        slot = x;
        is = rw (turn.waits.at, turn.visit_is) (rw (ap (λ (v : Visit). part_at v.parts row.id.part) (sym turn.visit_is) ∙ turn.waits.part) refl);
        other = found.0;
        among = (turn.same found.0).0 found.1;
        clashes = found.2;
      }

  sound_with : (stand : StandNo) → IsTrial plan.airport others (slot_at plan.airport visit row stand) None → IsSound plan.airport (slots_of plan.airport (new_with stand))
  sound_with stand h = sound_from_none plan.airport (slots_of plan.airport (new_with stand)) (first_with stand None h.1)

  takes_there : (slot : Slot) → (taker : IsFirstTaker plan.airport others visit row slot) → IsTrial plan.airport others (slot_at plan.airport visit row taker.stand) None
  takes_there slot taker = subst (λ (x : Slot). IsTrial plan.airport others x None) taker.is taker.takes

  -- a trial that passes first is the first fit
  pub first_fit : (slot : Slot) → (taker : IsFirstTaker plan.airport others visit row slot) → IsFirstFit plan edits row.id taker.stand
  first_fit slot taker =
      let takes = takes_there slot taker in
      record {
        inside = taker.inside;
        new = new_with taker.stand;
        rebases = record { apply = apply_with taker.stand takes.0; sound = sound_with taker.stand takes };
        whys = taker.whys;
        before = whys_are taker.stand.0 taker.whys taker.before;
      }

  adds_with : (stand : StandNo) (y : Slot) → Contains (slots_so_far plan (slots ++ slot_at plan.airport visit row stand ∷ [])) y ↔ Contains (slots_of plan.airport (new_with stand)) y
  adds_with stand y =
      let x = slot_at plan.airport visit row stand in
      let before = slots_so_far plan slots in
      let whole : before ++ x ∷ [] ≡ slots_so_far plan (slots ++ x ∷ []) = append_assoc (slots_of plan.airport plan.visits) slots (x ∷ []) in
      subst (λ (all : List Slot). Contains all y ↔ Contains (slots_of plan.airport (new_with stand)) y) whole (
        λ h. (same_with stand y).0 (elim (Contains-push_cases before x y h) [
          | inl old ↦ Contains-append_left others (x ∷ []) y ((turn.same y).1 old)
          | inr own ↦ subst (Contains (others ++ x ∷ [])) own (Contains-push others x)
        ]),
        λ h. elim (Contains-push_cases others x y ((same_with stand y).1 h)) [
          | inl old ↦ Contains-append_left before (x ∷ []) y ((turn.same y).0 old)
          | inr own ↦ subst (Contains (before ++ x ∷ [])) own (Contains-push before x)
        ],
      )

  waits_with : (stand : StandNo) (kind : TypeNo) (other : PartRow) → Waits plan plan.visits kind other → IsUnput (edits ++ put_edit row.id stand ∷ []) other.id
      → Waits plan (new_with stand) kind other
  waits_with stand kind other waits unasked =
      still_waits plan turn.made.new turn.kind row stand now kind other
      (turn.made.waits kind other waits (λ s listed. unasked s (Contains-append_left edits (put_edit row.id stand ∷ []) (put_edit other.id s) listed)))
      (λ same. unasked stand (subst (λ (id : PartId). Contains (edits ++ put_edit row.id stand ∷ []) (put_edit id stand)) (sym same) (Contains-push edits (put_edit row.id stand))))

  -- with one more edit they still apply
  pub made_with : (slot : Slot) → length edits < most_edits → visit.kind.0 < length plan.airport.types → (taker : IsFirstTaker plan.airport others visit row slot)
      → IsProposedSoFar plan (edits ++ put_edit row.id taker.stand ∷ []) (slots ++ slot ∷ [])
  made_with slot few kind taker =
      let takes = takes_there slot taker in
      subst (λ (x : Slot). IsProposedSoFar plan (edits ++ put_edit row.id taker.stand ∷ []) (slots ++ x ∷ [])) (sym taker.is)
      (record {
        new = new_with taker.stand;
        apply = apply_with taker.stand takes.0;
        sound = sound_with taker.stand takes;
        adds = adds_with taker.stand;
        waits = waits_with taker.stand;
        slots_are = All-push (IsSlotOf plan.airport) slots (slot_at plan.airport visit row taker.stand) turn.made.slots_are (taker.inside, kind);
        edits_are = All-push (IsEditOf plan.airport) edits (put_edit row.id taker.stand) turn.made.edits_are taker.inside;
        few = omega (arith, few, length-append edits (put_edit row.id taker.stand ∷ []));
      })

-- the slots of an index of the plan, and those that edits add
same_slots : (plan : PlanState) (index held : List StandSlots) (slots more : List Slot) → index ≡ held → IsIndexed plan.airport held plan.visits → more ≡ slots
    → (y : Slot) → Contains (all_slots index ++ more) y ↔ Contains (slots_so_far plan slots) y
same_slots plan index held slots more same indexed added y =
    let own = slots_of plan.airport plan.visits in
    subst (λ (xs : List Slot). Contains (all_slots index ++ xs) y ↔ Contains (slots_so_far plan slots) y) (sym added)
    (subst (λ (stands : List StandSlots). Contains (all_slots stands ++ slots) y ↔ Contains (slots_so_far plan slots) y) (sym same) (
      λ h. elim (Contains-append_cases (all_slots held) slots y h) [
        | inl first ↦ Contains-append_left own slots y ((indexed.slots y).0 first)
        | inr later ↦ Contains-append_right own slots y later
      ],
      λ h. elim (Contains-append_cases own slots y h) [
        | inl first ↦ Contains-append_left (all_slots held) slots y ((indexed.slots y).1 first)
        | inr later ↦ Contains-append_right (all_slots held) slots y later
      ],
    ))

-- it is the turn of a part that waits in the plan
pub turn_of : (plan : PlanState) (index held : List StandSlots) (edits : List Edit) (slots more : List Slot) (row : PartRow) (visit : Visit) → IsProposedSoFar plan edits slots → (waits : WaitsInPlan plan row)
    → waits.1.visit ≡ visit → IsUnput edits row.id → index ≡ held → IsIndexed plan.airport held plan.visits → more ≡ slots
    → IsTurn plan edits slots (all_slots index ++ more) row visit
turn_of plan index held edits slots more row visit made waits is unasked same indexed added = record {
  made = made;
  kind = waits.0;
  waits = waits.1;
  visit_is = is;
  unasked = unasked;
  same = same_slots plan index held slots more same indexed added;
}

no_edits : (plan : PlanState) → IsPlan plan → IsProposedSoFar plan [] []
no_edits plan is =
    let none : slots_so_far plan [] ≡ slots_of plan.airport plan.visits = append-nil (slots_of plan.airport plan.visits) in
    record {
      new = plan.visits;
      apply = refl;
      sound = is.sound;
      adds = λ y. (λ h. subst (λ (all : List Slot). Contains all y) none h, λ h. subst (λ (all : List Slot). Contains all y) (sym none) h);
      waits = λ kind row waits unasked. waits;
      slots_are = All-nil (IsSlotOf plan.airport);
      edits_are = All-nil (IsEditOf plan.airport);
      few = omega arith;
    }

-- no edits at all
pub nothing_made : (plan : PlanState) (edits : List Edit) (slots : List Slot) → IsPlan plan → edits ≡ [] → slots ≡ [] → IsProposedSoFar plan edits slots
nothing_made plan edits slots is e f = subst (λ (es : List Edit). IsProposedSoFar plan es slots) (sym e) (subst (IsProposedSoFar plan []) (sym f) (no_edits plan is))

-- a visit that is found
pub found_is : (found : Option Visit) (v w : Visit) → found ≡ Some v → found ≡ Some w → v ≡ w
found_is found v w e f = let same : ◌≡◌ {A = Option Visit} (Some v) (Some w) = sym e ∙ f in cc
