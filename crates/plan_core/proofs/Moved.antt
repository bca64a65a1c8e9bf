-- Changes of the plan's visits that can be installed.
use Rattle.std.proofs.Common.{◌≡◌, ◌<◌, ◌≤◌, ◌+◌, ◌-◌, ℕ, zero, suc, Bool, true, false, List, [], ◌∷◌, ◌++◌, ap, arith, drop, inl, inr, length, map, nat_le, nat_lt, refl, subst, take, None, Some}
use Rattle.std.specs.Prelude.{Contains, slice_index_or, slice_set}
use Rattle.std.proofs.lemmas.Bool.Decides.{nat_tests}
use Rattle.std.proofs.lemmas.List.{length-map}
use Rattle.std.proofs.lemmas.List.Elements.{All-from_recursion, All-map, Contains-append_cases, Contains-append_left, Contains-append_right}
use Rattle.apron_base.specs.declared.slot.Slot.{Slot}
use Rattle.apron_base.proofs.Rising.{rises_more}
use Rattle.apron_rules.specs.declared.parts.AirportParts.{AirportParts}
use Rattle.apron_rules.specs.Clash.{IsSound}
use Rattle.visit_book.specs.declared.visits.Part.{Part}
use Rattle.visit_book.specs.declared.visits.Place.TheVariants.{Unplaced}
use Rattle.visit_book.specs.declared.visits.Visit.{Visit}
use Rattle.visit_book.specs.Numbers.{IsNumbered, visit_at}
use Rattle.visit_book.specs.Places.{IsPlaceOf, is_actual, stand_of}
use Rattle.visit_book.specs.Slots.{slots_from, slots_of, slots_of_visit}
use Rattle.visit_book.specs.WellFormed.{IsEarlyIfShort, IsSpaced, IsWellFormed, latest_end}
use Rattle.visit_book.proofs.ByPlace.{visit_at-outside}
use Rattle.plan_core.specs.Moving.{IsCancellable, IsChangedCopy, IsMovable, cancelled_visit, lifted_part, move_change}
use Rattle.plan_core.specs.PlanState.{IsInstallable, IsPlan, IsVisitAt, KeepsOrAdds, PlanState, version_limit, visit_number}
use Rattle.plan_core.specs.Visits.{IsThereOrNext}
use Rattle.plan_core.proofs.Bumps.{no_bump_in}
use Rattle.plan_core.proofs.EditKept.{found_has}
use Rattle.plan_core.proofs.Puts.{by_case}

one_of_keeps : (visits : List Visit) (visit : Visit) → IsChangedCopy visits visit → KeepsOrAdds visits visit
one_of_keeps visits visit h = rw h.at h.same

-- changed visits that the plan's next entry may put in can be installed
pub moving_fits : (plan : PlanState) (visits : List Visit) → IsMovable plan visits → plan.version + 1 < version_limit → IsInstallable plan (move_change plan visits)
moving_fits plan visits h last = record {
  version = refl;
  last = last;
  each = h.each;
  rise = rises_more visit_number 1 (length plan.visits + 1) (length plan.visits + 2) visits h.rise (omega arith);
  same = λ k d within. one_of_keeps plan.visits (slice_index_or visits k d) (h.same k d within);
  slots = refl;
  draft = tt;
  sound = h.sound;
}

-- lifted parts keep their times
lifted_spaced : (tow start : ℕ) (parts : List Part) → IsSpaced tow start parts → IsSpaced tow start (map lifted_part parts)
lifted_spaced tow start [] h = tt
lifted_spaced tow start (part ∷ parts) h = (h.0, h.1, lifted_spaced tow (part.to + tow) parts h.2)

cancelled_formed : (a : AirportParts) (visit : Visit) → IsWellFormed a visit → IsWellFormed a (cancelled_visit visit)
cancelled_formed a visit h = record {
  kind = h.kind;
  class = h.class;
  some = omega (arith, h.some, length-map visit.parts lifted_part);
  few = omega (arith, h.few, length-map visit.parts lifted_part);
  spaced = lifted_spaced a.tow 0 visit.parts h.spaced;
  ends = All-map (λ part. part.to ≤ latest_end a visit.kind) lifted_part visit.parts h.ends;
  short = All-map (IsEarlyIfShort a visit.kind) lifted_part visit.parts h.short;
  places = All-map (λ part. IsPlaceOf a part.place) lifted_part visit.parts (λ k d within. tt);
  facts = λ off. All-map (λ part. is_actual part.place ≡ false) lifted_part visit.parts (λ k d within. refl);
  cancelled = λ over. All-map (λ part. stand_of part.place ≡ None) lifted_part visit.parts (λ k d within. refl);
}

-- a visit of a plan is one of the next version's once it is cancelled
cancelled_at : (a : AirportParts) (version : ℕ) (visit : Visit) → IsVisitAt a version visit → IsVisitAt a (version + 1) (cancelled_visit visit)
cancelled_at a version visit h = record {
  well_formed = cancelled_formed a visit h.well_formed;
  new = h.new;
  added_some = h.added_some;
  added = omega (arith, h.added);
  edited = omega (arith, h.edited);
  bumped = λ bump has. absurd (no_bump_in (map lifted_part visit.parts) (All-map (λ part. part.place ≡ Unplaced None) lifted_part visit.parts (λ k d within. refl)) bump has);
}

-- it holds no stand
lifted_slots : (a : AirportParts) (visit : Visit) (k : ℕ) (parts : List Part) → slots_from a visit k (map lifted_part parts) ≡ []
lifted_slots a visit k [] = refl
lifted_slots a visit k (part ∷ parts) = lifted_slots a visit (k + 1) parts

-- if a visit that holds no stand takes the place of one, there are no new slots
set_fewer : (a : AirportParts) (visits : List Visit) (i : ℕ) (visit : Visit) (slot : Slot) → slots_of_visit a visit ≡ []
    → Contains (slots_of a (slice_set visits i visit)) slot → Contains (slots_of a visits) slot
set_fewer a [] i visit slot none has = has
set_fewer a (v ∷ visits) zero visit slot none has =
    Contains-append_right (slots_of_visit a v) (slots_of a visits) slot (subst (λ (own : List Slot). Contains (own ++ slots_of a visits) slot) none has)
set_fewer a (v ∷ visits) (suc i) visit slot none has =
    elim (Contains-append_cases (slots_of_visit a v) (slots_of a (slice_set visits i visit)) slot has) [
      | inl here ↦ Contains-append_left (slots_of_visit a v) (slots_of a visits) slot here
      | inr there ↦ Contains-append_right (slots_of_visit a v) (slots_of a visits) slot (set_fewer a visits i visit slot none there)
    ]

-- slots stay sound without some of them
fewer_sound : (a : AirportParts) (slots fewer : List Slot) → ((slot : Slot) → Contains fewer slot → Contains slots slot) → IsSound a slots → IsSound a fewer
fewer_sound a slots fewer had sound = λ slot other minute rule first second clash. sound slot other minute rule (had slot first) (had other second) clash

-- the visit of a number has the number of one of the visits
number_within : (plan : PlanState) (visit : Visit) → IsNumbered plan.visits → visit_at plan.visits visit.number ≡ Some visit
    → (1 ≤ visit.number.0) × (visit.number.0 ≤ length plan.visits)
number_within plan visit numbered at =
    test (nat_lt 0 visit.number.0) (nat_le visit.number.0 (length plan.visits)) refl refl
  where
    outside : (1 ≤ visit.number.0 → length plan.visits < visit.number.0) → ⊥
    outside past = let none : visit_at plan.visits visit.number ≡ None = visit_at-outside plan.visits visit.number numbered past in cc

    test : (some few : Bool) → nat_lt 0 visit.number.0 ≡ some → nat_le visit.number.0 (length plan.visits) ≡ few
        → (1 ≤ visit.number.0) × (visit.number.0 ≤ length plan.visits)
    test true true is few = (grind (arith, nat_tests), grind (arith, nat_tests))
    test false few is past = absurd (outside (λ some. absurd (grind (arith, nat_tests))))
    test true false is past = absurd (outside (λ some. grind (arith, nat_tests)))

-- a visit of the plan that is cancelled can be put in
pub cancelled_movable : (plan : PlanState) (visit : Visit) → IsPlan plan → IsCancellable plan visit → IsMovable plan (cancelled_visit visit ∷ [])
cancelled_movable plan visit h at =
    let within = number_within plan visit h.numbered at.at in
    let here : IsThereOrNext (length plan.visits) (cancelled_visit visit) = (within.0, omega (arith, within.1)) in
    record {
      each = All-from_recursion (IsVisitAt plan.airport (plan.version + 1)) (cancelled_visit visit ∷ []) (
        cancelled_at plan.airport plan.version visit (found_has (IsVisitAt plan.airport plan.version) plan.visits visit.number visit h.each at.at),
        tt,
      );
      rise = (within.0, omega (arith, within.1));
      same = All-from_recursion (IsChangedCopy plan.visits) (cancelled_visit visit ∷ [])
          (record { before = visit; at = at.at; same = record { new = refl; added = refl } }, tt);
      sound = by_case (λ visits. IsSound plan.airport (slots_of plan.airport visits)) plan.visits (cancelled_visit visit) here
          (λ _. fewer_sound plan.airport (slots_of plan.airport plan.visits) _
          (λ slot has. set_fewer plan.airport plan.visits (visit.number.0 - 1) (cancelled_visit visit) slot (lifted_slots plan.airport (cancelled_visit visit) 1 visit.parts) has) h.sound)
          (λ past. absurd (omega (arith, within.1)));
    }

-- a cancelled visit has no slots
pub cancelled_slots : (a : AirportParts) (visit : Visit) → slots_of a (cancelled_visit visit ∷ []) ≡ []
cancelled_slots a visit = let none : slots_of_visit a (cancelled_visit visit) ≡ [] = lifted_slots a (cancelled_visit visit) 1 visit.parts in rw none refl

lifted_more : (index : ℕ) (parts : List Part) (d : Part) → index < length parts
    → slice_set (map lifted_part (take index parts) ++ drop index parts) index (lifted_part (slice_index_or parts index d)) ≡ map lifted_part (take (suc index) parts) ++ drop (suc index) parts
lifted_more index [] d inside = absurd (omega arith)
lifted_more zero (part ∷ parts) d inside = refl
lifted_more (suc index) (part ∷ parts) d inside = ap (λ ps. lifted_part part ∷ ps) (lifted_more index parts d (omega arith))

-- one more part is lifted
pub lifted_next : (index : ℕ) (parts made set slice : List Part) (d next : Part) → slice ≡ parts → index < length parts
    → made ≡ map lifted_part (take index parts) ++ drop index parts → next ≡ lifted_part (slice_index_or slice index d) → set ≡ slice_set made (index + 1 - 1) next
    → set ≡ map lifted_part (take (index + 1) parts) ++ drop (index + 1) parts
lifted_next index parts made set slice d next same inside before is put =
    let back : index + 1 - 1 ≡ index = omega arith in
    let more : index + 1 ≡ suc index = omega arith in
    rw (put, before, is, same, back, more) (lifted_more index parts d inside)
