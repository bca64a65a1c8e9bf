-- A plan with a visit cancelled has no new slot, so it stays sound.
use Rattle.std.proofs.Common.{◌≡◌, ◌∙◌, ◌+◌, ◌-◌, ◌++◌, ◌∷◌, [], ℕ, zero, suc, Bool, true, false, List, length, map, nat_le, append-nil, refl, ap, subst, inl, inr, if◌then◌else◌}
use Rattle.std.specs.Prelude.{Contains, slice_set}
use Rattle.std.proofs.lemmas.List.Elements.{Contains-append_cases, Contains-append_left, Contains-append_right}
use Rattle.apron_base.specs.declared.slot.Slot.{Slot}
use Rattle.apron_rules.specs.declared.parts.AirportParts.{AirportParts}
use Rattle.visit_book.specs.declared.visits.Part.{Part}
use Rattle.visit_book.specs.declared.visits.Visit.{Visit}
use Rattle.visit_book.specs.Slots.{slots_from, slots_of, slots_of_visit}
use Rattle.plan_core.specs.Moving.{cancelled_visit, lifted_part, with_cancelled}
use Rattle.plan_core.specs.PlanState.{PlanState, put_one}
use Rattle.plan_core.proofs.SlotLists.{slots_of-push}
use Rattle.history_core.specs.History.{IsSoundPlan}

no_slots : (airport : AirportParts) (visit : Visit) (number : ℕ) (parts : List Part) → slots_from airport visit number (map lifted_part parts) ≡ []
no_slots airport visit number [] = refl
no_slots airport visit number (part ∷ parts) = no_slots airport visit (number + 1) parts

module _ (airport : AirportParts) (new : Visit) (none : slots_of_visit airport new ≡ []) (slot : Slot) where
  abbrev Has : List Visit → Type 0
  Has visits = Contains (slots_of airport visits) slot

  set_has : (visits : List Visit) (place : ℕ) → Has (slice_set visits place new) → Has visits
  set_has [] place has = has
  set_has (first ∷ visits) zero has =
      Contains-append_right (slots_of_visit airport first) (slots_of airport visits) slot
      (subst (λ (slots : List Slot). Contains (slots ++ slots_of airport visits) slot) none has)
  set_has (first ∷ visits) (suc place) has =
      elim (Contains-append_cases (slots_of_visit airport first) (slots_of airport (slice_set visits place new)) slot has) [
        | inl here ↦ Contains-append_left (slots_of_visit airport first) (slots_of airport visits) slot here
        | inr later ↦ Contains-append_right (slots_of_visit airport first) (slots_of airport visits) slot (set_has visits place later)
      ]

  last_has : (visits : List Visit) → Has (visits ++ new ∷ []) → Has visits
  last_has visits has =
      subst (λ (slots : List Slot). Contains slots slot)
      (slots_of-push airport visits new ∙ (ap (λ (slots : List Slot). slots_of airport visits ++ slots) none ∙ append-nil (slots_of airport visits))) has

  put_by : (visits : List Visit) (here : Bool) → Has (if here then slice_set visits (new.number.0 - 1) new else visits ++ new ∷ []) → Has visits
  put_by visits true has = set_has visits (new.number.0 - 1) has
  put_by visits false has = last_has visits has

  put_has : (visits : List Visit) → Has (put_one visits new) → Has visits
  put_has visits has = put_by visits (nat_le new.number.0 (length visits)) has

pub cancelled_sound : (plan : PlanState) (visit : Visit) → IsSoundPlan plan → IsSoundPlan (with_cancelled plan visit)
cancelled_sound plan visit sound slot other minute rule here there clash =
    let new = cancelled_visit visit in
    let none : slots_of_visit plan.airport new ≡ [] = no_slots plan.airport new 1 visit.parts in
    sound slot other minute rule (put_has plan.airport new none slot plan.visits here) (put_has plan.airport new none other plan.visits there) clash
