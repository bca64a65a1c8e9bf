-- One stand of an index.
use Rattle.std.proofs.Common.{◌≡◌, ◌∙◌, ◌<◌, ◌⊎◌, inl, inr, ℕ, Bool, true, false, List, length, get_or, set, refl, sym, ap, arith, subst, get_or-set_same, get_or-set_other, length-set}
use Rattle.std.specs.Prelude.{All, AllPairs, not}
use Rattle.std.proofs.lemmas.Bool.{cases_eq, cases_lt}
use Rattle.std.proofs.lemmas.List.{get_or_read, get_or_past}
use Rattle.std.proofs.lemmas.List.Elements.{All-filter, All-nil}
use Rattle.std.proofs.lemmas.List.Kept.{AllPairs-filter}
use Rattle.apron_base.specs.declared.numbers.PartId.{PartId}
use Rattle.apron_base.specs.declared.numbers.StandNo.{StandNo}
use Rattle.apron_base.specs.declared.slot.Slot.{Slot}
use Rattle.stand_index.specs.Slots.{StandSlots, no_slots, HasNoSlots, at_stand, IsEarlier, HasMinutes, IsSlotAt, AreSlotsAt, IsIndex, KeepsOrder, AddsSlot, RemovesPart, KeepsSlots, KeepsOtherStands, planned_with, actual_with, insert_by_start, is_of_part}
use Rattle.stand_index.proofs.Order.{All-insert_by_start, insert_by_start_rises}

-- what is read at a stand's place
pub at_read : (index : List StandSlots) (stand : StandNo) (slots : StandSlots) → stand.0 < length index → slots ≡ get_or index stand.0 slots → at_stand index stand ≡ slots
at_read index stand slots inside at = sym (get_or_read index stand.0 slots inside at no_slots)

-- what was written at a stand's place
at_written : (index : List StandSlots) (stand : StandNo) (slots : StandSlots) → stand.0 < length index → at_stand (set index stand.0 slots) stand ≡ slots
at_written index stand slots inside = get_or-set_same index stand.0 slots no_slots inside

-- a write at one stand's place leaves the others
pub keeps_other_stands : (index : List StandSlots) (stand : StandNo) (slots : StandSlots) → KeepsOtherStands index (set index stand.0 slots) stand
keeps_other_stands index stand slots = record {
  stands = length-set index stand.0 slots;
  others = λ other apart. get_or-set_other index stand.0 other.0 slots no_slots apart;
}

-- a write of the stand's own slots
pub written_index : (index : List StandSlots) (stand : StandNo) (slots : StandSlots) → stand.0 < length index → IsIndex index → AreSlotsAt stand slots → IsIndex (set index stand.0 slots)
written_index index stand slots inside each here other =
    elim (cases_eq other.0 stand.0) [
      | inl e ↦ (let same : stand ≡ other = ap (λ (n : ℕ). record { 0 = n }) (sym e) in
          let P : StandNo → Type 0 = λ s. AreSlotsAt s (at_stand (set index stand.0 slots) s) in
          subst P same (subst (AreSlotsAt stand) (sym (at_written index stand slots inside)) here))
      | inr apart ↦ subst (AreSlotsAt other) (sym (get_or-set_other index stand.0 other.0 slots no_slots apart)) (each other)
    ]

added_by : (stand : StandNo) (slot : Slot) (planned actual : List Slot) (b : Bool) → slot.actual ≡ b → slot.stand ≡ stand → HasMinutes slot
    → AllPairs IsEarlier planned → All (IsSlotAt stand false) planned → All (IsSlotAt stand true) actual
    → (slot.actual ≡ false → All (λ other. IsEarlier other slot ⊎ IsEarlier slot other) planned)
    → (new_planned new_actual : List Slot) → new_planned ≡ planned_with slot planned → new_actual ≡ actual_with slot actual
    → AllPairs IsEarlier new_planned × All (IsSlotAt stand false) new_planned × All (IsSlotAt stand true) new_actual
added_by stand slot planned actual true kind at minutes rise each each_actual order new_planned new_actual e e_actual =
    let same : new_planned ≡ planned = e ∙ (rw kind refl) in
    let grown : new_actual ≡ insert_by_start slot actual = e_actual ∙ (rw kind refl) in (
      subst (AllPairs IsEarlier) (sym same) rise,
      subst (All (IsSlotAt stand false)) (sym same) each,
      subst (All (IsSlotAt stand true)) (sym grown) (All-insert_by_start (IsSlotAt stand true) slot actual (record { stand = at; kind = kind; minutes = minutes }) each_actual),
    )
added_by stand slot planned actual false kind at minutes rise each each_actual order new_planned new_actual e e_actual =
    let grown : new_planned ≡ insert_by_start slot planned = e ∙ (rw kind refl) in
    let same : new_actual ≡ actual = e_actual ∙ (rw kind refl) in (
      subst (AllPairs IsEarlier) (sym grown) (insert_by_start_rises slot planned rise (order kind)),
      subst (All (IsSlotAt stand false)) (sym grown) (All-insert_by_start (IsSlotAt stand false) slot planned (record { stand = at; kind = kind; minutes = minutes }) each),
      subst (All (IsSlotAt stand true)) (sym same) each_actual,
    )

-- a stand with one more slot
pub stand_with_slot : (slot : Slot) (before after : StandSlots) → AreSlotsAt slot.stand before → HasMinutes slot → KeepsOrder slot before → AddsSlot before after slot → AreSlotsAt slot.stand after
stand_with_slot slot before after stand minutes order added =
    let all = added_by slot.stand slot before.planned before.actual slot.actual refl refl minutes stand.rise stand.planned stand.actual order after.planned after.actual added.planned added.actual in
    record { rise = all.0; planned = all.1; actual = all.2 }

-- a stand without the slots of a part
pub stand_without_part : (stand : StandNo) (part : PartId) (before after : StandSlots) → AreSlotsAt stand before → RemovesPart before after part → AreSlotsAt stand after
stand_without_part stand part before after slots removed =
    let others : Slot → Bool = λ slot. not (is_of_part part slot) in
    record {
      rise = subst (AllPairs IsEarlier) (sym removed.planned) (AllPairs-filter IsEarlier others before.planned slots.rise);
      planned = subst (All (IsSlotAt stand false)) (sym removed.planned) (All-filter others (IsSlotAt stand false) before.planned slots.planned);
      actual = subst (All (IsSlotAt stand true)) (sym removed.actual) (All-filter others (IsSlotAt stand true) before.actual slots.actual);
    }

-- a stand that has the slots that it had
pub stand_with_room : (stand : StandNo) (before after : StandSlots) → AreSlotsAt stand before → KeepsSlots before after → AreSlotsAt stand after
stand_with_room stand before after slots same = record {
  rise = subst (AllPairs IsEarlier) (sym same.planned) slots.rise;
  planned = subst (All (IsSlotAt stand false)) (sym same.planned) slots.planned;
  actual = subst (All (IsSlotAt stand true)) (sym same.actual) slots.actual;
}

empty_stand : (stand : StandNo) (slots : StandSlots) → HasNoSlots slots → AreSlotsAt stand slots
empty_stand stand slots none = record {
  rise = subst (AllPairs IsEarlier) (sym none.0) (λ i j d before inside. absurd (omega arith));
  planned = subst (All (IsSlotAt stand false)) (sym none.0) (All-nil (IsSlotAt stand false));
  actual = subst (All (IsSlotAt stand true)) (sym none.1) (All-nil (IsSlotAt stand true));
}

-- stands without slots
pub empty_index : (index : List StandSlots) → All HasNoSlots index → IsIndex index
empty_index index none stand =
    elim (cases_lt stand.0 (length index)) [
      | inl inside ↦ empty_stand stand (at_stand index stand) (none stand.0 no_slots inside)
      | inr past ↦ subst (AreSlotsAt stand) (sym (get_or_past index stand.0 no_slots past)) (empty_stand stand no_slots (refl, refl))
    ]

-- each planned slot of a stand has at least one minute
pub planned_minutes : (stand : StandNo) (slots : StandSlots) → AreSlotsAt stand slots → All HasMinutes slots.planned
planned_minutes stand slots own = λ k d inside. (own.planned k d inside).minutes
