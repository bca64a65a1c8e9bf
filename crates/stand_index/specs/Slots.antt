-- The slots of each stand, and what calls change of them.
use Rattle.std.specs.Prelude.{◌≡◌, ◌≢◌, ◌<◌, ◌≤◌, ◌+◌, ◌⊎◌, ◌==◌, ◌&&◌, ℕ, Bool, true, false, not, min, max, nat_lt, List, [], ◌∷◌, ◌++◌, length, filter, All, AllPairs, slice_index_or, if◌then◌else◌}
use Rattle.std.specs.List.Sorted.{IsNonDecreasingBy}
use Rattle.apron_base.specs.declared.numbers.PartId.{PartId}
use Rattle.apron_base.specs.declared.numbers.StandNo.{StandNo}
use Rattle.apron_base.specs.declared.slot.Slot.{Slot}

-- slots of one kind on one stand, and how many more there is room for
pub record SlotsWithRoom : Type 0 where
  pub slots : List Slot
  pub spare : ℕ

-- the slots of one stand, and how many more it has room for, whatever their kind
pub record StandSlots : Type 0 where
  pub planned : List Slot
  pub actual : List Slot
  pub spare : ℕ

-- no slots, and no room for any
abbrev pub no_slots : StandSlots
no_slots = record { planned = []; actual = []; spare = 0 }

-- a stand has no slots
abbrev pub HasNoSlots : StandSlots → Type 0
HasNoSlots slots = (slots.planned ≡ []) × (slots.actual ≡ [])

-- the slots of a stand, none if there is no such stand
abbrev pub at_stand : List StandSlots → StandNo → StandSlots
at_stand index stand = slice_index_or index stand.0 no_slots

-- the slot has at least one minute
abbrev pub HasMinutes : Slot → Type 0
HasMinutes slot = slot.from < slot.end

-- one slot both starts and ends before another does
abbrev pub IsEarlier : Slot → Slot → Type 0
IsEarlier slot other = (slot.from < other.from) × (slot.end < other.end)

-- a slot of this stand, planned or actual, that has at least one minute
pub record IsSlotAt (at : StandNo) (actual : Bool) (slot : Slot) : Type 0 where
  pub stand : slot.stand ≡ at
  pub kind : slot.actual ≡ actual
  pub minutes : HasMinutes slot

-- the slots are the stand's own, and the starts and ends of its planned ones rise
pub record AreSlotsAt (stand : StandNo) (slots : StandSlots) : Type 0 where
  pub rise : AllPairs IsEarlier slots.planned
  pub planned : All (IsSlotAt stand false) slots.planned
  pub actual : All (IsSlotAt stand true) slots.actual

-- each stand has slots of its own, and the starts and ends of its planned ones rise
abbrev pub IsIndex : List StandSlots → Type 0
IsIndex index = (stand : StandNo) → AreSlotsAt stand (at_stand index stand)

-- the slot has a minute in from <= m < end
abbrev pub is_hit : ℕ → ℕ → Slot → Bool
is_hit from end slot = nat_lt (max from slot.from) (min end slot.end)

-- the slots of a stand that have a minute in from <= m < end, the planned ones first
abbrev pub hits_of : StandSlots → ℕ → ℕ → List Slot
hits_of slots from end =
    filter (is_hit from end) slots.planned ++ filter (is_hit from end) slots.actual

-- no slot starts earlier than one before it
abbrev pub IsByStart : List Slot → Type 0
IsByStart slots = IsNonDecreasingBy (λ slot. slot.from) slots

-- the second slot starts earlier than the first
abbrev pub starts_earlier : Slot → Slot → Bool
starts_earlier slot other = nat_lt other.from slot.from

-- the slots that start earlier, then the slot, then the others
abbrev pub insert_by_start : Slot → List Slot → List Slot
insert_by_start slot slots =
    filter (starts_earlier slot) slots ++ slot
    ∷ filter (λ other. not (starts_earlier slot other)) slots

-- the planned slots with one more, if it is planned
abbrev pub planned_with : Slot → List Slot → List Slot
planned_with slot planned = if slot.actual then planned else insert_by_start slot planned

-- the actual slots with one more, if it is actual
abbrev pub actual_with : Slot → List Slot → List Slot
actual_with slot actual = if slot.actual then insert_by_start slot actual else actual

-- each planned slot is earlier or later than this one, if this one is planned
abbrev pub KeepsOrder : Slot → StandSlots → Type 0
KeepsOrder slot slots = slot.actual ≡ false
    → All (λ other. IsEarlier other slot ⊎ IsEarlier slot other) slots.planned

-- the slot is of this part
abbrev pub is_of_part : PartId → Slot → Bool
is_of_part part slot = (slot.part.visit.0 == part.visit.0) && (slot.part.part == part.part)

-- the slots except those of this part
abbrev pub remove_part : PartId → List Slot → List Slot
remove_part part slots = filter (λ slot. not (is_of_part part slot)) slots

-- a stand has the slots that it had, and no less room
pub record KeepsSlots (before after : StandSlots) : Type 0 where
  pub planned : after.planned ≡ before.planned
  pub actual : after.actual ≡ before.actual
  pub spare : before.spare ≤ after.spare

-- a stand has one more slot, and room for at most one less
pub record AddsSlot (before after : StandSlots) (slot : Slot) : Type 0 where
  pub planned : after.planned ≡ planned_with slot before.planned
  pub actual : after.actual ≡ actual_with slot before.actual
  pub spare : before.spare ≤ after.spare + 1

-- a stand has no slot of the part, all others that it had, and no less room
pub record RemovesPart (before after : StandSlots) (part : PartId) : Type 0 where
  pub planned : after.planned ≡ remove_part part before.planned
  pub actual : after.actual ≡ remove_part part before.actual
  pub spare : before.spare ≤ after.spare

-- there are as many stands as before, and all but this one are as they were
pub record KeepsOtherStands (before after : List StandSlots) (stand : StandNo) : Type 0 where
  pub stands : length after ≡ length before
  pub others : (other : StandNo) → other.0 ≢ stand.0 → at_stand after other ≡ at_stand before other
