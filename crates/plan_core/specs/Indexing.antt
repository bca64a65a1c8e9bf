-- What calls change of the index of a plan's slots.
use Rattle.std.specs.Prelude.{◌≡◌, ◌≤◌, ◌<◌, ◌+◌, ◌⊎◌, ◌&&◌, ℕ, Bool, true, false, not, List, [], ◌∷◌, length, map, All, AllPairs, count_by, Option, None, Some, IfSome}
use Rattle.apron_base.specs.declared.numbers.PartId.{PartId}
use Rattle.apron_base.specs.declared.numbers.StandNo.{StandNo}
use Rattle.apron_base.specs.declared.numbers.VisitNo.{VisitNo}
use Rattle.apron_base.specs.declared.slot.Slot.{Slot}
use Rattle.clash_check.specs.Indexed.{all_slots}
use Rattle.stand_index.specs.Slots.{HasMinutes, IsEarlier, StandSlots, at_stand, is_of_part}
use Rattle.visit_book.specs.declared.visits.Part.{Part}
use Rattle.visit_book.specs.declared.visits.Visit.{Visit}
use Rattle.visit_book.specs.Numbers.{visit_at}
use Rattle.visit_book.specs.Places.{stand_of}
use Rattle.plan_core.specs.PlanState.{is_on}

-- the numbers of visits
abbrev pub numbers_of : List Visit → List VisitNo
numbers_of visits = map (λ visit. visit.number) visits

-- the slot is not of this part on this stand, if there is a stand
abbrev pub is_off : Option StandNo → PartId → Slot → Bool
is_off None part slot = true
is_off (Some stand) part slot = not (is_on stand slot && is_of_part part slot)

-- the slot is of none of these parts, of the visit of this number, on that part's stand; the parts
-- are numbered from this number on
abbrev pub is_off_parts : VisitNo → ℕ → List Part → Slot → Bool
is_off_parts visit number [] slot = true
is_off_parts visit number (part ∷ parts) slot =
    is_off (stand_of part.place) (record { visit = visit; part = number }) slot
    && is_off_parts visit (number + 1) parts slot

-- the slot is of no part of the visit, if there is one, on that part's stand
abbrev pub is_off_visit : Option Visit → Slot → Bool
is_off_visit None slot = true
is_off_visit (Some visit) slot = is_off_parts visit.number 1 visit.parts slot

-- the slot is of no visit that has the number of one of the others
abbrev pub is_off_visits : List Visit → List Visit → Slot → Bool
is_off_visits visits [] slot = true
is_off_visits visits (other ∷ others) slot = is_off_visit (visit_at visits other.number) slot
    && is_off_visits visits others slot

-- each part that is on a stand is on one with a number below this
abbrev pub HaveStandsOf : ℕ → List Part → Type 0
HaveStandsOf count parts =
    All (λ part. IfSome (stand_of part.place) (λ stand. stand.0 < count)) parts

-- there are as many stands as before, and none has less room
pub record KeepsRoom (before after : List StandSlots) : Type 0 where
  pub stands : length after ≡ length before
  pub spare : (stand : StandNo) → (at_stand before stand).spare ≤ (at_stand after stand).spare

-- if both are planned on one stand, one of them is earlier
abbrev pub AreApart : Slot → Slot → Type 0
AreApart slot other =
    slot.stand ≡ other.stand
    → slot.actual ≡ false
    → other.actual ≡ false
    → IsEarlier slot other ⊎ IsEarlier other slot

-- an index can hold the slots: each has one of its stands and at least one minute;
-- planned ones meet on no stand, neither one another nor those that are there; and each stand has
-- room for as many slots as are on it
pub record CanHold (index : List StandSlots) (slots : List Slot) : Type 0 where
  pub stands : All (λ slot. slot.stand.0 < length index) slots
  pub minutes : All HasMinutes slots
  pub among : AllPairs AreApart slots
  pub others : All (λ slot. All (AreApart slot) (all_slots index)) slots
  pub room : (stand : StandNo) → count_by (is_on stand) slots ≤ (at_stand index stand).spare
