-- The slots of visits in order of number: each is of a smaller part than those after it, and
-- earlier if they are of one visit on one stand.
use Rattle.std.proofs.Common.{◌≡◌, ◌<◌, ◌≤◌, ◌+◌, ◌⊎◌, inl, inr, ℕ, Bool, true, false, cond, List, [], ◌∷◌, refl, sym, ap, arith, Option, None, Some, length, get_or, option_map, option_to_list}
use Rattle.std.specs.Prelude.{All, AllPairs, count_by}
use Rattle.std.proofs.lemmas.Bool.Decides.{nat_tests}
use Rattle.std.proofs.lemmas.List.Elements.{All-append, All-cons, All-head, All-nil, All-tail, All-weaker}
use Rattle.std.proofs.lemmas.List.Kept.{AllPairs-cons}
use Rattle.std.proofs.lemmas.List.Sums.{sum_by-cons}
use Rattle.apron_base.specs.Histories.{Rises}
use Rattle.apron_base.specs.declared.numbers.PartId.{PartId}
use Rattle.apron_base.specs.declared.numbers.StandNo.{StandNo}
use Rattle.apron_base.specs.declared.numbers.VisitNo.{VisitNo}
use Rattle.apron_base.specs.declared.slot.Slot.{Slot}
use Rattle.apron_rules.specs.declared.parts.AirportParts.{AirportParts}
use Rattle.apron_rules.specs.Clash.{IsBefore}
use Rattle.apron_rules.specs.Rules.{buffer_of}
use Rattle.clash_check.specs.Clear.{HasPartsOnce}
use Rattle.stand_index.specs.Slots.{HasMinutes, IsEarlier, is_of_part}
use Rattle.stand_index.proofs.Order.{pairs_append, pairs_head, pairs_tail}
use Rattle.visit_book.specs.declared.visits.Part.{Part}
use Rattle.visit_book.specs.declared.visits.Visit.{Visit}
use Rattle.visit_book.specs.Numbers.{IsNumberedAbove}
use Rattle.visit_book.specs.Places.{stand_of}
use Rattle.visit_book.specs.Slots.{slot_of, slot_on, slots_from, slots_of, slots_of_visit}
use Rattle.visit_book.specs.WellFormed.{IsSpaced, IsWellFormed}
use Rattle.plan_core.specs.PlanState.{visit_number}
use Rattle.plan_core.proofs.Puts.{rises_from}

-- a slot of a part, with this number or a greater one, of the visit, which starts at this minute or
-- later
pub record IsSlotFrom (a : AirportParts) (visit : VisitNo) (number start : ℕ) (slot : Slot) : Type 0 where
  pub visit_is : slot.part.visit ≡ visit
  pub part_is : number ≤ slot.part.part
  pub starts : start ≤ slot.from
  pub ends : start + buffer_of a slot.stand < slot.end
  pub minutes : slot.from < slot.end

-- the slots of parts that follow one another
pub slots_from_start : (a : AirportParts) (v : Visit) (tow k start : ℕ) (parts : List Part) → IsSpaced tow start parts
    → All (IsSlotFrom a v.number k start) (slots_from a v k parts)
slots_from_start a v tow k start [] h = All-nil (IsSlotFrom a v.number k start)
slots_from_start a v tow k start (part ∷ parts) h =
    All-append (IsSlotFrom a v.number k start) (option_to_list (slot_of a v k part)) (slots_from a v (k + 1) parts) (first (stand_of part.place))
    (All-weaker (IsSlotFrom a v.number (k + 1) (part.to + tow)) (IsSlotFrom a v.number k start)
    (λ s later. record {
      visit_is = later.visit_is;
      part_is = omega (arith, later.part_is);
      starts = omega (arith, later.starts, h.0, h.1);
      ends = omega (arith, later.ends, h.0, h.1);
      minutes = later.minutes;
    }) (slots_from a v (k + 1) parts) (slots_from_start a v tow (k + 1) (part.to + tow) parts h.2))
  where
    first : (stand : Option StandNo) → All (IsSlotFrom a v.number k start) (option_to_list (option_map (slot_on a v k part) stand))
    first None = All-nil (IsSlotFrom a v.number k start)
    first (Some s) = All-cons (IsSlotFrom a v.number k start) (slot_on a v k part s) []
        (record { visit_is = refl; part_is = omega arith; starts = h.0; ends = omega (arith, h.0, h.1); minutes = omega (arith, h.0, h.1) })
        (All-nil (IsSlotFrom a v.number k start))

-- the first is of a smaller visit, or of a smaller part of the same visit, and then it is earlier
-- if both are on one stand
abbrev pub IsOrdered : Slot → Slot → Type 0
IsOrdered slot other = (slot.part.visit.0 < other.part.visit.0)
    ⊎ ((slot.part.visit.0 ≡ other.part.visit.0) × (slot.part.part < other.part.part) × (slot.stand ≡ other.stand → IsEarlier slot other))

pairs_none : {X : Type 0} (R : X → X → Type 0) → AllPairs R []
pairs_none R i j d less inside = absurd (omega (arith, inside))

from_ordered : (a : AirportParts) (v : Visit) (tow k start : ℕ) (parts : List Part) → IsSpaced tow start parts → AllPairs IsOrdered (slots_from a v k parts)
from_ordered a v tow k start [] h = pairs_none IsOrdered
from_ordered a v tow k start (part ∷ parts) h =
    pairs_append IsOrdered (option_to_list (slot_of a v k part)) rest (one (stand_of part.place)) (from_ordered a v tow (k + 1) (part.to + tow) parts h.2)
    (across (stand_of part.place))
  where
    rest : List Slot
    rest = slots_from a v (k + 1) parts

    one : (stand : Option StandNo) → AllPairs IsOrdered (option_to_list (option_map (slot_on a v k part) stand))
    one None = pairs_none IsOrdered
    one (Some s) = AllPairs-cons IsOrdered (slot_on a v k part s) [] (All-nil (IsOrdered (slot_on a v k part s))) (pairs_none IsOrdered)

    across : (stand : Option StandNo) → All (λ x. All (IsOrdered x) rest) (option_to_list (option_map (slot_on a v k part) stand))
    across None = All-nil (λ x. All (IsOrdered x) rest)
    across (Some s) = All-cons (λ x. All (IsOrdered x) rest) (slot_on a v k part s) []
        (All-weaker (IsSlotFrom a v.number (k + 1) (part.to + tow)) (IsOrdered (slot_on a v k part s))
        (λ y later. inr (
          sym (ap (λ (n : VisitNo). n.0) later.visit_is),
          omega (arith, later.part_is),
          λ same.
              (omega (arith, h.1, later.starts), omega (arith, ap (buffer_of a) same, later.ends)),
        ))
        rest (slots_from_start a v tow (k + 1) (part.to + tow) parts h.2))
        (All-nil (λ x. All (IsOrdered x) rest))

-- a slot of a visit of this number or a greater one that has at least one minute
abbrev IsAbove : ℕ → Slot → Type 0
IsAbove low slot = (low ≤ slot.part.visit.0) × HasMinutes slot

above : (a : AirportParts) (low high : ℕ) (visits : List Visit) → Rises visit_number low high visits → All (IsWellFormed a) visits → All (IsAbove low) (slots_of a visits)
above a low high [] rise formed = All-nil (IsAbove low)
above a low high (v ∷ visits) rise formed =
    All-append (IsAbove low) (slots_of_visit a v) (slots_of a visits)
    (All-weaker (IsSlotFrom a v.number 1 0) (IsAbove low) (λ s first. (omega (arith, rise.0, ap (λ (n : VisitNo). n.0) first.visit_is), first.minutes))
    (slots_of_visit a v) (slots_from_start a v a.tow 1 0 v.parts (All-head (IsWellFormed a) v visits formed).spaced))
    (All-weaker (IsAbove (v.number.0 + 1)) (IsAbove low) (λ s later. (omega (arith, rise.0, later.0), later.1))
    (slots_of a visits) (above a (v.number.0 + 1) high visits rise.1 (All-tail (IsWellFormed a) v visits formed)))

-- each slot of the visits has at least one minute
pub slots_minutes : (a : AirportParts) (low high : ℕ) (visits : List Visit) → Rises visit_number low high visits → All (IsWellFormed a) visits
    → All HasMinutes (slots_of a visits)
slots_minutes a low high visits rise formed = All-weaker (IsAbove low) HasMinutes (λ s h. h.1) (slots_of a visits) (above a low high visits rise formed)

-- and come in order
pub slots_ordered : (a : AirportParts) (low high : ℕ) (visits : List Visit) → Rises visit_number low high visits → All (IsWellFormed a) visits
    → AllPairs IsOrdered (slots_of a visits)
slots_ordered a low high [] rise formed = pairs_none IsOrdered
slots_ordered a low high (v ∷ visits) rise formed =
    pairs_append IsOrdered (slots_of_visit a v) (slots_of a visits)
    (from_ordered a v a.tow 1 0 v.parts (All-head (IsWellFormed a) v visits formed).spaced)
    (slots_ordered a (v.number.0 + 1) high visits rise.1 (All-tail (IsWellFormed a) v visits formed))
    (All-weaker (IsSlotFrom a v.number 1 0) (λ x. All (IsOrdered x) (slots_of a visits))
    (λ x first. All-weaker (IsAbove (v.number.0 + 1)) (IsOrdered x) (λ y later. inl (omega (arith, ap (λ (n : VisitNo). n.0) first.visit_is, later.0)))
    (slots_of a visits) (above a (v.number.0 + 1) high visits rise.1 (All-tail (IsWellFormed a) v visits formed)))
    (slots_of_visit a v) (slots_from_start a v a.tow 1 0 v.parts (All-head (IsWellFormed a) v visits formed).spaced))

before : (p q : Slot) → IsOrdered p q → IsBefore p.part q.part
before p q (inl less) = inl less
before p q (inr (same, less, earlier)) = inr (same, less)

-- so they rise by their parts
pub slots_rise : (xs : List Slot) → AllPairs IsOrdered xs → AllPairs (λ slot other. IsBefore slot.part other.part) xs
slots_rise xs h i j d less inside = before (get_or xs i d) (get_or xs j d) (h i j d less inside)

not_true : (b : Bool) → (b ≡ true → ⊥) → b ≡ false
not_true true h = absurd (h refl)
not_true false h = refl

pub count_none : {X : Type 0} (p : X → Bool) (xs : List X) → All (λ x. p x ≡ false) xs → count_by p xs ≡ 0
count_none p [] none = refl
count_none p (x ∷ xs) none =
    omega (
      arith,
      sum_by-cons (λ y. cond (p y) 1 0) x xs,
      ap {B = ℕ} (λ b. cond b 1 0) (All-head (λ y. p y ≡ false) x xs none),
      count_none p xs (All-tail (λ y. p y ≡ false) x xs none),
    )

once_test : {X : Type 0} (p : X → Bool) (x : X) (xs : List X) (b : Bool) → p x ≡ b → All (λ y. p x ≡ true → p y ≡ true → ⊥) xs → count_by p xs ≤ 1 → count_by p (x ∷ xs) ≤ 1
once_test {X = X} p x xs true e apart rest =
    let none : All (λ y. p y ≡ false) xs = All-weaker (λ (y : X). p x ≡ true → p y ≡ true → ⊥) (λ y. p y ≡ false) (λ y h. not_true (p y) (h e)) xs apart in
    omega (arith, sum_by-cons (λ y. cond (p y) 1 0) x xs, ap {B = ℕ} (λ b. cond b 1 0) e, count_none p xs none)
once_test p x xs false e apart rest = omega (arith, sum_by-cons (λ y. cond (p y) 1 0) x xs, ap {B = ℕ} (λ b. cond b 1 0) e, rest)

once_by : {X : Type 0} (p : X → Bool) (xs : List X) → AllPairs (λ x y. p x ≡ true → p y ≡ true → ⊥) xs → count_by p xs ≤ 1
once_by p [] apart = omega arith
once_by {X = X} p (x ∷ xs) apart =
    let R : X → X → Type 0 = λ y z. p y ≡ true → p z ≡ true → ⊥ in
    once_test p x xs (p x) refl (pairs_head R x xs apart) (once_by p xs (pairs_tail R x xs apart))

not_both : (part : PartId) (p q : Slot) → IsOrdered p q → is_of_part part p ≡ true → is_of_part part q ≡ true → ⊥
not_both part p q (inl less) h k = grind (arith, nat_tests)
not_both part p q (inr (same, less, earlier)) h k = grind (arith, nat_tests)

-- and no two are of one part
pub slots_once : (xs : List Slot) → AllPairs IsOrdered xs → HasPartsOnce xs
slots_once xs ordered part = once_by (is_of_part part) xs (λ i j d less inside. not_both part (get_or xs i d) (get_or xs j d) (ordered i j d less inside))

-- the numbers of visits that are numbered in order rise
pub numbered_rises : (n high : ℕ) (visits : List Visit) → n + 1 + length visits ≤ high → IsNumberedAbove n visits → Rises visit_number (n + 1) high visits
numbered_rises n high [] le h = omega (arith, le)
numbered_rises n high (v ∷ visits) le h =
    (omega (arith, h.0), rises_from (v.number.0 + 1) (n + 1 + 1) high visits (omega (arith, h.0)) (numbered_rises (n + 1) high visits (omega (arith, le)) h.1))
