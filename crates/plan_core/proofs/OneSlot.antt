-- No two slots of visits that are numbered in order are of one part.
use Rattle.std.proofs.Common.{◌≡◌, ◌≤◌, ◌+◌, ℕ, List, [], ◌∷◌, ◌++◌, refl, sym, ap, ◌∙◌, arith, inl, inr, Option, None, Some, option_map, option_to_list}
use Rattle.std.specs.Prelude.{All, Contains}
use Rattle.std.specs.List.{AllByRecursion}
use Rattle.std.proofs.lemmas.List.Elements.{All-append, All-contains, All-from_recursion, Contains-append_cases}
use Rattle.apron_base.specs.declared.numbers.PartId.{PartId}
use Rattle.apron_base.specs.declared.numbers.StandNo.{StandNo}
use Rattle.apron_base.specs.declared.numbers.VisitNo.{VisitNo}
use Rattle.apron_base.specs.declared.slot.Slot.{Slot}
use Rattle.apron_rules.specs.declared.parts.AirportParts.{AirportParts}
use Rattle.apron_rules.specs.Clash.{HaveDifferentParts}
use Rattle.visit_book.specs.declared.visits.Part.{Part}
use Rattle.visit_book.specs.declared.visits.Visit.{Visit}
use Rattle.visit_book.specs.Numbers.{IsNumbered, IsNumberedAbove}
use Rattle.visit_book.specs.Places.{stand_of}
use Rattle.visit_book.specs.Slots.{slot_of, slot_on, slots_from, slots_of, slots_of_visit}

abbrev part_of : VisitNo → ℕ → PartId
part_of n k = record { visit = n; part = k }

-- what holds of part k holds of its slot, if there is one
at_are : (P : PartId → Type 0) (a : AirportParts) (v : Visit) (k : ℕ) (part : Part) (stand : Option StandNo) → P (part_of v.number k)
    → AllByRecursion (λ s. P s.part) (option_to_list (option_map (slot_on a v k part) stand))
at_are P a v k part None h = tt
at_are P a v k part (Some s) h = (h, tt)

at_all : (P : PartId → Type 0) (a : AirportParts) (v : Visit) (k : ℕ) (part : Part) → P (part_of v.number k)
    → All (λ s. P s.part) (option_to_list (slot_of a v k part))
at_all P a v k part h = All-from_recursion (λ s. P s.part) (option_to_list (slot_of a v k part)) (at_are P a v k part (stand_of part.place) h)

-- what holds of each part from k on holds of their slots
from_all : (P : PartId → Type 0) (a : AirportParts) (v : Visit) (k : ℕ) (parts : List Part) → ((i : ℕ) → k ≤ i → P (part_of v.number i))
    → All (λ s. P s.part) (slots_from a v k parts)
from_all P a v k [] h = All-from_recursion (λ s. P s.part) [] tt
from_all P a v k (part ∷ parts) h =
    All-append (λ s. P s.part) (option_to_list (slot_of a v k part)) (slots_from a v (k + 1) parts) (at_all P a v k part (h k (omega arith)))
    (from_all P a v (k + 1) parts (λ i le. h i (omega arith)))

-- the slots of visits above n have numbers from m on
of_all : (a : AirportParts) (m n : ℕ) (visits : List Visit) → m ≤ n + 1 → IsNumberedAbove n visits → All (λ s. m ≤ s.part.visit.0) (slots_of a visits)
of_all a m n [] le h = All-from_recursion (λ s. m ≤ s.part.visit.0) [] tt
of_all a m n (v ∷ visits) le h =
    All-append (λ s. m ≤ s.part.visit.0) (slots_of_visit a v) (slots_of a visits)
    (from_all (λ p. m ≤ p.visit.0) a v 1 v.parts (λ i from. omega (arith, h.0))) (of_all a m (n + 1) visits (omega arith) h.1)

-- no slot of the first list is of a part of the second
abbrev AreApart : List Slot → List Slot → Type 0
AreApart xs ys = (p q : Slot) → Contains xs p → Contains ys q → p.part ≡ q.part → ⊥

-- slots are of different parts if some number of these parts differs
apart_by : (number : PartId → ℕ) (k : ℕ) (xs ys : List Slot) → All (λ s. number s.part ≡ k) xs → All (λ s. k + 1 ≤ number s.part) ys → AreApart xs ys
apart_by number k xs ys first second p q cp cq same =
    let low : number p.part ≡ k = All-contains (λ s. number s.part ≡ k) xs p first cp in
    let high : k + 1 ≤ number q.part = All-contains (λ s. k + 1 ≤ number s.part) ys q second cq in
    let equal : number p.part ≡ number q.part = ap number same in
    omega arith

one_append : (xs ys : List Slot) → HaveDifferentParts xs → HaveDifferentParts ys → AreApart xs ys → HaveDifferentParts (xs ++ ys)
one_append xs ys one_x one_y apart p q cp cq same =
    elim (Contains-append_cases xs ys p cp) [
      | inl px ↦ elim (Contains-append_cases xs ys q cq) [
        | inl qx ↦ one_x p q px qx same
        | inr qy ↦ absurd (apart p q px qy same)
      ]
      | inr py ↦ elim (Contains-append_cases xs ys q cq) [
        | inl qx ↦ absurd (apart q p qx py (sym same))
        | inr qy ↦ one_y p q py qy same
      ]
    ]

one_none : HaveDifferentParts []
one_none p q cp cq same = absurd (omega (arith, cp.1))

is_only : (x p : Slot) → Contains (x ∷ []) p → x ≡ p
is_only x p cp = All-contains (λ s. x ≡ s) (x ∷ []) p (All-from_recursion (λ s. x ≡ s) (x ∷ []) (refl, tt)) cp

one_only : (x : Slot) → HaveDifferentParts (x ∷ [])
one_only x p q cp cq same = sym (is_only x p cp) ∙ is_only x q cq

at_one : (a : AirportParts) (v : Visit) (k : ℕ) (part : Part) (stand : Option StandNo) → HaveDifferentParts (option_to_list (option_map (slot_on a v k part) stand))
at_one a v k part None = one_none
at_one a v k part (Some s) = one_only _

from_one : (a : AirportParts) (v : Visit) (k : ℕ) (parts : List Part) → HaveDifferentParts (slots_from a v k parts)
from_one a v k [] = one_none
from_one a v k (part ∷ parts) =
    one_append (option_to_list (slot_of a v k part)) (slots_from a v (k + 1) parts) (at_one a v k part (stand_of part.place)) (from_one a v (k + 1) parts)
    (apart_by (λ p. p.part) k (option_to_list (slot_of a v k part)) (slots_from a v (k + 1) parts) (at_all (λ p. p.part ≡ k) a v k part refl)
    (from_all (λ p. k + 1 ≤ p.part) a v (k + 1) parts (λ i le. le)))

of_one : (a : AirportParts) (n : ℕ) (visits : List Visit) → IsNumberedAbove n visits → HaveDifferentParts (slots_of a visits)
of_one a n [] h = one_none
of_one a n (v ∷ visits) h =
    one_append (slots_of_visit a v) (slots_of a visits) (from_one a v 1 v.parts) (of_one a (n + 1) visits h.1)
    (apart_by (λ p. p.visit.0) (n + 1) (slots_of_visit a v) (slots_of a visits)
    (from_all (λ p. p.visit.0 ≡ n + 1) a v 1 v.parts (λ i le. h.0)) (of_all a (n + 1 + 1) (n + 1) visits (omega arith) h.1))

pub slots_have_different_parts : (a : AirportParts) (visits : List Visit) → IsNumbered visits → HaveDifferentParts (slots_of a visits)
slots_have_different_parts a visits h = of_one a 0 visits h
