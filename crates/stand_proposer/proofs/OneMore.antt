-- The first clash of sound slots with one more, and stands tried in order.
use Rattle.std.proofs.Common.{◌≡◌, ◌+◌, ◌&&◌, ◌⊎◌, inl, inr, ℕ, zero, suc, true, false, List, [], ◌∷◌, ◌++◌, refl, sym, ap, subst, arith, length, length-append, Option, Some}
use Rattle.std.specs.Prelude.{Contains, slice_get}
use Rattle.std.specs.List.{AllZip}
use Rattle.std.proofs.lemmas.List.Elements.{Contains-append_left, Contains-push, Contains-push_cases}
use Rattle.apron_base.specs.declared.numbers.StandNo.{StandNo}
use Rattle.apron_base.specs.declared.slot.Slot.{Slot}
use Rattle.apron_rules.specs.declared.parts.AirportParts.{AirportParts}
use Rattle.apron_rules.specs.declared.rules.Clash.{Clash}
use Rattle.apron_rules.specs.Clash.{IsBefore, IsClashAmong, IsClashOf, IsFirstClash, IsSooner, IsSound}
use Rattle.apron_rules.specs.Neighbours.{first_stands}
use Rattle.apron_rules.proofs.Least.{least_same}
use Rattle.clash_check.specs.FirstWith.{IsClashOfBoth, IsFirstWith}
use Rattle.clash_check.proofs.Among.{with_more}
use Rattle.plan_core.proofs.IndexedVisits.{sound_within}

-- some of the slots have this clash with this one
abbrev pub IsWithOne : AirportParts → Slot → List Slot → Clash → Type 0
IsWithOne airport p xs c = (q : Slot) × Contains xs q × IsClashOfBoth airport p q c

not_before_itself : (p : Slot) → IsBefore p.part p.part → ⊥
not_before_itself p (inl less) = omega arith
not_before_itself p (inr less) = omega (arith, less.1)

-- sound slots have no clash that counts
no_clash : (airport : AirportParts) (xs : List Slot) (c : Clash) → IsSound airport xs → IsClashAmong airport xs c → ⊥
no_clash airport xs c sound (a, in_a, (b, in_b, clash)) =
    let both : (a.actual && b.actual) ≡ true = sound a b c.minute c.rule in_a in_b clash.rule in
    let planned : (a.actual && b.actual) ≡ false = clash.planned in
    cc

-- so each clash with one more slot is one with that slot
pub with_it : (airport : AirportParts) (xs : List Slot) (p : Slot) (c : Clash) → IsSound airport xs → IsClashAmong airport (xs ++ p ∷ []) c → IsWithOne airport p xs c
with_it airport xs p c sound (a, in_a, (b, in_b, clash)) =
    elim (Contains-push_cases xs p a in_a) [
      | inl a_before ↦ elim (Contains-push_cases xs p b in_b) [
        | inl b_before ↦ absurd (no_clash airport xs c sound (a, a_before, (b, b_before, clash)))
        | inr b_here ↦ (a, a_before, inr (subst (λ (x : Slot). IsClashOf airport a x c) (sym b_here) clash))
      ]
      | inr a_here ↦ elim (Contains-push_cases xs p b in_b) [
        | inl b_before ↦ (b, b_before, inl (subst (λ (x : Slot). IsClashOf airport x b c) (sym a_here) clash))
        | inr b_here ↦ absurd (not_before_itself p (subst (λ (x : Slot). IsBefore p.part x.part) (sym b_here) (subst (λ (x : Slot). IsBefore x.part b.part) (sym a_here) clash.order)))
      ]
    ]

among_it : (airport : AirportParts) (xs : List Slot) (p : Slot) (c : Clash) → IsWithOne airport p xs c → IsClashAmong airport (xs ++ p ∷ []) c
among_it airport xs p c (q, in_q, inl clash) = (p, Contains-push xs p, (q, Contains-append_left xs (p ∷ []) q in_q, clash))
among_it airport xs p c (q, in_q, inr clash) = (q, Contains-append_left xs (p ∷ []) q in_q, (p, Contains-push xs p, clash))

-- the first clash with one more slot is the sooner of the first clashes with it among some of the
-- slots and among the others
pub first_added : (airport : AirportParts) (xs ys : List Slot) (p : Slot) (near among found : Option Clash) → IsSound airport (xs ++ ys)
    → IsFirstClash airport (xs ++ p ∷ []) near → IsFirstWith airport p ys among → IsSooner near among found
    → IsFirstClash airport ((xs ++ ys) ++ p ∷ []) found
first_added airport xs ys p near among found sound h k sooner =
    let left : IsSound airport xs = sound_within airport (xs ++ ys) xs (λ x listed. Contains-append_left xs ys x listed) sound in
    let near_it : IsFirstWith airport p xs near = least_same (IsClashAmong airport (xs ++ p ∷ [])) (IsWithOne airport p xs) near
    (λ c r. with_it airport xs p c left r) (λ c r. among_it airport xs p c r) h in
    least_same (IsWithOne airport p (xs ++ ys)) (IsClashAmong airport ((xs ++ ys) ++ p ∷ [])) found
    (λ c r. among_it airport (xs ++ ys) p c r) (λ c r. with_it airport (xs ++ ys) p c sound r)
    (with_more airport p xs ys (xs ++ ys) near among found refl near_it k sooner)

-- one more pair
pub zip_push : {X Y : Type 0} (R : X → Y → Type 0) (xs : List X) (ys : List Y) (x : X) (y : Y) → AllZip R xs ys → R x y → AllZip R (xs ++ x ∷ []) (ys ++ y ∷ [])
zip_push R [] [] x y h r = (r, tt)
zip_push R (a ∷ xs) (b ∷ ys) x y h r = (h.0, zip_push R xs ys x y h.1 r)
zip_push R [] (b ∷ ys) x y h r = absurd h
zip_push R (a ∷ xs) [] x y h r = absurd h

-- pairs of another relation
pub zip_map : {X Y : Type 0} (R Q : X → Y → Type 0) (xs : List X) (ys : List Y) → ((x : X) (y : Y) → R x y → Q x y) → AllZip R xs ys → AllZip Q xs ys
zip_map R Q [] [] f h = tt
zip_map R Q (a ∷ xs) (b ∷ ys) f h = (f a b h.0, zip_map R Q xs ys f h.1)
zip_map R Q [] (b ∷ ys) f h = absurd h
zip_map R Q (a ∷ xs) [] f h = absurd h

-- an element of the second list has its partner
zip_at : {X Y : Type 0} (R : X → Y → Type 0) (xs : List X) (ys : List Y) (i : ℕ) (y : Y) → AllZip R xs ys → slice_get ys i ≡ Some y → (x : X) × (slice_get xs i ≡ Some x) × R x y
zip_at R [] [] i y h g = absurd (cc)
zip_at R [] (b ∷ ys) i y h g = absurd h
zip_at R (a ∷ xs) [] i y h g = absurd h
zip_at R (a ∷ xs) (b ∷ ys) zero y h g = let same : b ≡ y = cc in (a, refl, subst (R a) same h.0)
zip_at R (a ∷ xs) (b ∷ ys) (suc i) y h g = zip_at R xs ys i y h.1 g

at_push : {X : Type 0} (xs : List X) (x : X) (i : ℕ) (y : X) → slice_get (xs ++ x ∷ []) i ≡ Some y → (slice_get xs i ≡ Some y) ⊎ ((i ≡ length xs) × (x ≡ y))
at_push [] x zero y h = let same : x ≡ y = cc in inr (refl, same)
at_push [] x (suc i) y h = absurd (cc)
at_push (z ∷ xs) x zero y h = inl h
at_push (z ∷ xs) x (suc i) y h = elim (at_push xs x i y h) [ inl old ↦ inl old | inr last ↦ inr (omega (arith, last.0), last.1) ]

count_stands : (n : ℕ) → length (first_stands n) ≡ n
count_stands zero = refl
count_stands (suc n) = omega (arith, length-append (first_stands n) (record { 0 = n } ∷ []), count_stands n)

stand_is : (n i : ℕ) (s : StandNo) → slice_get (first_stands n) i ≡ Some s → s.0 ≡ i
stand_is zero i s h = absurd (cc)
stand_is (suc n) i s h = elim (at_push (first_stands n) (record { 0 = n }) i s h) [
  | inl old ↦ stand_is n i s old
  | inr last ↦ omega (arith, last.0, count_stands n, ap (λ (t : StandNo). t.0) last.1)
]

-- the item at a stand's place in a list belongs to that stand
pub at_stand : {Y : Type 0} (R : StandNo → Y → Type 0) (n : ℕ) (ys : List Y) (s : StandNo) (y : Y) → AllZip R (first_stands n) ys → slice_get ys s.0 ≡ Some y → R s y
at_stand R n ys s y h g =
    let found = zip_at R (first_stands n) ys s.0 y h g in
    let same : found.0.0 ≡ s.0 = stand_is n s.0 found.0 found.1 in
    let is : found.0 ≡ s = ap (λ (k : ℕ). record { 0 = k }) same in
    subst (λ (t : StandNo). R t y) is found.2

-- one more stand
pub stands_push : {Y : Type 0} (R : StandNo → Y → Type 0) (n : ℕ) (ys : List Y) (y : Y) → AllZip R (first_stands n) ys → R (record { 0 = n }) y → AllZip R (first_stands (n + 1)) (ys ++ y ∷ [])
stands_push R n ys y h r =
    let next : suc n ≡ n + 1 = omega arith in
    subst (λ (m : ℕ). AllZip R (first_stands m) (ys ++ y ∷ [])) next (zip_push R (first_stands n) ys (record { 0 = n }) y h r)
