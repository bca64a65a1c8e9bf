-- The first clash among slots, with one more.
use Rattle.std.proofs.Common.{◌≡◌, ◌∙◌, ◌<◌, ◌≤◌, ◌+◌, ◌⊎◌, inl, inr, ℕ, zero, suc, Bool, true, false, List, [], ◌∷◌, ◌++◌, refl, sym, ap, subst, arith, Option, None, Some, length, append_assoc, append-nil, take, get_or}
use Rattle.std.specs.Prelude.{Contains, filter}
use Rattle.std.specs.List.{flat_map}
use Rattle.std.proofs.lemmas.List.{flat_map_more, take_all, take_more}
use Rattle.std.proofs.lemmas.List.Elements.{Contains-append_cases, Contains-append_left, Contains-append_right, Contains-push, Contains-push_cases, filter-append}
use Rattle.apron_base.specs.declared.numbers.StandNo.{StandNo}
use Rattle.apron_base.specs.declared.numbers.VisitNo.{VisitNo}
use Rattle.apron_base.specs.declared.slot.Slot.{Slot}
use Rattle.apron_rules.specs.declared.parts.AirportParts.{AirportParts}
use Rattle.apron_rules.specs.declared.rules.Clash.{Clash}
use Rattle.apron_rules.specs.Clash.{IsBefore, IsClashAmong, IsClashOf, IsFirstClash, IsLeast, IsSooner, IsSound}
use Rattle.apron_rules.proofs.Least.{least_of_both}
use Rattle.apron_rules.proofs.Symmetry.{none_from_sound}
use Rattle.clash_check.specs.Clear.{is_of_any, is_of_other}
use Rattle.clash_check.specs.FirstWith.{IsClashOfBoth, IsFirstWith}

-- with no slots
pub with_none : (airport : AirportParts) (slot : Slot) → IsFirstWith airport slot [] None
with_none airport slot clash (other, listed, both) = absurd (omega (arith, listed.1))

-- with some slots, and with more
pub with_more : (airport : AirportParts) (slot : Slot) (xs ys all : List Slot) (first second found : Option Clash) → xs ++ ys ≡ all
    → IsFirstWith airport slot xs first → IsFirstWith airport slot ys second → IsSooner first second found → IsFirstWith airport slot all found
with_more airport slot xs ys all first second found is h k sooner =
    let With : List Slot → Clash → Type 0 = λ others clash. (other : Slot) × Contains others other × IsClashOfBoth airport slot other clash in
    subst (λ others. IsFirstWith airport slot others found) is
    (least_of_both (With xs) (With ys) (With (xs ++ ys)) first second found h k sooner
    (λ c r. elim (Contains-append_cases xs ys r.0 r.1) [ inl left ↦ inl (r.0, left, r.2) | inr right ↦ inr (r.0, right, r.2) ])
    (λ c p. (p.0, Contains-append_left xs ys p.0 p.1, p.2))
    (λ c q. (q.0, Contains-append_right xs ys q.0 q.1, q.2)))

pub the_one : (y x : Slot) → Contains (y ∷ []) x → y ≡ x
the_one y x (zero, inside, at) = at
the_one y x (suc k, inside, at) = absurd (omega (arith, inside))

-- a clash is no later than none
pub sooner_none : (first : Option Clash) → IsSooner first None first
sooner_none None = refl
sooner_none (Some clash) = refl

-- with one slot, either way round
pub with_one : (airport : AirportParts) (slot other : Slot) (first second found : Option Clash) → IsLeast (IsClashOf airport slot other) first → IsLeast (IsClashOf airport other slot) second → IsSooner first second found
    → IsFirstWith airport slot (other ∷ []) found
with_one airport slot other first second found h k sooner =
    let own : Contains (other ∷ []) other = (0, omega arith, refl) in
    least_of_both (IsClashOf airport slot other) (IsClashOf airport other slot) (λ c. (x : Slot) × Contains (other ∷ []) x × IsClashOfBoth airport slot x c) first second found h k sooner
    (λ c r. subst (λ (x : Slot). IsClashOfBoth airport slot x c) (sym (the_one other r.0 r.1)) r.2)
    (λ c a. (other, own, inl a))
    (λ c b. (other, own, inr b))

-- a slot of one of the visits is left out
pub with_left_out : (airport : AirportParts) (slot other : Slot) (without : List VisitNo) → is_of_any without other ≡ true → IsFirstWith airport slot (filter (is_of_other without) (other ∷ [])) None
with_left_out airport slot other without is = rw is (with_none airport slot)

-- a slot of another visit isn't
pub with_other : (airport : AirportParts) (slot other : Slot) (without : List VisitNo) (found : Option Clash) → is_of_any without other ≡ false → IsFirstWith airport slot (other ∷ []) found
    → IsFirstWith airport slot (filter (is_of_other without) (other ∷ [])) found
with_other airport slot other without found is h = rw is h

-- one more slot of a list
pub one_more : (xs : List Slot) (i : ℕ) (d : Slot) → i < length xs → take i xs ++ get_or xs i d ∷ [] ≡ take (i + 1) xs
one_more xs i d inside = sym (take_more xs i d inside)

-- one more, if it passes a test
pub one_more_passed : (p : Slot → Bool) (xs : List Slot) (i : ℕ) (d : Slot) → i < length xs → filter p (take i xs) ++ filter p (get_or xs i d ∷ []) ≡ filter p (take (i + 1) xs)
one_more_passed p xs i d inside = sym (filter-append p (take i xs) (get_or xs i d ∷ [])) ∙ ap (filter p) (one_more xs i d inside)

-- the slots of one more stand
pub one_more_stand : (f : StandNo → List Slot) (stands : List StandNo) (i : ℕ) (d : StandNo) → i < length stands → flat_map f (take i stands) ++ f (get_or stands i d) ≡ flat_map f (take (i + 1) stands)
one_more_stand f stands i d inside = flat_map_more f [] (take i stands) (get_or stands i d) ∙ ap (flat_map f) (sym (take_more stands i d inside))

not_before_itself : (p : Slot) → IsBefore p.part p.part → ⊥
not_before_itself p (inl less) = omega arith
not_before_itself p (inr less) = omega (arith, less.1)

split_among : (airport : AirportParts) (xs : List Slot) (p : Slot) (c : Clash) → IsClashAmong airport (xs ++ p ∷ []) c
    → IsClashAmong airport xs c ⊎ ((q : Slot) × Contains xs q × IsClashOfBoth airport p q c)
split_among airport xs p c (a, in_a, (b, in_b, clash)) =
    elim (Contains-push_cases xs p a in_a) [
      | inl a_before ↦ elim (Contains-push_cases xs p b in_b) [
        | inl b_before ↦ inl (a, a_before, (b, b_before, clash))
        | inr b_here ↦ inr (a, a_before, inr (subst (λ (x : Slot). IsClashOf airport a x c) (sym b_here) clash))
      ]
      | inr a_here ↦ elim (Contains-push_cases xs p b in_b) [
        | inl b_before ↦ inr (b, b_before, inl (subst (λ (x : Slot). IsClashOf airport x b c) (sym a_here) clash))
        | inr b_here ↦ absurd (not_before_itself p (subst (λ (x : Slot). IsBefore p.part x.part) (sym b_here) (subst (λ (x : Slot). IsBefore x.part b.part) (sym a_here) clash.order)))
      ]
    ]

join_among : (airport : AirportParts) (xs : List Slot) (p : Slot) (c : Clash) → (q : Slot) × Contains xs q × IsClashOfBoth airport p q c → IsClashAmong airport (xs ++ p ∷ []) c
join_among airport xs p c (q, in_q, inl clash) = (p, Contains-push xs p, (q, Contains-append_left xs (p ∷ []) q in_q, clash))
join_among airport xs p c (q, in_q, inr clash) = (q, Contains-append_left xs (p ∷ []) q in_q, (p, Contains-push xs p, clash))

-- the first clash with one more slot is the sooner of the first before and the first with it
among_push : (airport : AirportParts) (xs : List Slot) (p : Slot) (first second found : Option Clash)
    → IsFirstClash airport xs first → IsFirstWith airport p xs second → IsSooner first second found → IsFirstClash airport (xs ++ p ∷ []) found
among_push airport xs p first second found h k sooner =
    least_of_both (IsClashAmong airport xs) (λ c. (q : Slot) × Contains xs q × IsClashOfBoth airport p q c) (IsClashAmong airport (xs ++ p ∷ [])) first second found h k sooner
    (split_among airport xs p)
    (λ c among. (among.0, Contains-append_left xs (p ∷ []) among.0 among.1, (among.2.0, Contains-append_left xs (p ∷ []) among.2.0 among.2.1, among.2.2)))
    (join_among airport xs p)

-- the same along a list
pub among_next : (airport : AirportParts) (others changed : List Slot) (i : ℕ) (d : Slot) (first second found : Option Clash) → i < length changed
    → IsFirstClash airport (others ++ take i changed) first → IsFirstWith airport (get_or changed i d) (others ++ take i changed) second → IsSooner first second found
    → IsFirstClash airport (others ++ take (i + 1) changed) found
among_next airport others changed i d first second found inside h k sooner =
    let p = get_or changed i d in
    let grown : (others ++ take i changed) ++ p ∷ [] ≡ others ++ take (i + 1) changed = append_assoc others (take i changed) (p ∷ []) ∙ ap (λ (xs : List Slot). others ++ xs) (one_more changed i d inside) in
    subst (λ (xs : List Slot). IsFirstClash airport xs found) grown (among_push airport (others ++ take i changed) p first second found h k sooner)

-- among sound slots there is none
pub among_none : (airport : AirportParts) (others changed : List Slot) → IsSound airport others → IsFirstClash airport (others ++ take 0 changed) None
among_none airport others changed sound = subst (λ (xs : List Slot). IsFirstClash airport xs None) (sym (append-nil others)) (none_from_sound airport others sound)

-- the same among all slots
pub among_all : (airport : AirportParts) (others changed : List Slot) (i : ℕ) (found : Option Clash) → length changed ≤ i → IsFirstClash airport (others ++ take i changed) found → IsFirstClash airport (others ++ changed) found
among_all airport others changed i found over h = subst (λ (xs : List Slot). IsFirstClash airport (others ++ xs) found) (take_all i changed over) h

-- no visit is left out
pub others_none : (xs : List Slot) → filter (is_of_other []) xs ≡ xs
others_none [] = refl
others_none (x ∷ xs) = ap (λ (ys : List Slot). x ∷ ys) (others_none xs)
