-- Parts of which no two are the same.
use Rattle.std.proofs.Common.{◌≡◌, ◌∙◌, ◌<◌, ◌+◌, ◌==◌, ◌++◌, ◌∷◌, [], ℕ, Bool, true, false, ◌&&◌, ◌||◌, List, map, refl, sym, ap, arith, inl, inr, append-nil, subst}
use Rattle.std.specs.Prelude.{flat_map}
use Rattle.std.specs.List.{list_any}
use Rattle.std.proofs.lemmas.Bool.Decides.{nat_tests}
use Rattle.apron_base.specs.declared.numbers.PartId.{PartId}
use Rattle.apron_base.specs.declared.slot.Slot.{Slot}
use Rattle.apron_rules.specs.declared.parts.AirportParts.{AirportParts}
use Rattle.visit_book.specs.declared.visits.Part.{Part}
use Rattle.visit_book.specs.declared.visits.Place.{Place}
use Rattle.visit_book.specs.declared.visits.Place.TheVariants.{Unplaced, Planned, Actual}
use Rattle.visit_book.specs.declared.visits.Visit.{Visit}
use Rattle.visit_book.specs.Numbers.{IsNumbered, IsNumberedAbove}
use Rattle.visit_book.specs.Slots.{slots_from}
use Rattle.plan_core.specs.Edits.{part_at_place}
use Rattle.bump_core.specs.declared.ranks.Ranked.{Ranked}
use Rattle.bump_core.specs.Lists.{is_same_part}
use Rattle.bump_core.specs.Ranks.{all_parts_on, parts_on, ranked_part}
use Rattle.bump_core.proofs.Blockers.{map_append, slots_at}
use Rattle.bump_core.proofs.Called.{found_at, found_from, part_above}
use Rattle.bump_core.proofs.Near.{among_cases, part_of}
use Rattle.bump_core.proofs.Rounds.{Among}

-- the second is not the same part as the first
abbrev pub Other : Ranked → Ranked → Type 0
Other holder other = is_same_part holder.slot.part other.slot.part ≡ false

-- no later one is the same part
abbrev pub Distinct : List Ranked → Type 0
Distinct [] = Unit {0}
Distinct (holder ∷ parts) = ((other : Ranked) → Among other parts → Other holder other) × Distinct parts

eq_swap : (m n : ℕ) → (m == n) ≡ (n == m)
eq_swap m n = grind (arith, nat_tests)

same_swap : (a b : PartId) → is_same_part a b ≡ is_same_part b a
same_swap a b = rw (eq_swap a.visit.0 b.visit.0, eq_swap a.part b.part) refl

pub same_self : (a : PartId) → is_same_part a a ≡ true
same_self a =
    let visit : (a.visit.0 == a.visit.0) ≡ true = grind (arith, nat_tests) in
    let part : (a.part == a.part) ≡ true = grind (arith, nat_tests) in
    rw (visit, part) refl

pub other_swap : (holder other : Ranked) → Other holder other → Other other holder
other_swap holder other h = same_swap other.slot.part holder.slot.part ∙ h

pub flat_none : {X Y : Type 0} (g : X → List Y) (xs : List X) → ((x : X) → Among x xs → g x ≡ []) → flat_map g xs ≡ []
flat_none g [] h = refl
flat_none g (x ∷ xs) h = let rest : flat_map g xs ≡ [] = flat_none g xs (λ y in'. h y (inr in')) in rw (h x (inl refl), rest) refl

-- if all other parts give nothing
pub flat_one : {Y : Type 0} (g : Ranked → List Y) (parts : List Ranked) (holder : Ranked) → Distinct parts → Among holder parts
    → ((other : Ranked) → Among other parts → Other holder other → g other ≡ []) → flat_map g parts ≡ g holder
flat_one g [] holder d in' h = absurd in'
flat_one g (x ∷ parts) holder d in' h = elim in' [
  | inl here ↦
      let rest : flat_map g parts ≡ [] = flat_none g parts (λ other there. h other (inr there) (subst (λ y. Other y other) (sym here) (d.0 other there))) in
      rw rest (append-nil (g x) ∙ ap g (sym here))
  | inr there ↦
      let first : g x ≡ [] = h x (inl refl) (other_swap x holder (d.0 holder there)) in
      rw first (flat_one g parts holder d.1 there (λ other at. h other (inr at)))
]

pub any_none : {X : Type 0} (f : X → Bool) (xs : List X) → ((x : X) → Among x xs → f x ≡ false) → list_any f xs ≡ false
any_none f [] h = refl
any_none f (x ∷ xs) h = rw (h x (inl refl)) (any_none f xs (λ y in'. h y (inr in')))

or_false : (b : Bool) → (b || false) ≡ b
or_false true = refl
or_false false = refl

-- if all other parts fail
pub any_one : (f : Ranked → Bool) (parts : List Ranked) (holder : Ranked) → Distinct parts → Among holder parts
    → ((other : Ranked) → Among other parts → Other holder other → f other ≡ false) → list_any f parts ≡ f holder
any_one f [] holder d in' h = absurd in'
any_one f (x ∷ parts) holder d in' h = elim in' [
  | inl here ↦
      let rest : list_any f parts ≡ false = any_none f parts (λ other there. h other (inr there) (subst (λ y. Other y other) (sym here) (d.0 other there))) in
      rw rest (or_false (f x) ∙ ap f (sym here))
  | inr there ↦
      let first : f x ≡ false = h x (inl refl) (other_swap x holder (d.0 holder there)) in
      rw first (any_one f parts holder d.1 there (λ other at. h other (inr at)))
]

distinct_append : (xs ys : List Ranked) → Distinct xs → Distinct ys → ((x y : Ranked) → Among x xs → Among y ys → Other x y) → Distinct (xs ++ ys)
distinct_append [] ys d e h = e
distinct_append (x ∷ xs) ys d e h = (
  λ other in'. elim (among_cases other xs ys in') [ inl left ↦ d.0 other left | inr right ↦ h x other (inl refl) right ],
  distinct_append xs ys d.1 e (λ a b in' at. h a b (inr in') at),
)

distinct_at : (airport : AirportParts) (visit : Visit) (number : ℕ) (part : Part) (place : Place)
    → Distinct (map (ranked_part visit) (slots_at airport visit number (part_at_place place part)))
distinct_at airport visit number part (Unplaced bump) = tt
distinct_at airport visit number part (Planned stand) = (λ other in'. absurd in', tt)
distinct_at airport visit number part (Actual stand) = (λ other in'. absurd in', tt)

and_none : (b : Bool) → (b && false) ≡ false
and_none true = refl
and_none false = refl

other_part : (holder other : Ranked) → holder.slot.part.part < other.slot.part.part → Other holder other
other_part holder other h =
    let no' : (holder.slot.part.part == other.slot.part.part) ≡ false = grind (arith, nat_tests) in rw no' (and_none (holder.slot.part.visit.0 == other.slot.part.visit.0))

other_visit : (holder other : Ranked) → holder.slot.part.visit.0 < other.slot.part.visit.0 → Other holder other
other_visit holder other h = let no' : (holder.slot.part.visit.0 == other.slot.part.visit.0) ≡ false = grind (arith, nat_tests) in rw no' refl

distinct_from : (airport : AirportParts) (visit : Visit) (number : ℕ) (parts : List Part)
    → Distinct (map (ranked_part visit) (slots_from airport visit number parts))
distinct_from airport visit number [] = tt
distinct_from airport visit number (part ∷ parts) =
    let here : List Slot = slots_at airport visit number part in
    let more : List Slot = slots_from airport visit (number + 1) parts in
    subst Distinct (sym (map_append (ranked_part visit) here more))
    (distinct_append (map (ranked_part visit) here) (map (ranked_part visit) more) (distinct_at airport visit number part part.place) (distinct_from airport visit (number + 1) parts)
    (λ x y in' at.
    other_part x y (omega (arith, (found_at airport visit number part part.place x in').0, (found_from airport visit (number + 1) parts y at).numbered))))

-- no two parts of a visit are the same
pub distinct_parts : (airport : AirportParts) (visit : Visit) → Distinct (parts_on airport visit)
distinct_parts airport visit = distinct_from airport visit 1 visit.parts

distinct_above : (airport : AirportParts) (base : ℕ) (visits : List Visit) → IsNumberedAbove base visits → Distinct (all_parts_on airport visits)
distinct_above airport base [] h = tt
distinct_above airport base (visit ∷ visits) h =
    distinct_append (parts_on airport visit) (all_parts_on airport visits) (distinct_parts airport visit) (distinct_above airport (base + 1) visits h.1)
    (λ x y in' at. other_visit x y (omega (arith, h.0, (part_of airport visit x in').number, part_above airport (base + 1) visits y h.1 at)))

-- no two parts of visits that are numbered in order are the same
pub distinct_all : (airport : AirportParts) (visits : List Visit) → IsNumbered visits → Distinct (all_parts_on airport visits)
distinct_all airport visits h = distinct_above airport 0 visits h
