-- Parts found by their numbers.
use Rattle.std.proofs.Common.{◌≡◌, ◌∙◌, ◌<◌, ◌+◌, ◌-◌, ◌==◌, ◌∷◌, [], ℕ, zero, suc, true, false, List, Option, Some, None, map, refl, sym, ap, arith, inl, inr, append-nil, subst}
use Rattle.std.specs.Prelude.{All, filter_map, option_and_then, option_map, slice_get}
use Rattle.std.specs.List.{cons_option}
use Rattle.std.proofs.lemmas.Bool.Decides.{nat_tests}
use Rattle.std.proofs.lemmas.List.Elements.{All-cons, All-map, All-nil}
use Rattle.apron_base.specs.declared.slot.Slot.{Slot}
use Rattle.apron_rules.specs.declared.parts.AirportParts.{AirportParts}
use Rattle.apron_rules.specs.Clash.{IsSlotOf}
use Rattle.apron_rules.specs.declared.rules.Meeting.{Meeting}
use Rattle.clash_check.specs.Meetings.{clash_with, clashes_with, meeting}
use Rattle.visit_book.specs.declared.visits.Part.{Part}
use Rattle.visit_book.specs.declared.visits.Place.{Place}
use Rattle.visit_book.specs.declared.visits.Place.TheVariants.{Unplaced, Planned, Actual}
use Rattle.visit_book.specs.declared.visits.Visit.{Visit}
use Rattle.visit_book.specs.Numbers.{IsNumbered, IsNumberedAbove, has_number}
use Rattle.visit_book.specs.Slots.{slot_of, slots_from, slots_of, slots_of_visit}
use Rattle.visit_book.specs.WellFormed.{IsWellFormed}
use Rattle.plan_core.specs.Edits.{part_at_place}
use Rattle.plan_core.proofs.SlotLists.{slots_are}
use Rattle.bump_core.specs.declared.ranks.KeptClash.{KeptClash}
use Rattle.bump_core.specs.declared.ranks.Ranked.{Ranked}
use Rattle.bump_core.specs.Lists.{kept_clash, kept_clash_at, kept_clashes_of_part, part_called, part_on}
use Rattle.bump_core.specs.Ranks.{all_parts_on, parts_on, ranked_part}
use Rattle.bump_core.proofs.Blockers.{among_along, map_append, slots_at}
use Rattle.bump_core.proofs.Near.{among_cases, part_of}
use Rattle.bump_core.proofs.Rounds.{Among}
use Rattle.bump_core.proofs.Settled.{slot_in, slots_are_in}

-- the part of a visit at a place of its list
pub record Found (airport : AirportParts) (visit : Visit) (number : ℕ) (parts : List Part) (holder : Ranked) : Type 0 where
  pub index : ℕ
  pub part : Part
  pub at : slice_get parts index ≡ Some part
  pub numbered : holder.slot.part.part ≡ number + index
  pub is : option_map (ranked_part visit) (slot_of airport visit (number + index) part) ≡ Some holder

pub found_at : (airport : AirportParts) (visit : Visit) (number : ℕ) (part : Part) (place : Place) (holder : Ranked)
    → Among holder (map (ranked_part visit) (slots_at airport visit number (part_at_place place part)))
    → (holder.slot.part.part ≡ number) × (option_map (ranked_part visit) (slot_of airport visit number (part_at_place place part)) ≡ Some holder)
found_at airport visit number part (Unplaced bump) holder h = absurd h
found_at airport visit number part (Planned stand) holder h = elim h [
  | inl here ↦ (ap (λ (x : Ranked). x.slot.part.part) here, ap (λ (x : Ranked). Some x) (sym here))
  | inr there ↦ absurd there
]
found_at airport visit number part (Actual stand) holder h = elim h [
  | inl here ↦ (ap (λ (x : Ranked). x.slot.part.part) here, ap (λ (x : Ranked). Some x) (sym here))
  | inr there ↦ absurd there
]

plus_zero : (number : ℕ) → number + zero ≡ number
plus_zero number = omega arith

plus_suc : (number index : ℕ) → number + suc index ≡ number + 1 + index
plus_suc number index = omega arith

suc_zero : (number : ℕ) → (suc number == 0) ≡ false
suc_zero number = grind (arith, nat_tests)

pub found_from : (airport : AirportParts) (visit : Visit) (number : ℕ) (parts : List Part) (holder : Ranked)
    → Among holder (map (ranked_part visit) (slots_from airport visit number parts)) → Found airport visit number parts holder
found_from airport visit number [] holder h = absurd h
found_from airport visit number (part ∷ parts) holder h =
    let here : List Slot = slots_at airport visit number part in
    let more : List Slot = slots_from airport visit (number + 1) parts in
    elim (among_cases holder (map (ranked_part visit) here) (map (ranked_part visit) more) (among_along holder _ _ (map_append (ranked_part visit) here more) h)) [
      | inl first ↦
          let found = found_at airport visit number part part.place holder first in
          record { index = zero; part = part; at = refl; numbered = omega (arith, found.0); is = rw (plus_zero number) found.1 }
      | inr later ↦
          let found : Found airport visit (number + 1) parts holder = found_from airport visit (number + 1) parts holder later in
          record {
            index = suc found.index;
            part = found.part;
            at = found.at;
            numbered = omega (arith, found.numbered);
            is = rw (plus_suc number found.index) found.is;
          }
    ]

part_found : (airport : AirportParts) (visit : Visit) (number : ℕ) (holder : Ranked) → Found airport visit 1 visit.parts holder
    → number ≡ holder.slot.part.part
    → part_on airport visit number ≡ Some holder
part_found airport visit zero holder found e = absurd (omega (arith, found.numbered))
part_found airport visit (suc number) holder found e =
    let index : suc number - 1 ≡ found.index = omega (arith, found.numbered) in
    let same : 1 + found.index ≡ suc number = omega (arith, found.numbered) in
    rw (suc_zero number, index, found.at)
    (subst (λ i. option_map (ranked_part visit) (slot_of airport visit i found.part) ≡ Some holder) same found.is)

-- a part on a stand is found in its visit by its number
pub part_on_is : (airport : AirportParts) (visit : Visit) (holder : Ranked) → Among holder (parts_on airport visit)
    → part_on airport visit holder.slot.part.part ≡ Some holder
part_on_is airport visit holder h = part_found airport visit holder.slot.part.part holder (found_from airport visit 1 visit.parts holder h) refl

-- a part of visits that are numbered in order is of one of a greater number
pub part_above : (airport : AirportParts) (base : ℕ) (visits : List Visit) (holder : Ranked) → IsNumberedAbove base visits
    → Among holder (all_parts_on airport visits)
    → base < holder.slot.part.visit.0
part_above airport base [] holder h in' = absurd in'
part_above airport base (visit ∷ visits) holder h in' = elim (among_cases holder (parts_on airport visit) (all_parts_on airport visits) in') [
  | inl here ↦ omega (arith, h.0, (part_of airport visit holder here).number)
  | inr there ↦ omega (arith, part_above airport (base + 1) visits holder h.1 there)
]

-- a part on a stand is found among visits by its numbers
called_above : (airport : AirportParts) (base : ℕ) (visits : List Visit) (holder : Ranked) → IsNumberedAbove base visits
    → Among holder (all_parts_on airport visits)
    → part_called airport visits holder.slot.part ≡ Some holder
called_above airport base [] holder h in' = absurd in'
called_above airport base (visit ∷ visits) holder h in' = elim (among_cases holder (parts_on airport visit) (all_parts_on airport visits) in') [
  | inl here ↦
      let same : holder.slot.part.visit.0 ≡ visit.number.0 = (part_of airport visit holder here).number in
      let yes : has_number holder.slot.part.visit visit ≡ true = grind (arith, nat_tests) in
      rw yes (part_on_is airport visit holder here)
  | inr there ↦
      let above : base + 1 < holder.slot.part.visit.0 = part_above airport (base + 1) visits holder h.1 there in
      let no' : has_number holder.slot.part.visit visit ≡ false = grind (arith, nat_tests, h.0) in
      rw no' (called_above airport (base + 1) visits holder h.1 there)
]

pub part_called_is : (airport : AirportParts) (visits : List Visit) (holder : Ranked) → IsNumbered visits → Among holder (all_parts_on airport visits)
    → part_called airport visits holder.slot.part ≡ Some holder
part_called_is airport visits holder h in' = called_above airport 0 visits holder h in'

given_first : {X S Y Z : Type 0} (s : X → S) (h : S → Option Y) (g : Y → Option Z) (k : X → Option Z) (x : X) (xs : List X) (found : Option Y)
    → h (s x) ≡ found
    → k x ≡ option_and_then g found → filter_map g (filter_map h (map s xs)) ≡ filter_map k xs
    → filter_map g (filter_map h (map s (x ∷ xs))) ≡ filter_map k (x ∷ xs)
given_first s h g k x xs None is same rest = rw (is, same) rest
given_first s h g k x xs (Some y) is same rest = rw (is, same) (ap (cons_option (g y)) rest)

given_twice : {X S Y Z : Type 0} (s : X → S) (h : S → Option Y) (g : Y → Option Z) (k : X → Option Z) (xs : List X)
    → ((x : X) → Among x xs → k x ≡ option_and_then g (h (s x))) → filter_map g (filter_map h (map s xs)) ≡ filter_map k xs
given_twice s h g k [] same = refl
given_twice s h g k (x ∷ xs) same = given_first s h g k x xs (h (s x)) refl (same x (inl refl)) (given_twice s h g k xs (λ y in'. same y (inr in')))

met_case : (airport : AirportParts) (visits : List Visit) (own other : Ranked) (found : Option Meeting)
    → part_called airport visits other.slot.part ≡ Some other
    → ◌≡◌ {A = Option KeptClash} (option_map (λ (at : Meeting). record { own = own; other = other; minute = at.minute; rule = at.rule }) found)
    (option_and_then (kept_clash_at airport visits own) (option_map (λ (at : Meeting). record { minute = at.minute; a = own.slot.part; b = other.slot.part; rule = at.rule }) found))
met_case airport visits own other None called = refl
met_case airport visits own other (Some at) called = rw called refl

met_same : (airport : AirportParts) (visits : List Visit) (own other : Ranked) → part_called airport visits other.slot.part ≡ Some other
    → kept_clash airport own other ≡ option_and_then (kept_clash_at airport visits own) (clash_with airport own.slot other.slot)
unfolding kept_clash
met_same airport visits own other called = met_case airport visits own other (meeting airport own.slot other.slot) called

-- the clashes of a slot show which parts it meets
pub met_by_clashes : (airport : AirportParts) (visits : List Visit) (own : Ranked) (slots : List Slot) → IsNumbered visits → slots ≡ slots_of airport visits
    → filter_map (kept_clash_at airport visits own) (clashes_with airport own.slot slots) ≡ kept_clashes_of_part airport (all_parts_on airport visits) own
met_by_clashes airport visits own slots h e =
    ap (λ ss. filter_map (kept_clash_at airport visits own) (clashes_with airport own.slot ss)) (e ∙ slots_are_in airport visits)
    ∙ given_twice slot_in (clash_with airport own.slot) (kept_clash_at airport visits own) (kept_clash airport own) (all_parts_on airport visits)
    (λ other in'. met_same airport visits own other (part_called_is airport visits other h in'))

-- the parts of a well-formed visit have slots of the airport
pub own_slots : (airport : AirportParts) (visit : Visit) (owns : List Ranked) → IsWellFormed airport visit → owns ≡ parts_on airport visit
    → All (λ own. IsSlotOf airport own.slot) owns
own_slots airport visit owns h e =
    let one : All (IsWellFormed airport) (visit ∷ []) = All-cons (IsWellFormed airport) visit [] h (All-nil (IsWellFormed airport)) in
    let P : List Slot → Type 0 = λ slots. All (IsSlotOf airport) slots in
    let slots : All (IsSlotOf airport) (slots_of_visit airport visit) =
    subst P (append-nil (slots_of_visit airport visit)) (slots_are airport (visit ∷ []) one) in
    let Q : List Ranked → Type 0 = λ parts. All (λ own. IsSlotOf airport own.slot) parts in
    subst Q (sym e) (All-map (λ own. IsSlotOf airport own.slot) (ranked_part visit) (slots_of_visit airport visit) slots)
