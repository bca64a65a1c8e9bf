-- What an entry takes out of the index of a plan's slots is exactly the slots of the visits that it
-- changes.
use Rattle.std.proofs.Common.{◌≡◌, ◌≢◌, ◌∙◌, ◌<◌, ◌≤◌, ◌+◌, ◌==◌, ◌&&◌, ◌||◌, inl, inr, ℕ, zero, suc, Bool, true, false, cond, not, List, [], ◌∷◌, ◌++◌, refl, sym, ap, subst, arith, Option, None, Some, length, drop, get_or, option_map, option_to_list, slice_index_or}
use Rattle.std.specs.Prelude.{All, Contains, filter, count_by}
use Rattle.std.specs.List.Sorted.{IsPermutation}
use Rattle.std.proofs.lemmas.Bool.Decides.{nat_tests}
use Rattle.std.proofs.Math.ListN.{drop_of_length-le}
use Rattle.std.proofs.lemmas.List.{drop_more}
use Rattle.std.proofs.lemmas.List.Elements.{All-contains, All-contains_itself, All-weaker, Contains-append_cases}
use Rattle.std.proofs.lemmas.List.Sorted.{Contains-permutation, IsPermutation-sym, sum_by-IsPermutation}
use Rattle.std.proofs.lemmas.List.Sums.{sum_by-append, sum_by-cons}
use Rattle.apron_base.specs.Histories.{Rises}
use Rattle.apron_base.specs.declared.numbers.PartId.{PartId}
use Rattle.apron_base.specs.declared.numbers.StandNo.{StandNo}
use Rattle.apron_base.specs.declared.numbers.VisitNo.{VisitNo}
use Rattle.apron_base.specs.declared.slot.Slot.{Slot}
use Rattle.apron_rules.specs.declared.parts.AirportParts.{AirportParts}
use Rattle.apron_rules.specs.declared.rules.Clash.{Clash}
use Rattle.apron_rules.specs.Clash.{IsFirstClash, IsSlotOf, IsSound}
use Rattle.apron_rules.proofs.Bordering.{filter_passed}
use Rattle.clash_check.specs.Clear.{HasPartsOnce, IsClear, is_of_any, is_of_other, others_of}
use Rattle.clash_check.specs.Indexed.{all_slots}
use Rattle.stand_index.specs.Slots.{StandSlots, is_of_part}
use Rattle.visit_book.specs.declared.visits.Part.{Part}
use Rattle.visit_book.specs.declared.visits.Visit.{Visit}
use Rattle.visit_book.specs.Numbers.{IsNumbered, visit_at}
use Rattle.visit_book.specs.Places.{stand_of}
use Rattle.visit_book.specs.Slots.{slot_of, slot_on, slots_from, slots_of, slots_of_visit}
use Rattle.visit_book.specs.WellFormed.{IsWellFormed}
use Rattle.plan_core.specs.Indexed.{IsIndexed}
use Rattle.plan_core.specs.Indexing.{HaveStandsOf, is_off, is_off_parts, is_off_visit, is_off_visits, numbers_of}
use Rattle.plan_core.specs.PlanState.{is_on, visit_number}
use Rattle.plan_core.specs.Working.{replace_visits}
use Rattle.plan_core.proofs.ByNumber.{found_number, number_is}
use Rattle.plan_core.proofs.IndexedOrder.{count_none, numbered_rises, slots_once, slots_ordered}
use Rattle.plan_core.proofs.IndexedStands.{filter_alike, filter_both, filter_whole}
use Rattle.plan_core.proofs.IndexedVisits.{IsMerged, first_same, found_itself, merged_replaced, merged_slots, other_none, slot_number, slot_visit, sound_within}
use Rattle.plan_core.proofs.SlotLists.{slots_are}

not_both : (b c : Bool) → c ≡ false → not (b && c) ≡ true
not_both true c h = ap (λ d. not d) h
not_both false c h = refl

off_part : (stand : Option StandNo) (n : VisitNo) (k : ℕ) (x : Slot) → n.0 ≢ x.part.visit.0 → is_off stand (record { visit = n; part = k }) x ≡ true
off_part None n k x apart = refl
off_part (Some s) n k x apart =
    let other : is_of_part (record { visit = n; part = k }) x ≡ false = grind (arith, nat_tests) in
    not_both (is_on s x) (is_of_part (record { visit = n; part = k }) x) other

-- a slot of a visit of another number is off
off_other : (n : VisitNo) (k : ℕ) (parts : List Part) (x : Slot) → n.0 ≢ x.part.visit.0 → is_off_parts n k parts x ≡ true
off_other n k [] x apart = refl
off_other n k (part ∷ parts) x apart =
    ap (λ b. b && is_off_parts n (k + 1) parts x) (off_part (stand_of part.place) n k x apart) ∙ off_other n (k + 1) parts x apart

none_left : (b : Bool) → (b && false) ≡ false
none_left true = refl
none_left false = refl

own_part : (a : AirportParts) (v : Visit) (k : ℕ) (part : Part) (x : Slot) (stand : Option StandNo) → Contains (option_to_list (option_map (slot_on a v k part) stand)) x
    → is_off stand (record { visit = v.number; part = k }) x ≡ false
own_part a v k part x None h = absurd (omega (arith, h.1))
own_part a v k part x (Some s) h =
    let P : Slot → Type 0 = λ y. is_off (Some s) (record { visit = v.number; part = k }) y ≡ false in
    let on : is_on s (slot_on a v k part s) ≡ true = grind (arith, nat_tests) in
    let of : is_of_part (record { visit = v.number; part = k }) (slot_on a v k part s) ≡ true = grind (arith, nat_tests) in
    let off : P (slot_on a v k part s) = ap (λ b. not (b && is_of_part (record { visit = v.number; part = k }) (slot_on a v k part s))) on ∙ ap (λ b. not b) of in
    All-contains P (slot_on a v k part s ∷ []) x (All-weaker (Contains (slot_on a v k part s ∷ [])) P (λ y c. subst P (the_one (slot_on a v k part s) y c) off)
    (slot_on a v k part s ∷ []) (All-contains_itself (slot_on a v k part s ∷ []))) h
  where
    the_one : (x y : Slot) → Contains (x ∷ []) y → x ≡ y
    the_one x y (zero, inside, at) = at
    the_one x y (suc j, inside, at) = absurd (omega (arith, inside))

-- a slot of the visit itself isn't
off_own : (a : AirportParts) (v : Visit) (k : ℕ) (parts : List Part) (x : Slot) → Contains (slots_from a v k parts) x → is_off_parts v.number k parts x ≡ false
off_own a v k [] x h = absurd (omega (arith, h.1))
off_own a v k (part ∷ parts) x h = elim (Contains-append_cases (option_to_list (slot_of a v k part)) (slots_from a v (k + 1) parts) x h) [
  | inl here ↦ ap (λ b. b && is_off_parts v.number (k + 1) parts x) (own_part a v k part x (stand_of part.place) here)
  | inr later ↦ ap (λ b. is_off (stand_of part.place) (record { visit = v.number; part = k }) x && b) (off_own a v (k + 1) parts x later)
      ∙ none_left (is_off (stand_of part.place) (record { visit = v.number; part = k }) x)
]

off_found : (visits : List Visit) (n : VisitNo) (x : Slot) (found : Option Visit) → visit_at visits n ≡ found → n.0 ≢ x.part.visit.0 → is_off_visit found x ≡ true
off_found visits n x None at apart = refl
off_found visits n x (Some w) at apart = off_other w.number 1 w.parts x (λ e. apart (sym (found_number visits n w at) ∙ e))

-- a slot of a visit is off the changed ones if it is of another visit than these
off_is_other : (a : AirportParts) (visits changed : List Visit) (v : Visit) (x : Slot) → visit_at visits v.number ≡ Some v → x.part.visit ≡ v.number
    → Contains (slots_of_visit a v) x → is_off_visits visits changed x ≡ is_of_other (numbers_of changed) x
off_is_other a visits [] v x at number h = refl
off_is_other a visits (c ∷ changed) v x at number h =
    by (c.number.0 == x.part.visit.0) refl (off_is_other a visits changed v x at number h)
  where
    by : (b : Bool) → (c.number.0 == x.part.visit.0) ≡ b → is_off_visits visits changed x ≡ is_of_other (numbers_of changed) x
        → (is_off_visit (visit_at visits c.number) x && is_off_visits visits changed x) ≡ not (b || is_of_any (numbers_of changed) x)
    by true e rest =
        let same : c.number ≡ v.number = number_is c.number v.number (grind (arith, nat_tests, ap (λ (n : VisitNo). n.0) number)) in
        let found : visit_at visits c.number ≡ Some v = ap (visit_at visits) same ∙ at in
        ap (λ (found : Option Visit). is_off_visit found x && is_off_visits visits changed x) found
        ∙ ap (λ b. b && is_off_visits visits changed x) (off_own a v 1 v.parts x h)
    by false e rest =
        ap (λ b. b && is_off_visits visits changed x) (off_found visits c.number x (visit_at visits c.number) refl (λ same. grind (arith, nat_tests))) ∙ rest

-- what is left is the slots of other visits
pub left_others : (a : AirportParts) (index : List StandSlots) (visits changed : List Visit) → IsIndexed a index visits → IsNumbered visits → All (IsWellFormed a) visits
    → filter (is_off_visits visits changed) (all_slots index) ≡ others_of index (numbers_of changed)
left_others a index visits changed indexed numbered formed =
    filter_alike (is_off_visits visits changed) (is_of_other (numbers_of changed)) (all_slots index) (λ x h.
    let found = slot_visit a visits x ((indexed.slots x).0 h) in
    off_is_other a visits changed found.0 x
    (found_itself 1 (length visits + 1) visits found.0 (numbered_rises 0 (length visits + 1) visits (omega arith) numbered) found.1)
    (slot_number a found.0 x (All-contains (IsWellFormed a) visits found.0 formed found.1) found.2) found.2)

-- the stands of well-formed visits are stands of the index
pub stands_of_index : (a : AirportParts) (index : List StandSlots) (visits : List Visit) → length index ≡ length a.stands → All (IsWellFormed a) visits
    → All (λ visit. HaveStandsOf (length index) visit.parts) visits
stands_of_index a index visits long formed =
    subst (λ (n : ℕ). All {X = Visit} (λ visit. HaveStandsOf n visit.parts) visits) (sym long)
    (All-weaker (IsWellFormed a) (λ visit. HaveStandsOf (length a.stands) visit.parts) (λ v h. h.places) visits formed)

-- an index of a plan that is sound has no clash that counts, nor has it without some visits
pub index_clear : (a : AirportParts) (index : List StandSlots) (visits : List Visit) (without : List VisitNo) → IsIndexed a index visits → All (IsWellFormed a) visits
    → IsSound a (slots_of a visits) → IsClear a index without
index_clear a index visits without indexed formed sound = record {
  stands = indexed.stands;
  slots = λ k d inside.
      let x : Slot = get_or (all_slots index) k d in
      All-contains (IsSlotOf a) (slots_of a visits) x (slots_are a visits formed) ((indexed.slots x).0 (All-contains_itself (all_slots index) k d inside));
  parts = indexed.parts;
  sound = sound_within a (slots_of a visits) (others_of index without) (λ x h. (indexed.slots x).0 (filter_passed (is_of_other without) (all_slots index) x h).0) sound;
}

count_filter : {X : Type 0} (p q : X → Bool) (xs : List X) → count_by p (filter q xs) ≤ count_by p xs
count_filter p q [] = omega arith
count_filter p q (x ∷ xs) = by (q x) (count_filter p q xs)
  where
    by : (b : Bool) → count_by p (filter q xs) ≤ count_by p xs → count_by p (cond b (x ∷ filter q xs) (filter q xs)) ≤ count_by p (x ∷ xs)
    by true rest = omega (arith, rest, sum_by-cons (λ y. cond (p y) 1 0) x (filter q xs), sum_by-cons (λ y. cond (p y) 1 0) x xs)
    by false rest = omega (arith, rest, sum_by-cons (λ y. cond (p y) 1 0) x xs)

of_same : (part : PartId) (x : Slot) → is_of_part part x ≡ true → x.part.visit ≡ part.visit
of_same part x h = number_is x.part.visit part.visit (grind (arith, nat_tests))

-- no part has a slot both among the changed ones and among those of other visits
parts_once : (a : AirportParts) (index : List StandSlots) (changed : List Visit) (high : ℕ) → HasPartsOnce (all_slots index) → Rises visit_number 1 high changed
    → All (IsWellFormed a) changed → HasPartsOnce (others_of index (numbers_of changed) ++ slots_of a changed)
parts_once a index changed high once rise formed part =
    by (visit_at changed part.visit) refl
  where
    p : Slot → Bool
    p = is_of_part part

    others : List Slot
    others = others_of index (numbers_of changed)

    both : count_by p (others ++ slots_of a changed) ≡ count_by p others + count_by p (slots_of a changed)
    both = sum_by-append (λ y. cond (p y) 1 0) others (slots_of a changed)

    none_of : (b : Bool) (v : Visit) → (b ≡ true → Some v ≡ None) → b ≡ false
    none_of true v h = let no : Some v ≡ None = h refl in absurd (cc)
    none_of false v h = refl

    by : (found : Option Visit) → visit_at changed part.visit ≡ found → count_by p (others ++ slots_of a changed) ≤ 1
    by (Some v) at =
        let none : count_by p others ≡ 0 = count_none p others (λ k d inside.
        let x : Slot = get_or others k d in
        let passed = filter_passed (is_of_other (numbers_of changed)) (all_slots index) x (All-contains_itself others k d inside) in
        none_of (p x) v (λ h. sym at ∙ (ap (visit_at changed) (sym (of_same part x h)) ∙ other_none changed x passed.1))) in
        omega (arith, both, none, slots_once (slots_of a changed) (slots_ordered a 1 high changed rise formed) part)
    by None at =
        let none : count_by p (slots_of a changed) ≡ 0 = count_none p (slots_of a changed) (λ k d inside.
        let x : Slot = get_or (slots_of a changed) k d in
        let found = slot_visit a changed x (All-contains_itself (slots_of a changed) k d inside) in
        let number : x.part.visit ≡ found.0.number = slot_number a found.0 x (All-contains (IsWellFormed a) changed found.0 formed found.1) found.2 in
        none_of (p x) found.0 (λ h. sym (found_itself 1 high changed found.0 rise found.1) ∙ (ap (visit_at changed) (sym number ∙ of_same part x h) ∙ at))) in
        omega (arith, both, none, count_filter p (is_of_other (numbers_of changed)) (all_slots index), once part)

-- the index after a change: the slots of other visits stay, and those of the changed ones are put
-- in
pub reindexed : (a : AirportParts) (index out after : List StandSlots) (visits changed new : List Visit) (high : ℕ) → IsIndexed a index visits → IsMerged visits changed new
    → All (IsWellFormed a) visits → All (IsWellFormed a) changed → Rises visit_number 1 high changed
    → all_slots out ≡ others_of index (numbers_of changed) → IsPermutation (all_slots out ++ slots_of a changed) (all_slots after) → length after ≡ length index
    → IsIndexed a after new
reindexed a index out after visits changed new high indexed merged formed changed_formed rise left permuted long =
    let all : List Slot = others_of index (numbers_of changed) ++ slots_of a changed in
    let same : IsPermutation all (all_slots after) = subst (λ (xs : List Slot). IsPermutation (xs ++ slots_of a changed) (all_slots after)) left permuted in
    let slots = merged_slots a index visits changed new indexed merged formed in
    record {
      stands = long ∙ indexed.stands;
      slots = λ x. (
        λ h. (slots x).0 (Contains-permutation (all_slots after) all x (IsPermutation-sym all (all_slots after) same) h),
        λ h. Contains-permutation all (all_slots after) x same ((slots x).1 h),
      );
      parts = λ part. omega (
        arith,
        parts_once a index changed high indexed.parts rise changed_formed part,
        sum_by-IsPermutation (λ y. cond (is_of_part part y) 1 0) all (all_slots after) same,
      );
    }

-- one more of the changed visits
pub out_next : (visits changed : List Visit) (i : ℕ) (c : Visit) (now after was : List Slot) → i < length changed → c ≡ slice_index_or changed i c
    → after ≡ filter (is_off_visit (visit_at visits c.number)) now
    → filter (is_off_visits visits (drop i changed)) now ≡ was → filter (is_off_visits visits (drop (i + 1) changed)) after ≡ was
out_next visits changed i c now after was inside is out told =
    let rest : Slot → Bool = is_off_visits visits (drop (i + 1) changed) in
    let next : drop i changed ≡ c ∷ drop (i + 1) changed = drop_more changed i c inside ∙ ap (λ (v : Visit). v ∷ drop (i + 1) changed) (sym is) in
    ap (filter rest) out ∙ (filter_both (is_off_visit (visit_at visits c.number)) rest now
    ∙ (ap (λ (cs : List Visit). filter (is_off_visits visits cs) now) (sym next) ∙ told))

pub out_done : (visits changed : List Visit) (i : ℕ) (now was : List Slot) → length changed ≤ i → filter (is_off_visits visits (drop i changed)) now ≡ was → now ≡ was
out_done visits changed i now was over told =
    sym (filter_whole (is_off_visits visits []) now (λ x h. refl)) ∙ (ap (λ (cs : List Visit). filter (is_off_visits visits cs) now) (sym (drop_of_length-le changed over)) ∙ told)

-- one more of a visit's parts
pub out_next_part : (n : VisitNo) (parts : List Part) (i : ℕ) (d : Part) (now after was : List Slot) → i < length parts
    → after ≡ filter (is_off (stand_of (slice_index_or parts i d).place) (record { visit = n; part = i + 1 })) now
    → filter (is_off_parts n (i + 1) (drop i parts)) now ≡ was → filter (is_off_parts n (i + 1 + 1) (drop (i + 1) parts)) after ≡ was
out_next_part n parts i d now after was inside out told =
    let p : Part = slice_index_or parts i d in
    let rest : Slot → Bool = is_off_parts n (i + 1 + 1) (drop (i + 1) parts) in
    ap (filter rest) out ∙ (filter_both (is_off (stand_of p.place) (record { visit = n; part = i + 1 })) rest now
    ∙ (ap (λ (ps : List Part). filter (is_off_parts n (i + 1) ps) now) (sym (drop_more parts i d inside)) ∙ told))

pub out_done_parts : (n : VisitNo) (parts : List Part) (i : ℕ) (now was : List Slot) → length parts ≤ i → filter (is_off_parts n (i + 1) (drop i parts)) now ≡ was → now ≡ was
out_done_parts n parts i now was over told =
    sym (filter_whole (is_off_parts n (i + 1) []) now (λ x h. refl)) ∙ (ap (λ (ps : List Part). filter (is_off_parts n (i + 1) ps) now) (sym (drop_of_length-le parts over)) ∙ told)

-- the first clash near the changed slots is that of the plan with the changed visits
pub near_first : (a : AirportParts) (index : List StandSlots) (visits changed : List Visit) (numbers : List VisitNo) (slots : List Slot) (found : Option Clash)
    → IsIndexed a index visits → All (IsWellFormed a) visits → IsNumbered visits → Rises visit_number 1 (length visits + 1) changed
    → numbers ≡ numbers_of changed → slots ≡ slots_of a changed → IsFirstClash a (others_of index numbers ++ slots) found
    → IsFirstClash a (slots_of a (replace_visits visits changed)) found
near_first a index visits changed numbers slots found indexed formed numbered rise is slots_are first =
    first_same a (others_of index (numbers_of changed) ++ slots_of a changed) (slots_of a (replace_visits visits changed)) found
    (merged_slots a index visits changed (replace_visits visits changed) indexed (merged_replaced visits changed numbered rise) formed)
    (subst (λ (xs : List Slot). IsFirstClash a (others_of index (numbers_of changed) ++ xs) found) slots_are
    (subst (λ (ns : List VisitNo). IsFirstClash a (others_of index ns ++ slots) found) is first))
