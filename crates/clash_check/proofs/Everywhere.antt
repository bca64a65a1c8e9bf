-- The clashes with the hits at the neighbours are the clashes with all slots of an index.
use Rattle.std.proofs.Common.{◌≡◌, ◌∙◌, ◌<◌, ◌≤◌, ◌+◌, ◌-◌, ◌==◌, ◌&&◌, ◌||◌, ◌⊎◌, inl, inr, min, max, ℕ, zero, suc, Bool, true, false, cond, List, [], ◌∷◌, ◌++◌, refl, sym, ap, subst, arith, Option, None, Some, length, take, get_or}
use Rattle.std.specs.Prelude.{Contains, count_by, filter, filter_map, nat_lt, option_map}
use Rattle.std.specs.List.{cons_option, flat_map}
use Rattle.std.specs.List.Sorted.{IsPermutation, IsSortedByKey}
use Rattle.std.specs.Ordering.{is_lt, nat_cmp, ordering_then}
use Rattle.std.specs.declared.cmp.Ordering.{Ordering}
use Rattle.std.specs.declared.cmp.Ordering.TheVariants.{Equal, Greater, Less}
use Rattle.std.proofs.lemmas.Bool.Decides.{nat_tests}
use Rattle.std.proofs.lemmas.List.{flat_map_more, take_all, take_more}
use Rattle.std.proofs.lemmas.List.Elements.{filter_map-append}
use Rattle.std.proofs.lemmas.List.Sorted.{Contains-permutation, IsPermutation-sym, sum_by-IsPermutation}
use Rattle.std.proofs.lemmas.List.Sums.{sum_by-cons}
use Rattle.apron_base.specs.declared.numbers.PartId.{PartId}
use Rattle.apron_base.specs.declared.numbers.StandNo.{StandNo}
use Rattle.apron_base.specs.declared.slot.Slot.{Slot}
use Rattle.apron_base.proofs.Sorting.{listed_cases, listed_first, listed_later}
use Rattle.apron_rules.specs.declared.parts.AirportParts.{AirportParts}
use Rattle.apron_rules.specs.declared.rules.Clash.{Clash}
use Rattle.apron_rules.specs.declared.rules.Rule.TheVariants.{Same}
use Rattle.apron_rules.specs.Clash.{IsSlotOf, rule_at}
use Rattle.apron_rules.specs.declared.rules.Meeting.{Meeting}
use Rattle.apron_rules.specs.declared.rules.Wing.TheVariants.{Full}
use Rattle.apron_rules.specs.Refusals.{airport_fault}
use Rattle.apron_rules.specs.Rules.{breaks_with_wings}
use Rattle.apron_rules.proofs.ByPlace.{row_at}
use Rattle.apron_rules.specs.Neighbours.{first_stands, is_neighbour, neighbours_of}
use Rattle.apron_rules.proofs.Bordering.{filter_passed, neighbour_listed}
use Rattle.stand_index.specs.Slots.{IsIndex, StandSlots, at_stand, hits_of, is_hit, no_slots}
use Rattle.clash_check.specs.Clear.{HasPartsOnce}
use Rattle.clash_check.specs.Indexed.{all_slots, slots_at}
use Rattle.clash_check.specs.Steps.{steps_near, steps_within}
use Rattle.clash_check.specs.Meetings.{by_part, clash_with, clash_within, clashes_with, clashes_within, is_smaller, meeting_from}
use Rattle.apron_rules.proofs.Phases.{rule_neighbour}
use Rattle.clash_check.proofs.Looked.{of_stand, rule_hit_within}
use Rattle.clash_check.proofs.Meetings.{from_below, from_first, whole_meeting}
use Rattle.clash_check.proofs.Ordered.{IsOnce, NeverFalls, Rises, falls_nowhere, is_part, ordered_from, ordered_rises, ordered_to, part_of, rises_once, rises_one}

-- a clash with a slot has its part and its rule at its minute, which is one of those asked for
record Tells (airport : AirportParts) (p q : Slot) (from end : ℕ) (c : Clash) : Type 0 where
  b : c.b ≡ q.part
  rule : rule_at airport p q c.minute ≡ Some c.rule
  low : from ≤ c.minute
  high : c.minute < end

tells_by : (airport : AirportParts) (p q : Slot) (from end : ℕ) (c : Clash) (at : Option Meeting) → meeting_from airport p q from (end - from) ≡ at
    → option_map (λ (at : Meeting). record { minute = at.minute; a = p.part; b = q.part; rule = at.rule }) at ≡ Some c → Tells airport p q from end c
tells_by airport p q from end c None is e = absurd (cc)
tells_by airport p q from end c (Some at) is e =
    let same : ◌≡◌ {A = Clash} (record { minute = at.minute; a = p.part; b = q.part; rule = at.rule }) c = cc in
    let first = from_first airport p q from (end - from) at is in
    let below = from_below airport p q from (end - from) at is in
    subst (Tells airport p q from end) same (record { b = refl; rule = first.rule; low = first.from; high = omega (arith, first.from, below) })

tells : (airport : AirportParts) (p q : Slot) (from end : ℕ) (c : Clash) → clash_within airport p from (end - from) q ≡ Some c → Tells airport p q from end c
tells airport p q from end c e = tells_by airport p q from end c (meeting_from airport p q from (end - from)) refl e

none_by : {Y : Type 0} (found : Option Y) → ((y : Y) → found ≡ Some y → ⊥) → found ≡ None
none_by None never = refl
none_by (Some y) never = absurd (never y refl)

-- what is no hit, or is at no neighbour, doesn't clash
no_hit : (airport : AirportParts) (p : Slot) (from end : ℕ) (q : Slot) → is_hit (max from p.from) (min end p.end) q ≡ false → clash_within airport p from (end - from) q ≡ None
no_hit airport p from end q apart = none_by (clash_within airport p from (end - from) q) (λ c e.
    let told = tells airport p q from end c e in
    let yes : is_hit (max from p.from) (min end p.end) q ≡ true = rule_hit_within airport p q c.minute from end c.rule told.rule told.low told.high in cc)

no_neighbour : (airport : AirportParts) (p : Slot) (from end : ℕ) (q : Slot) → airport_fault airport ≡ None → is_neighbour airport p.stand q.stand ≡ false → clash_within airport p from (end - from) q ≡ None
no_neighbour airport p from end q none apart = none_by (clash_within airport p from (end - from) q) (λ c e.
    let listed = rule_neighbour airport p q c.minute c.rule none (tells airport p q from end c e).rule in
    let yes : is_neighbour airport p.stand q.stand ≡ true = (filter_passed (is_neighbour airport p.stand) (first_stands (length airport.stands)) q.stand listed).1 in cc)

mapped_filter : {X Y : Type 0} (h : X → Option Y) (p : X → Bool) (xs : List X) → ((x : X) → p x ≡ false → h x ≡ None) → filter_map h (filter p xs) ≡ filter_map h xs
mapped_filter h p [] none = refl
mapped_filter {X} {Y} h p (x ∷ xs) none = cases (mapped_filter h p xs none) (p x) refl
  where
    cases : filter_map h (filter p xs) ≡ filter_map h xs → (b : Bool) → p x ≡ b → filter_map h (cond b (x ∷ filter p xs) (filter p xs)) ≡ cons_option (h x) (filter_map h xs)
    cases rest true e = ap (cons_option (h x)) rest
    cases rest false e = rest ∙ ap (λ (found : Option Y). cons_option found (filter_map h xs)) (sym (none x e))

mapped_none : {X Y : Type 0} (h : X → Option Y) (xs : List X) → ((x : X) → Contains xs x → h x ≡ None) → filter_map h xs ≡ []
mapped_none h [] none = refl
mapped_none {X} {Y} h (x ∷ xs) none =
    ap (λ (found : Option Y). cons_option found (filter_map h xs)) (none x (listed_first x xs)) ∙ mapped_none h xs (λ y k. none y (listed_later x xs y k))

mapped_lists : {X S Y : Type 0} (h : X → Option Y) (f : S → List X) (stands : List S) → filter_map h (flat_map f stands) ≡ flat_map (λ s. filter_map h (f s)) stands
mapped_lists h f [] = refl
mapped_lists h f (s ∷ stands) = filter_map-append h (f s) (flat_map f stands) ∙ ap (λ ys. filter_map h (f s) ++ ys) (mapped_lists h f stands)

lists_same : {S Y : Type 0} (f g : S → List Y) (stands : List S) → ((s : S) → f s ≡ g s) → flat_map f stands ≡ flat_map g stands
lists_same f g [] same = refl
lists_same f g (s ∷ stands) same = ap (λ ys. ys ++ flat_map f stands) (same s) ∙ ap (λ ys. g s ++ ys) (lists_same f g stands same)

lists_filter : {S Y : Type 0} (g : S → List Y) (p : S → Bool) (stands : List S) → ((s : S) → p s ≡ false → g s ≡ []) → flat_map g (filter p stands) ≡ flat_map g stands
lists_filter g p [] none = refl
lists_filter {S} {Y} g p (s ∷ stands) none = cases (lists_filter g p stands none) (p s) refl
  where
    cases : flat_map g (filter p stands) ≡ flat_map g stands → (b : Bool) → p s ≡ b → flat_map g (cond b (s ∷ filter p stands) (filter p stands)) ≡ g s ++ flat_map g stands
    cases rest true e = ap (λ ys. g s ++ ys) rest
    cases rest false e = rest ∙ ap (λ ys. ys ++ flat_map g stands) (sym (none s e))

-- the slots of the first stands, by their numbers
numbered : (index : List StandSlots) (n : ℕ) → n ≤ length index → flat_map (λ s. slots_at (at_stand index s)) (first_stands n) ≡ flat_map slots_at (take n index)
numbered index zero inside = refl
numbered index (suc n) inside =
    let f : StandNo → List Slot = λ s. slots_at (at_stand index s) in
    let s : StandNo = record { 0 = n } in
    let before : flat_map f (first_stands n) ≡ flat_map slots_at (take n index) = numbered index n (omega (arith, inside)) in
    let last : flat_map slots_at (take n index ++ get_or index n no_slots ∷ []) ≡ flat_map slots_at (take (n + 1) index) = ap (flat_map slots_at) (sym (take_more index n no_slots (omega (arith, inside)))) in
    let next : n + 1 ≡ suc n = omega arith in
    let more : flat_map slots_at (take (n + 1) index) ≡ flat_map slots_at (take (suc n) index) = ap (λ (k : ℕ). flat_map slots_at (take k index)) next in
    sym (flat_map_more f [] (first_stands n) s) ∙ (ap (λ ys. ys ++ f s) before ∙ (flat_map_more slots_at [] (take n index) (get_or index n no_slots) ∙ (last ∙ more)))

all_numbered : (index : List StandSlots) → flat_map (λ s. slots_at (at_stand index s)) (first_stands (length index)) ≡ all_slots index
all_numbered index = numbered index (length index) (omega arith) ∙ ap (flat_map slots_at) (take_all (length index) index (omega arith))

-- the hits of a stand give its clashes
hits_tell : (airport : AirportParts) (p : Slot) (from end : ℕ) (slots : StandSlots) → clashes_within airport p from (end - from) (hits_of slots (max from p.from) (min end p.end)) ≡ clashes_within airport p from (end - from) (slots_at slots)
hits_tell airport p from end slots =
    let h : Slot → Option Clash = clash_within airport p from (end - from) in
    let test : Slot → Bool = is_hit (max from p.from) (min end p.end) in
    filter_map-append h (filter test slots.planned) (filter test slots.actual)
    ∙ (ap (λ ys. ys ++ filter_map h (filter test slots.actual)) (mapped_filter h test slots.planned (no_hit airport p from end))
    ∙ (ap (λ ys. filter_map h slots.planned ++ ys) (mapped_filter h test slots.actual (no_hit airport p from end))
    ∙ sym (filter_map-append h slots.planned slots.actual)))

-- the hits at the neighbours give all clashes
pub all_clashes : (airport : AirportParts) (index : List StandSlots) (p : Slot) (from end : ℕ) → airport_fault airport ≡ None → IsIndex index → length index ≡ length airport.stands
    → clashes_within airport p from (end - from) (flat_map (λ s. hits_of (at_stand index s) (max from p.from) (min end p.end)) (neighbours_of airport p.stand)) ≡ clashes_within airport p from (end - from) (all_slots index)
all_clashes airport index p from end none is count =
    let h : Slot → Option Clash = clash_within airport p from (end - from) in
    let stands = neighbours_of airport p.stand in
    let hits : StandNo → List Slot = λ s. hits_of (at_stand index s) (max from p.from) (min end p.end) in
    let f : StandNo → List Slot = λ s. slots_at (at_stand index s) in
    let apart : (s : StandNo) → is_neighbour airport p.stand s ≡ false → filter_map h (f s) ≡ [] = λ s off.
    mapped_none h (f s) (λ q listed. no_neighbour airport p from end q none (subst (λ (t : StandNo). is_neighbour airport p.stand t ≡ false) (sym (of_stand s (at_stand index s) (is s) q listed)) off)) in
    mapped_lists h hits stands
    ∙ (lists_same (λ s. filter_map h (hits s)) (λ s. filter_map h (f s)) stands (λ s. hits_tell airport p from end (at_stand index s))
    ∙ (lists_filter (λ s. filter_map h (f s)) (is_neighbour airport p.stand) (first_stands (length airport.stands)) apart
    ∙ (sym (mapped_lists h f (first_stands (length airport.stands)))
    ∙ ap (filter_map h) (ap (λ (n : ℕ). flat_map f (first_stands n)) (sym count) ∙ all_numbered index))))

mapped_from : {X Y : Type 0} (h : X → Option Y) (xs : List X) (y : Y) → Contains (filter_map h xs) y → (x : X) × Contains xs x × (h x ≡ Some y)
mapped_from h [] y k = absurd (omega (arith, k.1))
mapped_from {X} {Y} h (x ∷ xs) y k = cases (mapped_from h xs y) (h x) refl k
  where
    cases : (Contains (filter_map h xs) y → (z : X) × Contains xs z × (h z ≡ Some y)) → (found : Option Y) → h x ≡ found → Contains (cons_option found (filter_map h xs)) y → (z : X) × Contains (x ∷ xs) z × (h z ≡ Some y)
    cases rest None e listed = let found = rest listed in (found.0, listed_later x xs found.0 found.1, found.2)
    cases rest (Some z) e listed = elim (listed_cases z (filter_map h xs) y listed) [
      | inl own ↦ (x, listed_first x xs, e ∙ ap (λ (w : Y). Some w) own)
      | inr later ↦ (let found = rest later in (found.0, listed_later x xs found.0 found.1, found.2))
    ]

mapped_to : {X Y : Type 0} (h : X → Option Y) (xs : List X) (x : X) (y : Y) → Contains xs x → h x ≡ Some y → Contains (filter_map h xs) y
mapped_to h [] x y k e = absurd (omega (arith, k.1))
mapped_to {X} {Y} h (z ∷ xs) x y k e = cases (λ old. mapped_to h xs x y old e) (h z) refl (listed_cases z xs x k)
  where
    later : (found : Option Y) → Contains (filter_map h xs) y → Contains (cons_option found (filter_map h xs)) y
    later None listed = listed
    later (Some w) listed = listed_later w (filter_map h xs) y listed

    cases : (Contains xs x → Contains (filter_map h xs) y) → (found : Option Y) → h z ≡ found → (z ≡ x) ⊎ Contains xs x → Contains (cons_option found (filter_map h xs)) y
    cases rest found is (inl own) = subst (λ (o : Option Y). Contains (cons_option o (filter_map h xs)) y) (sym (sym is ∙ (ap h own ∙ e))) (listed_first y (filter_map h xs))
    cases rest found is (inr old) = later found (rest old)

abbrev part_in : Clash → PartId
part_in c = c.b

mapped_rises : (airport : AirportParts) (p : Slot) (from end : ℕ) (xs : List Slot) → Rises part_of xs → Rises part_in (clashes_within airport p from (end - from) xs)
mapped_rises airport p from end [] up = tt
mapped_rises airport p from end (q ∷ xs) up = cases (mapped_rises airport p from end xs up.1) (clash_within airport p from (end - from) q) refl
  where
    cases : Rises part_in (clashes_within airport p from (end - from) xs) → (found : Option Clash) → clash_within airport p from (end - from) q ≡ found → Rises part_in (cons_option found (clashes_within airport p from (end - from) xs))
    cases rest None e = rest
    cases rest (Some c) e = (
      λ d listed.
          let source = mapped_from (clash_within airport p from (end - from)) xs d listed in
          let own = (tells airport p q from end c e).b in
          let other = (tells airport p source.0 from end d source.2).b in
          rw (own, other) (up.0 source.0 source.1),
      rest,
    )

mapped_count : (airport : AirportParts) (p : Slot) (from end : ℕ) (part : PartId) (xs : List Slot) → count_by (λ (c : Clash). is_part part c.b) (clashes_within airport p from (end - from) xs) ≤ count_by (λ (q : Slot). is_part part q.part) xs
mapped_count airport p from end part [] = omega arith
mapped_count airport p from end part (q ∷ xs) = cases (mapped_count airport p from end part xs) (clash_within airport p from (end - from) q) refl
  where
    cases : count_by (λ (c : Clash). is_part part c.b) (clashes_within airport p from (end - from) xs) ≤ count_by (λ (x : Slot). is_part part x.part) xs → (found : Option Clash) → clash_within airport p from (end - from) q ≡ found
        → count_by (λ (c : Clash). is_part part c.b) (cons_option found (clashes_within airport p from (end - from) xs)) ≤ count_by (λ (x : Slot). is_part part x.part) (q ∷ xs)
    cases rest None e = omega (arith, rest, sum_by-cons (λ (x : Slot). cond (is_part part x.part) 1 0) q xs)
    cases rest (Some c) e =
        let f : Clash → ℕ = λ c. cond (is_part part c.b) 1 0 in
        let g : Slot → ℕ = λ x. cond (is_part part x.part) 1 0 in
        let same : f c ≡ g q = ap (λ (other : PartId). cond (is_part part other) 1 0) (tells airport p q from end c e).b in
        omega (arith, rest, sum_by-cons g q xs, sum_by-cons f c (clashes_within airport p from (end - from) xs), same)

-- the clashes with all slots, once they are in order of the other parts
pub sorted_clashes : (airport : AirportParts) (p : Slot) (from end : ℕ) (slots : List Slot) (found sorted : List Clash) → HasPartsOnce slots → found ≡ clashes_within airport p from (end - from) slots → IsPermutation found sorted
    → NeverFalls part_in sorted → sorted ≡ clashes_within airport p from (end - from) (by_part slots)
sorted_clashes airport p from end slots found sorted once are moved falls =
    let h : Slot → Option Clash = clash_within airport p from (end - from) in
    let counts : IsOnce part_in sorted = λ part.
    omega (arith, sum_by-IsPermutation (λ (c : Clash). cond (is_part part c.b) 1 0) found sorted moved, ap (count_by (λ (c : Clash). is_part part c.b)) are, mapped_count airport p from end part slots, once part) in
    rises_one part_in sorted (clashes_within airport p from (end - from) (by_part slots)) (rises_once part_in sorted falls counts) (mapped_rises airport p from end (by_part slots) (ordered_rises slots once))
    (λ c listed.
    let source = mapped_from h slots c (subst (λ (xs : List Clash). Contains xs c) are (Contains-permutation sorted found c (IsPermutation-sym found sorted moved) listed)) in
    mapped_to h (by_part slots) source.0 c (ordered_to slots source.0 source.1) source.2)
    (λ c listed.
    let source = mapped_from h (by_part slots) c listed in
    Contains-permutation found sorted c moved (subst (λ (xs : List Clash). Contains xs c) (sym are) (mapped_to h slots source.0 c (ordered_from slots source.0 source.1) source.2)))

-- a slot's stand is its own neighbour
pub some_neighbour : (airport : AirportParts) (slot : Slot) → airport_fault airport ≡ None → IsSlotOf airport slot → 0 < length (neighbours_of airport slot.stand)
some_neighbour airport slot none is =
    let row = row_at airport.stands slot.stand.0 is.0 in
    let kind = row_at airport.types slot.kind.0 is.1 in
    let one : (slot.stand.0 == slot.stand.0) ≡ true = grind (arith, nat_tests) in
    let rule : breaks_with_wings airport slot.stand slot.kind Full slot.stand slot.kind Full ≡ Some Same = rw (row.1, kind.1, one) refl in
    omega (arith, (neighbour_listed airport none slot.stand slot.stand slot.kind Full slot.kind Full Same rule).1)

-- parts are compared by their visits, and then by their numbers
abbrev pub compare_parts : PartId → PartId → Ordering
compare_parts part other = ordering_then (nat_cmp part.visit.0 other.visit.0) (nat_cmp part.part other.part)

smaller_by : (p q r s : Bool) → is_lt (ordering_then (cond p Less (cond q Equal Greater)) (cond r Less (cond s Equal Greater))) ≡ (p || (q && r))
smaller_by true q r s = refl
smaller_by false false r s = refl
smaller_by false true true s = refl
smaller_by false true false true = refl
smaller_by false true false false = refl

smaller_is : (part other : PartId) → is_lt (compare_parts part other) ≡ is_smaller part other
smaller_is part other = smaller_by (nat_lt part.visit.0 other.visit.0) (part.visit.0 == other.visit.0) (nat_lt part.part other.part) (part.part == other.part)

-- clashes in order of their second parts
pub sorted_falls : (sorted : List Clash) → IsSortedByKey (λ (c : Clash). c.b) compare_parts sorted → NeverFalls part_in sorted
sorted_falls sorted up = falls_nowhere part_in sorted (λ k d inside.
    let next : k + 1 ≡ suc k = omega arith in
    let later = up k d (omega arith) (omega (arith, inside)) in
    sym (smaller_is (get_or sorted (suc k) d).b (get_or sorted k d).b)
    ∙ subst (λ (n : ℕ). is_lt (compare_parts (get_or sorted n d).b (get_or sorted k d).b) ≡ false) next later)

own_clashes : (airport : AirportParts) (p : Slot) (xs : List Slot) → clashes_within airport p 0 p.end xs ≡ clashes_with airport p xs
own_clashes airport p [] = refl
own_clashes airport p (q ∷ xs) =
    ap (λ (at : Option Meeting). cons_option (option_map (λ (at : Meeting). record { minute = at.minute; a = p.part; b = q.part; rule = at.rule }) at) (clashes_within airport p 0 p.end xs)) (whole_meeting airport p q)
    ∙ ap (cons_option (clash_with airport p q)) (own_clashes airport p xs)

-- the clashes at any of a slot's own minutes are all its clashes
pub whole_clashes : (airport : AirportParts) (p : Slot) (xs : List Slot) → clashes_within airport p 0 (p.end - 0) xs ≡ clashes_with airport p xs
whole_clashes airport p xs = let plain : p.end - 0 ≡ p.end = omega arith in ap (λ (more : ℕ). clashes_within airport p 0 more xs) plain ∙ own_clashes airport p xs

-- and take no more steps
pub whole_steps : (airport : AirportParts) (index : List StandSlots) (p : Slot) → steps_within airport index p 0 p.end ≡ steps_near airport index p
whole_steps airport index p =
    let low : max 0 p.from ≡ p.from = omega arith in
    let high : min p.end p.end ≡ p.end = omega arith in
    rw (low, high) refl
