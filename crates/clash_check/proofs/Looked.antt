-- What a look at the neighbours of a slot's stand leaves out clashes with it at no minute.
use Rattle.std.proofs.Common.{◌≡◌, ◌∙◌, ◌<◌, ◌≤◌, ◌&&◌, inl, inr, ℕ, zero, suc, true, false, List, [], ◌∷◌, sym, subst, arith, None, Some, length, get_or, min, max}
use Rattle.std.specs.Prelude.{All, Contains, filter, nat_le, nat_lt}
use Rattle.std.specs.List.{flat_map}
use Rattle.std.proofs.lemmas.Bool.Decides.{nat_tests}
use Rattle.std.proofs.lemmas.List.Elements.{All-contains, Contains-append_cases, Contains-append_left, Contains-append_right, Contains-get_or}
use Rattle.apron_base.specs.declared.numbers.StandNo.{StandNo}
use Rattle.apron_base.specs.declared.numbers.VisitNo.{VisitNo}
use Rattle.apron_base.specs.declared.slot.Slot.{Slot}
use Rattle.apron_rules.specs.declared.parts.AirportParts.{AirportParts}
use Rattle.apron_rules.specs.declared.rules.Clash.{Clash}
use Rattle.apron_rules.specs.declared.rules.Rule.{Rule}
use Rattle.apron_rules.specs.Clash.{IsSound, NeverClash, rule_at}
use Rattle.apron_rules.specs.Neighbours.{neighbours_of}
use Rattle.apron_rules.specs.Refusals.{airport_fault}
use Rattle.apron_rules.proofs.Bordering.{filter_passed, neighbours_within, passes_filter}
use Rattle.apron_rules.proofs.Phases.{meets, rule_neighbour}
use Rattle.apron_rules.proofs.Symmetry.{rule_at_sym}
use Rattle.stand_index.specs.Slots.{AreSlotsAt, IsIndex, IsSlotAt, StandSlots, at_stand, hits_of, is_hit, no_slots}
use Rattle.clash_check.specs.Clear.{IsClear, is_of_other, others_of}
use Rattle.clash_check.specs.FirstWith.{IsClashOfBoth, IsFirstWith}
use Rattle.clash_check.specs.Indexed.{all_slots, slots_at}
use Rattle.clash_check.proofs.Among.{others_none, the_one}

-- an item of the lists together is an item of one of them
pub found_in : {X A : Type 0} (f : X → List A) (xs : List X) (y : A) (d : X) → Contains (flat_map f xs) y → (k : ℕ) × (k < length xs) × Contains (f (get_or xs k d)) y
found_in f [] y d (k, inside, at) = absurd (omega arith)
found_in f (x ∷ xs) y d h =
    elim (Contains-append_cases (f x) (flat_map f xs) y h) [
      | inl here ↦ (0, omega arith, here)
      | inr later ↦ (let found = found_in f xs y d later in (suc found.0, omega (arith, found.1), found.2))
    ]

-- an item of one of the lists is an item of all together
pub put_in : {X A : Type 0} (f : X → List A) (xs : List X) (y : A) (d : X) (k : ℕ) → k < length xs → Contains (f (get_or xs k d)) y → Contains (flat_map f xs) y
put_in f [] y d k inside h = absurd (omega arith)
put_in f (x ∷ xs) y d zero inside h = Contains-append_left (f x) (flat_map f xs) y h
put_in f (x ∷ xs) y d (suc k) inside h = Contains-append_right (f x) (flat_map f xs) y (put_in f xs y d k (omega arith) h)

-- the slots of a stand have its number
pub of_stand : (stand : StandNo) (slots : StandSlots) → AreSlotsAt stand slots → (q : Slot) → Contains (slots_at slots) q → q.stand ≡ stand
of_stand stand slots are q h =
    elim (Contains-append_cases slots.planned slots.actual q h) [
      | inl planned ↦ (All-contains (IsSlotAt stand false) slots.planned q are.planned planned).stand
      | inr actual ↦ (All-contains (IsSlotAt stand true) slots.actual q are.actual actual).stand
    ]

-- each slot of an index is at its stand
pub at_its_stand : (index : List StandSlots) → IsIndex index → (q : Slot) → Contains (all_slots index) q → Contains (slots_at (at_stand index q.stand)) q
at_its_stand index is q h =
    let found = found_in slots_at index q no_slots h in
    let s : StandNo = record { 0 = found.0 } in
    let own : q.stand ≡ s = of_stand s (at_stand index s) (is s) q found.2 in
    subst (λ (t : StandNo). Contains (slots_at (at_stand index t)) q) (sym own) found.2

-- what is at a stand is in the index
pub of_index : (index : List StandSlots) (s : StandNo) → s.0 < length index → (q : Slot) → Contains (slots_at (at_stand index s)) q → Contains (all_slots index) q
of_index index s inside q h = put_in slots_at index q no_slots s.0 inside h

-- hits are of their stand
pub hit_of : (slots : StandSlots) (from end : ℕ) (q : Slot) → Contains (hits_of slots from end) q → Contains (slots_at slots) q
hit_of slots from end q h =
    elim (Contains-append_cases (filter (is_hit from end) slots.planned) (filter (is_hit from end) slots.actual) q h) [
      | inl planned ↦ Contains-append_left slots.planned slots.actual q (filter_passed (is_hit from end) slots.planned q planned).0
      | inr actual ↦ Contains-append_right slots.planned slots.actual q (filter_passed (is_hit from end) slots.actual q actual).0
    ]

-- a slot with a minute in common is a hit
pub hit_listed : (slots : StandSlots) (from end : ℕ) (q : Slot) → Contains (slots_at slots) q → is_hit from end q ≡ true → Contains (hits_of slots from end) q
hit_listed slots from end q h passes =
    elim (Contains-append_cases slots.planned slots.actual q h) [
      | inl planned ↦ Contains-append_left (filter (is_hit from end) slots.planned) (filter (is_hit from end) slots.actual) q (passes_filter (is_hit from end) slots.planned q planned passes)
      | inr actual ↦ Contains-append_right (filter (is_hit from end) slots.planned) (filter (is_hit from end) slots.actual) q (passes_filter (is_hit from end) slots.actual q actual passes)
    ]

-- what holds of all slots of the index holds of the hits of a stand
pub all_hits : (P : Slot → Type 0) (index : List StandSlots) (s : StandNo) (from end : ℕ) → s.0 < length index → All P (all_slots index) → All P (hits_of (at_stand index s) from end)
all_hits P index s from end inside all k d within =
    let hits = hits_of (at_stand index s) from end in
    All-contains P (all_slots index) _ all (of_index index s inside _ (hit_of (at_stand index s) from end _ (Contains-get_or hits k d within)))

hit_by : (m from end f e : ℕ) → (nat_le from m && nat_lt m end) ≡ true → (nat_le f m && nat_lt m e) ≡ true → nat_lt (max from f) (min end e) ≡ true
hit_by m from end f e held held_too =
    let a : from ≤ m = grind (arith, nat_tests) in
    let b : m < end = grind (arith, nat_tests) in
    let c : f ≤ m = grind (arith, nat_tests) in
    let d : m < e = grind (arith, nat_tests) in
    let both : max from f < min end e = omega arith in
    grind (arith, nat_tests)

-- two slots with a rule at a minute both hold that minute
pub rule_hit : (airport : AirportParts) (p q : Slot) (m : ℕ) (rule : Rule) → rule_at airport p q m ≡ Some rule → is_hit p.from p.end q ≡ true
rule_hit airport p q m rule h = let met = meets airport p q m rule h in hit_by m p.from p.end q.from q.end met.held met.held_too

hit_within : (m first last from end f e : ℕ) → first ≤ m → m < last → (nat_le from m && nat_lt m end) ≡ true → (nat_le f m && nat_lt m e) ≡ true → nat_lt (max (max first from) f) (min (min last end) e) ≡ true
hit_within m first last from end f e low high held held_too = hit_by m (max first from) (min last end) f e (narrow m first last from end low high held) held_too
  where
    narrow : (m first last from end : ℕ) → first ≤ m → m < last → (nat_le from m && nat_lt m end) ≡ true → (nat_le (max first from) m && nat_lt m (min last end)) ≡ true
    narrow m first last from end low high held = grind (arith, nat_tests)

-- also among the minutes from one to another
pub rule_hit_within : (airport : AirportParts) (p q : Slot) (m from end : ℕ) (rule : Rule) → rule_at airport p q m ≡ Some rule → from ≤ m → m < end → is_hit (max from p.from) (min end p.end) q ≡ true
rule_hit_within airport p q m from end rule h low high = let met = meets airport p q m rule h in hit_within m from end p.from p.end q.from q.end low high met.held met.held_too

-- slots that clash have a rule, whichever part is the smaller
rule_of_both : (airport : AirportParts) (p q : Slot) (c : Clash) → IsClashOfBoth airport p q c → rule_at airport p q c.minute ≡ Some c.rule
rule_of_both airport p q c (inl clash) = clash.rule
rule_of_both airport p q c (inr clash) = rule_at_sym airport p q c.minute ∙ clash.rule

-- slots that clash at no minute of the first have no clash
pub passed_over : (airport : AirportParts) (p q : Slot) → NeverClash airport p q p.from p.end → IsFirstWith airport p (q ∷ []) None
passed_over airport p q never c (other, listed, both) =
    let here : IsClashOfBoth airport p q c = subst (λ x. IsClashOfBoth airport p x c) (sym (the_one q other listed)) both in
    let rule = rule_of_both airport p q c here in
    let held : (nat_le p.from c.minute && nat_lt c.minute p.end) ≡ true = (meets airport p q c.minute c.rule rule).held in
    let none = never c.minute (grind (arith, nat_tests, held)) (grind (arith, nat_tests, held)) in
    absurd (cc)

-- a clash with one of other visits is with one of the hits
pub clash_to_hit : (airport : AirportParts) (slots : StandSlots) (without : List VisitNo) (p : Slot) (c : Clash)
    → (q : Slot) × Contains (filter (is_of_other without) (slots_at slots)) q × IsClashOfBoth airport p q c
    → (q : Slot) × Contains (filter (is_of_other without) (hits_of slots p.from p.end)) q × IsClashOfBoth airport p q c
clash_to_hit airport slots without p c (q, listed, both) =
    let passed = filter_passed (is_of_other without) (slots_at slots) q listed in
    let hit = rule_hit airport p q c.minute c.rule (rule_of_both airport p q c both) in
    (q, passes_filter (is_of_other without) (hits_of slots p.from p.end) q (hit_listed slots p.from p.end q passed.0 hit) passed.1, both)

pub hit_to_clash : (airport : AirportParts) (slots : StandSlots) (without : List VisitNo) (p : Slot) (c : Clash)
    → (q : Slot) × Contains (filter (is_of_other without) (hits_of slots p.from p.end)) q × IsClashOfBoth airport p q c
    → (q : Slot) × Contains (filter (is_of_other without) (slots_at slots)) q × IsClashOfBoth airport p q c
hit_to_clash airport slots without p c (q, listed, both) =
    let passed = filter_passed (is_of_other without) (hits_of slots p.from p.end) q listed in
    (q, passes_filter (is_of_other without) (slots_at slots) q (hit_of slots p.from p.end q passed.0) passed.1, both)

-- the slots of other visits at a stand
abbrev pub others_at : List StandSlots → List VisitNo → StandNo → List Slot
others_at index without stand = filter (is_of_other without) (slots_at (at_stand index stand))

-- a clash with one of other visits is with one at a neighbour
pub clash_to_near : (airport : AirportParts) (index : List StandSlots) (without : List VisitNo) (p : Slot) (c : Clash) → airport_fault airport ≡ None → (0 < length (neighbours_of airport p.stand) → IsIndex index)
    → (q : Slot) × Contains (others_of index without) q × IsClashOfBoth airport p q c
    → (q : Slot) × Contains (flat_map (others_at index without) (neighbours_of airport p.stand)) q × IsClashOfBoth airport p q c
clash_to_near airport index without p c none is (q, listed, both) =
    let passed = filter_passed (is_of_other without) (all_slots index) q listed in
    let next = rule_neighbour airport p q c.minute c.rule none (rule_of_both airport p q c both) in
    let there = at_its_stand index (is (omega (arith, next.1))) q passed.0 in
    let here = passes_filter (is_of_other without) (slots_at (at_stand index q.stand)) q there passed.1 in
    (q, put_in (others_at index without) (neighbours_of airport p.stand) q q.stand next.0 next.1 (subst (λ (s : StandNo). Contains (others_at index without s) q) (sym next.2) here), both)

pub near_to_clash : (airport : AirportParts) (index : List StandSlots) (without : List VisitNo) (p : Slot) (c : Clash) → All (λ s. s.0 < length index) (neighbours_of airport p.stand)
    → (q : Slot) × Contains (flat_map (others_at index without) (neighbours_of airport p.stand)) q × IsClashOfBoth airport p q c
    → (q : Slot) × Contains (others_of index without) q × IsClashOfBoth airport p q c
near_to_clash airport index without p c inside (q, listed, both) =
    let stands = neighbours_of airport p.stand in
    let found = found_in (others_at index without) stands q p.stand listed in
    let s = get_or stands found.0 p.stand in
    let passed = filter_passed (is_of_other without) (slots_at (at_stand index s)) q found.2 in
    (q, passes_filter (is_of_other without) (all_slots index) q (of_index index s (inside found.0 p.stand found.1) q passed.0) passed.1, both)

-- the neighbours of a stand are stands of the index
pub neighbours_inside : (airport : AirportParts) (index : List StandSlots) (s : StandNo) (stands : List StandNo) → stands ≡ neighbours_of airport s → length index ≡ length airport.stands → All (λ s2. s2.0 < length index) stands
neighbours_inside airport index s stands is count =
    subst (λ (xs : List StandNo). All {X = StandNo} (λ s2. s2.0 < length index) xs) (sym is) (subst (λ (n : ℕ). All {X = StandNo} (λ s2. s2.0 < n) (neighbours_of airport s)) (sym count) (neighbours_within airport s))

-- what is sound stays so without some slots
pub clear_without : (airport : AirportParts) (index : List StandSlots) (without : List VisitNo) → IsClear airport index [] → IsClear airport index without
clear_without airport index without clear =
    let all : IsSound airport (all_slots index) = subst (IsSound airport) (others_none (all_slots index)) clear.sound in
    let kept : (q : Slot) → Contains (others_of index without) q → Contains (all_slots index) q = λ q h. (filter_passed (is_of_other without) (all_slots index) q h).0 in
    record { stands = clear.stands; slots = clear.slots; parts = clear.parts; sound = λ p q m rule in_p in_q is. all p q m rule (kept p in_p) (kept q in_q) is }
