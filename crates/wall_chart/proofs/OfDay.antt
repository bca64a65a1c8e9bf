-- What is held on a day, and that the cells of a stand are those of its slots in the index.
use Rattle.std.proofs.Common.{◌≡◌, ◌∙◌, ◌<◌, ◌≤◌, ◌+◌, ◌*◌, ◌++◌, ◌&&◌, ◌||◌, inl, inr, ℕ, zero, suc, min, max, nat_lt, Bool, true, false, not, List, [], ◌∷◌, refl, sym, ap, subst, arith, length, map}
use Rattle.std.specs.Prelude.{Contains, nat_le}
use Rattle.std.specs.List.{list_any, range_with_len}
use Rattle.std.proofs.lemmas.Bool.Decides.{nat_tests}
use Rattle.apron_base.specs.declared.numbers.StandNo.{StandNo}
use Rattle.apron_base.specs.declared.slot.Slot.{Slot}
use Rattle.apron_base.proofs.Sorting.{listed_cases, listed_first, listed_later}
use Rattle.apron_rules.specs.declared.parts.AirportParts.{AirportParts}
use Rattle.stand_index.specs.Slots.{IsIndex, StandSlots, at_stand, hits_of, is_hit}
use Rattle.clash_check.specs.Indexed.{slots_at}
use Rattle.clash_check.proofs.Looked.{at_its_stand, hit_listed, hit_of, of_index}
use Rattle.visit_book.specs.declared.visits.Visit.{Visit}
use Rattle.visit_book.specs.Slots.{slots_of}
use Rattle.plan_core.specs.Indexed.{IsIndexed}
use Rattle.plan_core.specs.PlanState.{is_on}
use Rattle.plan_lists.specs.Days.{day_length, day_start, minutes_from, minutes_of_day}
use Rattle.plan_lists.proofs.Minutes.{overlap}
use Rattle.wall_chart.specs.Cells.{cell, cells, cells_of_day, holds_by_plan, holds_in_fact, is_held_at_some, quarter_minutes, stand_line}
use Rattle.wall_chart.specs.Rows.{stand_text}

span_more : (from end m n start long : ℕ) → start ≤ m → m + n ≤ start + long → nat_lt (max from m) (min end (m + n)) ≡ true → nat_lt (max start from) (min (start + long) end) ≡ true
span_more from end m n start long low high e = grind (arith, nat_tests)

-- what is held in a quarter of an hour of the day is among the hits of the day
hit_in : (day quarter : ℕ) (slot : Slot) → quarter < cells_of_day → is_held_at_some (quarter_minutes day quarter) slot ≡ true → is_hit (day_start day) (day_start day + day_length) slot ≡ true
hit_in day quarter slot inside e =
    span_more slot.from slot.end (day_start day + 15 * quarter) 15 (day_start day) day_length (omega arith) (omega (arith, inside))
    (sym (overlap slot.from slot.end (day_start day + 15 * quarter) 15) ∙ e)

or_first : (a b : Bool) → a ≡ true → (a || b) ≡ true
or_first true b e = refl
or_first false b e = absurd (cc)

or_last : (a b : Bool) → b ≡ true → (a || b) ≡ true
or_last true b e = refl
or_last false b e = e

-- a test that an item of a list passes
any_listed : {X : Type 0} (q : X → Bool) (xs : List X) (y : X) → Contains xs y → q y ≡ true → list_any q xs ≡ true
any_listed q [] y h e = absurd (omega (arith, h.1))
any_listed {X} q (x ∷ xs) y h e = elim (listed_cases x xs y h) [
  | inl own ↦ or_first (q x) (list_any q xs) (subst (λ (z : X). q z ≡ true) (sym own) e)
  | inr later ↦ or_last (q x) (list_any q xs) (any_listed q xs y later e)
]

-- some item of the list passes the test
record Passes {X : Type 0} (q : X → Bool) (xs : List X) : Type 0 where
  item : X
  listed : Contains xs item
  passes : q item ≡ true

any_found : {X : Type 0} (q : X → Bool) (xs : List X) → list_any q xs ≡ true → Passes q xs
any_found q [] e = absurd (cc)
any_found {X} q (x ∷ xs) e = cases (any_found q xs) (q x) refl e
  where
    cases : (list_any q xs ≡ true → Passes q xs) → (b : Bool) → q x ≡ b → (b || list_any q xs) ≡ true → Passes q (x ∷ xs)
    cases rest true is h = record { item = x; listed = listed_first x xs; passes = is }
    cases rest false is h = let found = rest h in record { item = found.item; listed = listed_later x xs found.item found.listed; passes = found.passes }

any_to : {X : Type 0} (q : X → Bool) (xs ys : List X) → ((x : X) → q x ≡ true → Contains xs x → Contains ys x) → list_any q xs ≡ true → list_any q ys ≡ true
any_to q xs ys to e = let found = any_found q xs e in any_listed q ys found.item (to found.item found.passes found.listed) found.passes

both_ways : (a b : Bool) → (a ≡ true → b ≡ true) → (b ≡ true → a ≡ true) → a ≡ b
both_ways true b to from = sym (to refl)
both_ways false true to from = from refl
both_ways false false to from = refl

-- a test of some item has one result if the lists have the same items that pass it
any_same : {X : Type 0} (q : X → Bool) (xs ys : List X) → ((x : X) → q x ≡ true → Contains xs x → Contains ys x) → ((x : X) → q x ≡ true → Contains ys x → Contains xs x)
    → list_any q xs ≡ list_any q ys
any_same q xs ys to from = both_ways (list_any q xs) (list_any q ys) (any_to q xs ys to) (any_to q ys xs from)

all_three : (a b c : Bool) → (a && b && c) ≡ true → (a ≡ true) × (c ≡ true)
all_three true true true e = (refl, refl)
all_three true true false e = absurd (cc)
all_three true false c e = absurd (cc)
all_three false b c e = absurd (cc)

-- the slots of the second list that are held on the stand at some of the minutes are of the first
abbrev HasHeld : StandNo → List ℕ → List Slot → List Slot → Type 0
HasHeld stand minutes xs ys = (slot : Slot) → is_on stand slot ≡ true → is_held_at_some minutes slot ≡ true → Contains ys slot → Contains xs slot

in_fact : (stand : StandNo) (minutes : List ℕ) (xs ys : List Slot) → HasHeld stand minutes xs ys → (slot : Slot) → holds_in_fact stand minutes slot ≡ true → Contains ys slot → Contains xs slot
in_fact stand minutes xs ys has slot e h =
    let both = all_three (is_on stand slot) slot.actual (is_held_at_some minutes slot) e in
    has slot both.0 both.1 h

by_plan : (stand : StandNo) (minutes : List ℕ) (xs ys : List Slot) → HasHeld stand minutes xs ys → (slot : Slot) → holds_by_plan stand minutes slot ≡ true → Contains ys slot → Contains xs slot
by_plan stand minutes xs ys has slot e h =
    let both = all_three (is_on stand slot) (not slot.actual) (is_held_at_some minutes slot) e in
    has slot both.0 both.1 h

-- a cell shows only what is held on its stand at its minutes
cell_same : (stand : StandNo) (minutes : List ℕ) (xs ys : List Slot) → HasHeld stand minutes xs ys → HasHeld stand minutes ys xs → cell xs stand minutes ≡ cell ys stand minutes
cell_same stand minutes xs ys first second =
    let fact : list_any (holds_in_fact stand minutes) xs ≡ list_any (holds_in_fact stand minutes) ys =
    any_same (holds_in_fact stand minutes) xs ys (in_fact stand minutes ys xs second) (in_fact stand minutes xs ys first) in
    let plan : list_any (holds_by_plan stand minutes) xs ≡ list_any (holds_by_plan stand minutes) ys =
    any_same (holds_by_plan stand minutes) xs ys (by_plan stand minutes ys xs second) (by_plan stand minutes xs ys first) in
    rw (fact, plan) refl

map_alike : (f g : ℕ → ℕ) (a n : ℕ) → ((k : ℕ) → k < a + n → f k ≡ g k) → map f (range_with_len a n) ≡ map g (range_with_len a n)
map_alike f g a zero same = refl
map_alike f g a (suc n) same =
    ap (λ (y : ℕ). y ∷ map f (range_with_len (a + 1) n)) (same a (omega arith))
    ∙ ap (λ (ys : List ℕ). g a ∷ ys) (map_alike f g (a + 1) n (λ k below. same k (omega (arith, below))))

same_number : (stand : StandNo) (slot : Slot) → is_on stand slot ≡ true → slot.stand.0 ≡ stand.0
same_number stand slot e = grind (arith, nat_tests)

abbrev stand_of_number : ℕ → StandNo
stand_of_number n = record { 0 = n }

same_stand : (stand : StandNo) (slot : Slot) → is_on stand slot ≡ true → slot.stand ≡ stand
same_stand stand slot e = ap stand_of_number (same_number stand slot e)

-- the cells of a stand are those of its slots of the day
cells_of_hits : (airport : AirportParts) (index : List StandSlots) (visits : List Visit) (day : ℕ) (stand : StandNo) → IsIndex index → IsIndexed airport index visits → stand.0 < length index
    → cells (hits_of (at_stand index stand) (day_start day) (day_start day + day_length)) day stand ≡ cells (slots_of airport visits) day stand
cells_of_hits airport index visits day stand is indexed inside =
    let start = day_start day in
    let end = day_start day + day_length in
    let hits = hits_of (at_stand index stand) start end in
    let slots = slots_of airport visits in
    let there : (slot : Slot) → is_on stand slot ≡ true → Contains slots slot → Contains (slots_at (at_stand index stand)) slot =
    λ slot on listed. subst (λ (at : StandNo). Contains (slots_at (at_stand index at)) slot) (same_stand stand slot on) (at_its_stand index is slot ((indexed.slots slot).1 listed)) in
    map_alike (λ quarter. cell hits stand (quarter_minutes day quarter)) (λ quarter. cell slots stand (quarter_minutes day quarter)) 0 cells_of_day
    (λ quarter below. cell_same stand (quarter_minutes day quarter) hits slots
    (λ slot on held listed. hit_listed (at_stand index stand) start end slot (there slot on listed) (hit_in day quarter slot (omega (arith, below)) held))
    (λ slot on held listed. (indexed.slots slot).0 (of_index index stand inside slot (hit_of (at_stand index stand) start end slot listed))))

abbrev line_with : AirportParts → StandNo → List ℕ → List ℕ
line_with airport stand marks = ((stand_text airport stand ++ (32 ∷ [])) ++ marks) ++ (10 ∷ [])

-- and so is its line
pub line_of_hits : (airport : AirportParts) (index : List StandSlots) (visits : List Visit) (day : ℕ) (stand : StandNo) → IsIndex index → IsIndexed airport index visits → stand.0 < length index
    → stand_line airport (hits_of (at_stand index stand) (day_start day) (day_start day + day_length)) day stand ≡ stand_line airport (slots_of airport visits) day stand
line_of_hits airport index visits day stand is indexed inside = ap (line_with airport stand) (cells_of_hits airport index visits day stand is indexed inside)

-- the lines of one more stand
pub line_more : (airport a : AirportParts) (index listed : List StandSlots) (visits : List Visit) (day start : ℕ) (stand : StandNo) (slots hits : List Slot) (before after : List ℕ) → airport ≡ a
    → listed ≡ index → IsIndex listed → IsIndexed a index visits → stand.0 < length airport.stands → start ≡ day_start day → hits ≡ hits_of (at_stand listed stand) start (start + day_length)
    → slots ≡ hits → after ≡ before ++ stand_line airport slots day stand → after ≡ before ++ stand_line airport (slots_of airport visits) day stand
line_more airport a index listed visits day start stand slots hits before after same value is indexed inside begin are into then =
    let here : IsIndexed airport listed visits = subst (λ (xs : List StandSlots). IsIndexed airport xs visits) (sym value) (subst (λ (b : AirportParts). IsIndexed b index visits) (sym same) indexed) in
    let within : stand.0 < length listed = omega (arith, inside, here.stands) in
    then ∙ ap (λ (line : List ℕ). before ++ line)
    (ap (λ (xs : List Slot). stand_line airport xs day stand) (into ∙ (are ∙ ap (λ (m : ℕ). hits_of (at_stand listed stand) m (m + day_length)) begin))
    ∙ line_of_hits airport listed visits day stand is here within)
