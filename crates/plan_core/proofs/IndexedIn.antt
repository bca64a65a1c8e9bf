-- Slots of a plan that is sound can be put in one after the other.
use Rattle.std.proofs.Common.{◌≡◌, ◌≢◌, ◌∙◌, ◌<◌, ◌≤◌, ◌+◌, ◌==◌, ◌&&◌, inl, inr, ℕ, Bool, true, false, cond, List, [], ◌∷◌, ◌++◌, refl, sym, ap, subst, arith, None, Some, length, take, drop, get_or, max, append-nil, append_assoc, slice_index_or}
use Rattle.std.specs.Prelude.{All, AllPairs, Contains, count_by}
use Rattle.std.specs.List.Sorted.{IsPermutation}
use Rattle.std.proofs.lemmas.Bool.{cases_eq, cases_lt}
use Rattle.std.proofs.lemmas.Bool.Decides.{nat_tests}
use Rattle.std.proofs.lemmas.List.{get_or-take, get_or_default, take_more, length-take}
use Rattle.std.proofs.lemmas.List.Elements.{All-append, All-contains, All-contains_itself, All-more, All-weaker, Contains-append_cases, Contains-append_left, Contains-append_right, Contains-get_or}
use Rattle.std.proofs.lemmas.List.Sorted.{Contains-permutation, IsPermutation-refl, IsPermutation-sym, IsPermutation-push_more}
use Rattle.std.proofs.lemmas.List.Sums.{sum_by-cons, sum_by-drop_more}
use Rattle.apron_base.specs.Histories.{Rises}
use Rattle.apron_base.specs.declared.numbers.StandNo.{StandNo}
use Rattle.apron_base.specs.declared.slot.Slot.{Slot}
use Rattle.apron_base.proofs.Sorting.{listed_first, listed_later}
use Rattle.apron_rules.specs.declared.parts.AirportParts.{AirportParts}
use Rattle.apron_rules.specs.declared.rules.Rule.TheVariants.{Same}
use Rattle.apron_rules.specs.Clash.{IsSlotOf, IsSound, breaks_at, is_held, rule_at, wing_of}
use Rattle.apron_rules.specs.Rules.{breaks_with_wings}
use Rattle.apron_rules.proofs.ByPlace.{row_at}
use Rattle.apron_rules.proofs.Bordering.{filter_passed}
use Rattle.clash_check.specs.Clear.{is_of_other, others_of}
use Rattle.clash_check.specs.Indexed.{all_slots}
use Rattle.clash_check.proofs.Looked.{of_index}
use Rattle.stand_index.specs.Slots.{AddsSlot, HasMinutes, IsIndex, IsSlotAt, KeepsOrder, KeepsOtherStands, StandSlots, at_stand}
use Rattle.visit_book.specs.declared.visits.Visit.{Visit}
use Rattle.visit_book.specs.Numbers.{IsNumbered, visit_at}
use Rattle.visit_book.specs.Slots.{slots_of}
use Rattle.visit_book.specs.WellFormed.{IsWellFormed}
use Rattle.plan_core.specs.Indexed.{IsIndexed}
use Rattle.plan_core.specs.Indexing.{AreApart, CanHold, KeepsRoom, numbers_of}
use Rattle.plan_core.specs.PlanState.{is_on, visit_number}
use Rattle.plan_core.proofs.IndexedOrder.{IsOrdered, numbered_rises, slots_minutes, slots_ordered}
use Rattle.plan_core.proofs.IndexedStands.{added_index, added_slots}
use Rattle.plan_core.proofs.IndexedVisits.{IsMerged, found_itself, merged_slots, other_none, slot_number, slot_visit, sound_within}
use Rattle.plan_core.proofs.SlotLists.{slots_are}

ruled : (a : AirportParts) (p q : Slot) (m : ℕ) → IsSlotOf a p → p.kind.0 < length a.types → q.kind.0 < length a.types → p.stand ≡ q.stand → p.part.visit.0 ≢ q.part.visit.0
    → is_held p m ≡ true → is_held q m ≡ true → rule_at a p q m ≡ Some Same
ruled a p q m of_p kind_p kind_q same apart held held_too =
    let row = row_at a.stands p.stand.0 of_p.0 in
    let kind = row_at a.types p.kind.0 kind_p in
    let other = row_at a.types q.kind.0 kind_q in
    let one : (p.stand.0 == p.stand.0) ≡ true = grind (arith, nat_tests) in
    let rule : breaks_with_wings a p.stand p.kind (wing_of a p m) p.stand q.kind (wing_of a q m) ≡ Some Same = rw (row.1, kind.1, other.1, one) refl in
    let rule_too : breaks_at a p q m ≡ Some Same = subst (λ (s : StandNo). breaks_with_wings a p.stand p.kind (wing_of a p m) s q.kind (wing_of a q m) ≡ Some Same) same rule in
    let different : (p.part.visit.0 == q.part.visit.0) ≡ false = grind (arith, nat_tests) in
    rw (different, held, held_too) rule_too

-- slots of different visits on one stand, of which one is planned, have no minute in common
apart_visits : (a : AirportParts) (xs : List Slot) (p q : Slot) → IsSound a xs → All (IsSlotOf a) xs → All HasMinutes xs → Contains xs p → Contains xs q
    → p.part.visit.0 ≢ q.part.visit.0 → AreApart p q
apart_visits a xs p q sound are minutes in_p in_q differ same planned planned_too =
    let of_p : IsSlotOf a p = All-contains (IsSlotOf a) xs p are in_p in
    let of_q : IsSlotOf a q = All-contains (IsSlotOf a) xs q are in_q in
    let some_p : HasMinutes p = All-contains HasMinutes xs p minutes in_p in
    let some_q : HasMinutes q = All-contains HasMinutes xs q minutes in_q in
    elim (cases_lt (max p.from q.from) p.end) [
      | inl before ↦ elim (cases_lt (max p.from q.from) q.end) [
        | inl before_too ↦ (let m : ℕ = max p.from q.from in
            let held : is_held p m ≡ true = held_from p m (omega arith) before in
            let held_too : is_held q m ≡ true = held_from q m (omega arith) before_too in
            let actual : (p.actual && q.actual) ≡ true = sound p q m Same in_p in_q (ruled a p q m of_p of_p.1 of_q.1 same differ held held_too) in
            absurd (no p.actual q.actual planned actual))
        | inr after ↦ inr (omega (arith, some_p, some_q, after), omega (arith, some_p, some_q, after))
      ]
      | inr after ↦ inl (omega (arith, some_p, some_q, after), omega (arith, some_p, some_q, after))
    ]
  where
    held_from : (x : Slot) (m : ℕ) → x.from ≤ m → m < x.end → is_held x m ≡ true
    held_from x m low high = grind (arith, nat_tests)

    no : (b c : Bool) → b ≡ false → (b && c) ≡ true → ⊥
    no true c h k = cc
    no false c h k = cc

-- a slot of a changed visit and one of another visit have different numbers
other_number : (a : AirportParts) (changed : List Visit) (high : ℕ) (p q : Slot) → Rises visit_number 1 high changed → All (IsWellFormed a) changed → Contains (slots_of a changed) p
    → is_of_other (numbers_of changed) q ≡ true → p.part.visit.0 ≢ q.part.visit.0
other_number a changed high p q rise formed in_p other same =
    let found = slot_visit a changed p in_p in
    let number : p.part.visit ≡ found.0.number = slot_number a found.0 p (All-contains (IsWellFormed a) changed found.0 formed found.1) found.2 in
    let one : p.part.visit ≡ q.part.visit = ap (λ (n : ℕ). record { 0 = n }) same in
    let some : visit_at changed q.part.visit ≡ Some found.0 = ap (visit_at changed) (sym one ∙ number) ∙ found_itself 1 high changed found.0 rise found.1 in
    let none : visit_at changed q.part.visit ≡ None = other_none changed q other in
    cc

-- there is place for the slots of changed visits if the plan with them is sound, and there is room
pub can_index : (a : AirportParts) (index out : List StandSlots) (visits changed new : List Visit) (high : ℕ) → IsIndexed a index visits → IsMerged visits changed new
    → IsNumbered visits → All (IsWellFormed a) visits → All (IsWellFormed a) changed → Rises visit_number 1 high changed → IsSound a (slots_of a new)
    → all_slots out ≡ others_of index (numbers_of changed) → length out ≡ length index
    → ((stand : StandNo) → count_by (is_on stand) (slots_of a changed) ≤ (at_stand out stand).spare) → CanHold out (slots_of a changed)
can_index a index out visits changed new high indexed merged numbered formed changed_formed rise sound left long room =
    record {
      stands = λ k d inside. omega (arith, long, indexed.stands, (are_changed k d inside).0);
      minutes = minutes_changed;
      room = room;
      among = λ i j d less inside. in_order (get_or (slots_of a changed) i d) (get_or (slots_of a changed) j d) (in_changed i d (omega (arith, less, inside))) (in_changed j d inside) (slots_ordered a 1 high changed rise changed_formed i j d less inside);
      others = λ k d inside i e within.
          let p : Slot = get_or (slots_of a changed) k d in
          let q : Slot = get_or (all_slots out) i e in
          let other : Contains others q = subst (λ (xs : List Slot). Contains xs q) left (All-contains_itself (all_slots out) i e within) in
          let passed = filter_passed (is_of_other (numbers_of changed)) (all_slots index) q other in
          apart_visits a all p q all_sound all_are all_minutes (Contains-append_right others (slots_of a changed) p (in_changed k d inside))
          (Contains-append_left others (slots_of a changed) q other)
          (other_number a changed high p q rise changed_formed (in_changed k d inside) passed.1);
    }
  where
    others : List Slot
    others = others_of index (numbers_of changed)

    all : List Slot
    all = others ++ slots_of a changed

    in_changed : (k : ℕ) (d : Slot) → k < length (slots_of a changed) → Contains (slots_of a changed) (get_or (slots_of a changed) k d)
    in_changed k d inside = Contains-get_or (slots_of a changed) k d inside

    are_changed : All (IsSlotOf a) (slots_of a changed)
    are_changed = slots_are a changed changed_formed

    minutes_changed : All HasMinutes (slots_of a changed)
    minutes_changed = slots_minutes a 1 high changed rise changed_formed

    in_all : (P : Slot → Type 0) → All P (slots_of a visits) → All P (slots_of a changed) → All P all
    in_all P old now = All-append P others (slots_of a changed)
        (λ k d inside.
        let x : Slot = get_or others k d in
        All-contains P (slots_of a visits) x old
        ((indexed.slots x).0 (filter_passed (is_of_other (numbers_of changed)) (all_slots index) x (Contains-get_or others k d inside)).0)) now

    all_are : All (IsSlotOf a) all
    all_are = in_all (IsSlotOf a) (slots_are a visits formed) are_changed

    all_minutes : All HasMinutes all
    all_minutes = in_all HasMinutes
        (slots_minutes a 1 (length visits + 1) visits (numbered_rises 0 (length visits + 1) visits (omega arith) numbered) formed) minutes_changed

    all_sound : IsSound a all
    all_sound = sound_within a (slots_of a new) all (λ x h. (merged_slots a index visits changed new indexed merged formed x).0 h) sound

    in_order : (p q : Slot) → Contains (slots_of a changed) p → Contains (slots_of a changed) q → IsOrdered p q → AreApart p q
    in_order p q in_p in_q (inl less) = apart_visits a all p q all_sound all_are all_minutes (Contains-append_right others (slots_of a changed) p in_p)
        (Contains-append_right others (slots_of a changed) q in_q) (λ e. omega (arith, less, e))
    in_order p q in_p in_q (inr (same, less, earlier)) = λ one planned planned_too. inl (earlier one)

apart_flip : (p q : Slot) → AreApart p q → AreApart q p
apart_flip p q h = λ same planned planned_too. elim (h (sym same) planned_too planned) [ inl before ↦ inr before | inr after ↦ inl after ]

-- the next slot is apart from those that were put in before it, and from those that were there
apart_now : (out now : List StandSlots) (slots : List Slot) (i : ℕ) (x : Slot) → i < length slots → x ≡ get_or slots i x
    → IsPermutation (all_slots out ++ take i slots) (all_slots now) → AllPairs AreApart slots → All (λ slot. All (AreApart slot) (all_slots out)) slots
    → (y : Slot) → Contains (all_slots now) y → AreApart x y
apart_now out now slots i x inside is permuted among others y h =
    elim (Contains-append_cases (all_slots out) (take i slots) y
    (Contains-permutation (all_slots now) (all_slots out ++ take i slots) y (IsPermutation-sym (all_slots out ++ take i slots) (all_slots now) permuted) h)) [
      | inl there ↦ All-contains (AreApart x) (all_slots out) y (subst (λ (z : Slot). All (AreApart z) (all_slots out)) (sym is) (others i x inside)) there
      | inr before ↦ (let k : ℕ = before.0 in
          let below : k < i = omega (arith, before.1, length-take i slots) in
          let at : get_or slots k y ≡ y = sym (get_or-take i slots k y below) ∙ before.2 in
          let read : get_or slots i y ≡ x = get_or_default slots i y x inside ∙ sym is in
          apart_flip y x (subst (λ (z : Slot). AreApart y z) read (subst (λ (z : Slot). AreApart z (get_or slots i y)) at (among k i y below inside))))
    ]

-- the first slots are in, and there is room for the others
pub record IsPutSoFar (out : List StandSlots) (slots : List Slot) (count : ℕ) (now : List StandSlots) : Type 0 where
  pub put : IsPermutation (all_slots out ++ take count slots) (all_slots now)
  pub index : IsIndex now
  pub stands : length now ≡ length out
  pub room : (stand : StandNo) → count_by (is_on stand) (drop count slots) ≤ (at_stand now stand).spare

pub none_put : (out : List StandSlots) (slots : List Slot) → IsIndex out → CanHold out slots → IsPutSoFar out slots 0 out
none_put out slots is place = record {
  put = subst (λ (xs : List Slot). IsPermutation xs (all_slots out)) (sym (append-nil (all_slots out))) (IsPermutation-refl (all_slots out));
  index = is;
  stands = refl;
  room = place.room;
}

is_read : (slots : List Slot) (i : ℕ) (d : Slot) → i < length slots → get_or slots i d ≡ get_or slots i (get_or slots i d)
is_read slots i d inside = get_or_default slots i d (get_or slots i d) inside

-- the next one keeps the order of its stand
pub keeps_order : (out now : List StandSlots) (slots : List Slot) (i : ℕ) (d : Slot) → i < length slots → CanHold out slots → IsPutSoFar out slots i now
    → KeepsOrder (slice_index_or slots i d) (at_stand now (slice_index_or slots i d).stand)
keeps_order out now slots i d inside place so_far = λ planned k e below.
    let x : Slot = slice_index_or slots i d in
    let at : StandSlots = at_stand now x.stand in
    let y : Slot = get_or at.planned k e in
    let own : IsSlotAt x.stand false y = (so_far.index x.stand).planned k e below in
    let within : x.stand.0 < length now = omega (arith, so_far.stands, place.stands i d inside) in
    let listed : Contains (all_slots now) y = of_index now x.stand within y (Contains-append_left at.planned at.actual y (Contains-get_or at.planned k e below)) in
    elim (apart_now out now slots i x inside (is_read slots i d inside) so_far.put place.among place.others y listed (sym own.stand) planned own.kind) [
      | inl before ↦ inr before
      | inr after ↦ inl after
    ]

put_more : (out now after : List StandSlots) (slots : List Slot) (i : ℕ) (d : Slot) → i < length slots
    → IsPermutation (all_slots out ++ take i slots) (all_slots now) → IsPermutation (slice_index_or slots i d ∷ all_slots now) (all_slots after)
    → IsPermutation (all_slots out ++ take (i + 1) slots) (all_slots after)
put_more out now after slots i d inside before put =
    let x : Slot = slice_index_or slots i d in
    let whole : (all_slots out ++ take i slots) ++ x ∷ [] ≡ all_slots out ++ take (i + 1) slots =
    append_assoc (all_slots out) (take i slots) (x ∷ []) ∙ ap (λ (xs : List Slot). all_slots out ++ xs) (sym (take_more slots i d inside)) in
    subst (λ (xs : List Slot). IsPermutation xs (all_slots after)) whole (IsPermutation-push_more (all_slots out ++ take i slots) (all_slots now) (all_slots after) x before put)

on_own : (x : Slot) → is_on x.stand x ≡ true
on_own x = grind (arith, nat_tests)

count_next : (stand : StandNo) (slots : List Slot) (i : ℕ) (d : Slot) → i < length slots
    → count_by (is_on stand) (drop i slots) ≡ cond (is_on stand (slice_index_or slots i d)) 1 0 + count_by (is_on stand) (drop (i + 1) slots)
count_next stand slots i d inside = sum_by-drop_more (λ y. cond (is_on stand y) 1 0) slots i d inside

-- there is room for it
pub room_here : (out now : List StandSlots) (slots : List Slot) (i : ℕ) (d : Slot) → i < length slots → IsPutSoFar out slots i now
    → 1 ≤ (at_stand now (slice_index_or slots i d).stand).spare
room_here out now slots i d inside so_far =
    let x : Slot = slice_index_or slots i d in
    omega (arith, so_far.room x.stand, count_next x.stand slots i d inside, ap {B = ℕ} (λ b. cond b 1 0) (on_own x))

room_next : (now after : List StandSlots) (slots : List Slot) (i : ℕ) (d : Slot) → i < length slots
    → ((stand : StandNo) → count_by (is_on stand) (drop i slots) ≤ (at_stand now stand).spare)
    → (at_stand now (slice_index_or slots i d).stand).spare ≤ (at_stand after (slice_index_or slots i d).stand).spare + 1
    → KeepsOtherStands now after (slice_index_or slots i d).stand
    → (stand : StandNo) → count_by (is_on stand) (drop (i + 1) slots) ≤ (at_stand after stand).spare
room_next now after slots i d inside room spare others stand =
    let x : Slot = slice_index_or slots i d in
    elim (cases_eq stand.0 x.stand.0) [
      | inl e ↦ (let same : x.stand ≡ stand = ap (λ (n : ℕ). record { 0 = n }) (sym e) in
          let P : StandNo → Type 0 = λ s. count_by (is_on s) (drop (i + 1) slots) ≤ (at_stand after s).spare in
          subst P same (omega (arith, room x.stand, count_next x.stand slots i d inside, ap {B = ℕ} (λ b. cond b 1 0) (on_own x), spare)))
      | inr apart ↦ omega (arith, room stand, count_next stand slots i d inside, ap (λ (at : StandSlots). at.spare) (others.others stand apart))
    ]

-- once it is put in, this many more are
pub put_next : (out now after : List StandSlots) (slots : List Slot) (i : ℕ) (d : Slot) → i < length slots → CanHold out slots → IsPutSoFar out slots i now
    → AddsSlot (at_stand now (slice_index_or slots i d).stand) (at_stand after (slice_index_or slots i d).stand) (slice_index_or slots i d)
    → KeepsOtherStands now after (slice_index_or slots i d).stand → IsPutSoFar out slots (i + 1) after
put_next out now after slots i d inside place so_far adds others =
    let x : Slot = slice_index_or slots i d in
    let within : x.stand.0 < length now = omega (arith, so_far.stands, place.stands i d inside) in
    record {
      put = put_more out now after slots i d inside so_far.put (added_slots x now after within adds others);
      index = added_index x now after so_far.index (place.minutes i d inside) (keeps_order out now slots i d inside place so_far) adds others;
      stands = others.stands ∙ so_far.stands;
      room = room_next now after slots i d inside so_far.room adds.spare others;
    }

counted : (p : Slot → Bool) (xs : List Slot) → 1 ≤ count_by p xs → (x : Slot) × Contains xs x × (p x ≡ true)
counted p [] some = absurd (omega (arith, some))
counted p (x ∷ xs) some = by (p x) refl (counted p xs)
  where
    by : (b : Bool) → p x ≡ b → (1 ≤ count_by p xs → (y : Slot) × Contains xs y × (p y ≡ true)) → (y : Slot) × Contains (x ∷ xs) y × (p y ≡ true)
    by true e rest = (x, listed_first x xs, e)
    by false e rest =
        let found = rest (omega (arith, some, sum_by-cons (λ y. cond (p y) 1 0) x xs, ap {B = ℕ} (λ b. cond b 1 0) e)) in
        (found.0, listed_later x xs found.0 found.1, found.2)

-- room on the stand of each slot is room on each stand
pub room_everywhere : (index : List StandSlots) (slots : List Slot) → All (λ slot. count_by (is_on slot.stand) slots ≤ (at_stand index slot.stand).spare) slots
    → (stand : StandNo) → count_by (is_on stand) slots ≤ (at_stand index stand).spare
room_everywhere index slots each stand =
    elim (cases_lt 0 (count_by (is_on stand) slots)) [
      | inl some ↦ (let found = counted (is_on stand) slots (omega (arith, some)) in
          let same : found.0.stand ≡ stand = ap (λ (n : ℕ). record { 0 = n }) (grind (arith, nat_tests, found.2)) in
          let P : StandNo → Type 0 = λ s. count_by (is_on s) slots ≤ (at_stand index s).spare in
          subst P same (All-contains (λ slot. count_by (is_on slot.stand) slots ≤ (at_stand index slot.stand).spare) slots found.0 each found.1))
      | inr none ↦ omega (arith, none)
    ]

-- room for one more slot's stand
pub each_roomy : (now after : List StandSlots) (slots : List Slot) (i : ℕ) (d : Slot) → i < length slots → KeepsRoom now after
    → All (λ slot. count_by (is_on slot.stand) slots ≤ (at_stand now slot.stand).spare) (take i slots)
    → count_by (is_on (slice_index_or slots i d).stand) slots ≤ (at_stand after (slice_index_or slots i d).stand).spare
    → All (λ slot. count_by (is_on slot.stand) slots ≤ (at_stand after slot.stand).spare) (take (i + 1) slots)
each_roomy now after slots i d inside kept each here =
    let Before : Slot → Type 0 = λ slot. count_by (is_on slot.stand) slots ≤ (at_stand now slot.stand).spare in
    let After : Slot → Type 0 = λ slot. count_by (is_on slot.stand) slots ≤ (at_stand after slot.stand).spare in
    All-more After slots i d inside (All-weaker Before After (λ slot h. omega (arith, h, kept.spare slot.stand)) (take i slots) each) here
