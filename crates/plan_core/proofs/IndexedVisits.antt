-- The slots of visits of which some are changed.
use Rattle.std.proofs.Common.{◌≡◌, ◌≢◌, ◌∙◌, ◌<◌, ◌≤◌, ◌+◌, ◌-◌, ◌||◌, ◌⊎◌, inl, inr, ℕ, zero, suc, Bool, true, false, cond, not, List, [], ◌∷◌, ◌++◌, refl, sym, ap, subst, arith, Option, None, Some, length, map, get_or, length-set, get_or-set_same, get_or-set_other, slice_index_or}
use Rattle.std.specs.Prelude.{All, Contains, ◌↔◌, is_some, slice_set}
use Rattle.std.specs.Option.{unwrap_or}
use Rattle.std.proofs.lemmas.Bool.{cases_eq}
use Rattle.std.proofs.lemmas.Bool.Decides.{nat_tests}
use Rattle.std.proofs.lemmas.List.Elements.{All-contains, Contains-append_cases, Contains-append_left, Contains-append_right, Contains-push, Contains-push_cases}
use Rattle.apron_base.specs.Histories.{Rises}
use Rattle.apron_base.specs.declared.numbers.VisitNo.{VisitNo}
use Rattle.apron_base.specs.declared.slot.Slot.{Slot}
use Rattle.apron_base.proofs.Sorting.{listed_cases, listed_first, listed_later}
use Rattle.apron_rules.specs.declared.parts.AirportParts.{AirportParts}
use Rattle.apron_rules.specs.declared.rules.Clash.{Clash}
use Rattle.apron_rules.specs.Clash.{IsClashAmong, IsFirstClash, IsSound}
use Rattle.apron_rules.proofs.Bordering.{filter_passed, passes_filter}
use Rattle.apron_rules.proofs.Least.{least_same}
use Rattle.clash_check.specs.Clear.{is_of_any, is_of_other, others_of}
use Rattle.clash_check.specs.Indexed.{all_slots}
use Rattle.stand_index.specs.Slots.{StandSlots}
use Rattle.visit_book.specs.declared.visits.Visit.{Visit}
use Rattle.visit_book.specs.Numbers.{IsNumbered, IsNumberedAbove, has_number, visit_at}
use Rattle.visit_book.specs.Slots.{slots_of, slots_of_visit}
use Rattle.visit_book.specs.WellFormed.{IsWellFormed}
use Rattle.visit_book.proofs.ByPlace.{visit_at-within}
use Rattle.plan_core.specs.Indexed.{IsIndexed}
use Rattle.plan_core.specs.Indexing.{numbers_of}
use Rattle.plan_core.specs.PlanState.{put_in, put_one, visit_number}
use Rattle.plan_core.specs.Visits.{IsThereOrNext}
use Rattle.plan_core.specs.Working.{newest, replace_visits}
use Rattle.plan_core.proofs.ByNumber.{found_number, number_is}
use Rattle.plan_core.proofs.IndexedOrder.{IsSlotFrom, slots_from_start}
use Rattle.plan_core.proofs.Puts.{CanPut, by_case, first_number, put_next}

-- the visits of a plan after a change: the changed ones, and those of the others that were there
-- before
pub record IsMerged (old changed new : List Visit) : Type 0 where
  pub has : (v : Visit) → Contains changed v → Contains new v
  pub kept : (v : Visit) → Contains old v → visit_at changed v.number ≡ None → Contains new v
  pub from : (v : Visit) → Contains new v → Contains changed v ⊎ (Contains old v × (visit_at changed v.number ≡ None))

-- a slot is of one of the visits
pub slot_visit : (a : AirportParts) (visits : List Visit) (x : Slot) → Contains (slots_of a visits) x → (v : Visit) × Contains visits v × Contains (slots_of_visit a v) x
slot_visit a [] x h = absurd (omega (arith, h.1))
slot_visit a (v ∷ visits) x h = elim (Contains-append_cases (slots_of_visit a v) (slots_of a visits) x h) [
  | inl here ↦ (v, listed_first v visits, here)
  | inr later ↦ (let found = slot_visit a visits x later in (found.0, listed_later v visits found.0 found.1, found.2))
]

visit_slot : (a : AirportParts) (visits : List Visit) (v : Visit) (x : Slot) → Contains visits v → Contains (slots_of_visit a v) x → Contains (slots_of a visits) x
visit_slot a [] v x listed h = absurd (omega (arith, listed.1))
visit_slot a (w ∷ visits) v x listed h = elim (listed_cases w visits v listed) [
  | inl same ↦ Contains-append_left (slots_of_visit a w) (slots_of a visits) x (subst (λ (u : Visit). Contains (slots_of_visit a u) x) (sym same) h)
  | inr later ↦ Contains-append_right (slots_of_visit a w) (slots_of a visits) x (visit_slot a visits v x later h)
]

pub slot_number : (a : AirportParts) (v : Visit) (x : Slot) → IsWellFormed a v → Contains (slots_of_visit a v) x → x.part.visit ≡ v.number
slot_number a v x formed h = (All-contains (IsSlotFrom a v.number 1 0) (slots_of_visit a v) x (slots_from_start a v a.tow 1 0 v.parts formed.spaced) h).visit_is

any_by : (c : Visit) (found : Option Visit) (here any : Bool) → any ≡ is_some found → (here || any) ≡ is_some (cond here (Some c) found)
any_by c found true any rest = refl
any_by c found false any rest = rest

-- the slot is of one of the changed visits if these have one of its number
any_is : (changed : List Visit) (x : Slot) → is_of_any (numbers_of changed) x ≡ is_some (visit_at changed x.part.visit)
any_is [] x = refl
any_is (c ∷ changed) x = any_by c (visit_at changed x.part.visit) (has_number x.part.visit c) (is_of_any (numbers_of changed) x) (any_is changed x)

none_from : (found : Option Visit) → not (is_some found) ≡ true → found ≡ None
none_from None h = refl
none_from (Some v) h = absurd (cc)

pub other_none : (changed : List Visit) (x : Slot) → is_of_other (numbers_of changed) x ≡ true → visit_at changed x.part.visit ≡ None
other_none changed x h = none_from (visit_at changed x.part.visit) (ap (λ b. not b) (sym (any_is changed x)) ∙ h)

pub none_other : (changed : List Visit) (x : Slot) → visit_at changed x.part.visit ≡ None → is_of_other (numbers_of changed) x ≡ true
none_other changed x h = ap (λ b. not b) (any_is changed x) ∙ ap (λ (found : Option Visit). not (is_some found)) h

-- the slots after a change are those of the changed visits, and the earlier ones of other visits
merged_from : (a : AirportParts) (old changed new : List Visit) (x : Slot) → IsMerged old changed new → All (IsWellFormed a) old → Contains (slots_of a new) x
    → (Contains (slots_of a old) x × (is_of_other (numbers_of changed) x ≡ true)) ⊎ Contains (slots_of a changed) x
merged_from a old changed new x merged formed h =
    let found = slot_visit a new x h in
    elim (merged.from found.0 found.1) [
      | inl now ↦ inr (visit_slot a changed found.0 x now found.2)
      | inr before ↦ (let number : x.part.visit ≡ found.0.number = slot_number a found.0 x (All-contains (IsWellFormed a) old found.0 formed before.0) found.2 in
          inl (visit_slot a old found.0 x before.0 found.2, none_other changed x (ap (visit_at changed) number ∙ before.1)))
    ]

merged_old : (a : AirportParts) (old changed new : List Visit) (x : Slot) → IsMerged old changed new → All (IsWellFormed a) old → Contains (slots_of a old) x
    → is_of_other (numbers_of changed) x ≡ true → Contains (slots_of a new) x
merged_old a old changed new x merged formed h other =
    let found = slot_visit a old x h in
    let number : x.part.visit ≡ found.0.number = slot_number a found.0 x (All-contains (IsWellFormed a) old found.0 formed found.1) found.2 in
    visit_slot a new found.0 x (merged.kept found.0 found.1 (ap (visit_at changed) (sym number) ∙ other_none changed x other)) found.2

merged_changed : (a : AirportParts) (old changed new : List Visit) (x : Slot) → IsMerged old changed new → Contains (slots_of a changed) x → Contains (slots_of a new) x
merged_changed a old changed new x merged h =
    let found = slot_visit a changed x h in
    visit_slot a new found.0 x (merged.has found.0 found.1) found.2

-- the slots of an index without those of the changed visits, together with the new slots of these,
-- are the slots after the change
pub merged_slots : (a : AirportParts) (index : List StandSlots) (old changed new : List Visit) → IsIndexed a index old → IsMerged old changed new → All (IsWellFormed a) old
    → (x : Slot) → Contains (others_of index (numbers_of changed) ++ slots_of a changed) x ↔ Contains (slots_of a new) x
merged_slots a index old changed new indexed merged formed x =
    let other : Slot → Bool = is_of_other (numbers_of changed) in
    let others : List Slot = others_of index (numbers_of changed) in (
      λ h. elim (Contains-append_cases others (slots_of a changed) x h) [
        | inl before ↦ (let passed = filter_passed other (all_slots index) x before in merged_old a old changed new x merged formed ((indexed.slots x).0 passed.0) passed.1)
        | inr now ↦ merged_changed a old changed new x merged now
      ],
      λ h. elim (merged_from a old changed new x merged formed h) [
        | inl before ↦ Contains-append_left others (slots_of a changed) x (passes_filter other (all_slots index) x ((indexed.slots x).1 before.0) before.1)
        | inr now ↦ Contains-append_right others (slots_of a changed) x now
      ],
    )

-- a first clash depends only on which slots are in a list, not on their order
pub first_same : (a : AirportParts) (xs ys : List Slot) (found : Option Clash) → ((x : Slot) → Contains xs x ↔ Contains ys x) → IsFirstClash a xs found → IsFirstClash a ys found
first_same a xs ys found same h =
    least_same (IsClashAmong a xs) (IsClashAmong a ys) found (along xs ys (λ x. (same x).0)) (along ys xs (λ x. (same x).1)) h
  where
    along : (us vs : List Slot) → ((x : Slot) → Contains us x → Contains vs x) → (c : Clash) → IsClashAmong a us c → IsClashAmong a vs c
    along us vs to c (p, in_p, (q, in_q, clash)) = (p, to p in_p, (q, to q in_q, clash))

-- and so is soundness
pub sound_within : (a : AirportParts) (xs ys : List Slot) → ((x : Slot) → Contains ys x → Contains xs x) → IsSound a xs → IsSound a ys
sound_within a xs ys within sound p q m rule in_p in_q is = sound p q m rule (within p in_p) (within q in_q) is

rises_low : (low high : ℕ) (visits : List Visit) (v : Visit) → Rises visit_number low high visits → Contains visits v → (low ≤ v.number.0) × (v.number.0 < high)
rises_low low high [] v rise h = absurd (omega (arith, h.1))
rises_low low high (w ∷ visits) v rise h = elim (listed_cases w visits v h) [
  | inl same ↦ (omega (arith, rise.0, ap (λ (u : Visit). u.number.0) same), omega (arith, most (w.number.0 + 1) visits rise.1, ap (λ (u : Visit). u.number.0) same))
  | inr later ↦ (let rest = rises_low (w.number.0 + 1) high visits v rise.1 later in (omega (arith, rise.0, rest.0), rest.1))
]
  where
    most : (from : ℕ) (visits : List Visit) → Rises visit_number from high visits → from ≤ high
    most from [] rise = rise
    most from (w ∷ visits) rise = omega (arith, rise.0, most (w.number.0 + 1) visits rise.1)

none_low : (low high : ℕ) (visits : List Visit) (n : VisitNo) → Rises visit_number low high visits → n.0 < low → visit_at visits n ≡ None
none_low low high [] n rise below = refl
none_low low high (w ∷ visits) n rise below =
    let other : has_number n w ≡ false = grind (arith, nat_tests, rise.0) in
    ap (λ b. cond b (Some w) (visit_at visits n)) other ∙ none_low (w.number.0 + 1) high visits n rise.1 (omega (arith, rise.0))

-- a visit is found by its number
pub found_itself : (low high : ℕ) (visits : List Visit) (v : Visit) → Rises visit_number low high visits → Contains visits v → visit_at visits v.number ≡ Some v
found_itself low high [] v rise h = absurd (omega (arith, h.1))
found_itself low high (w ∷ visits) v rise h = elim (listed_cases w visits v h) [
  | inl same ↦ (let here : has_number v.number w ≡ true = grind (arith, nat_tests, ap (λ (u : Visit). u.number.0) same) in
      ap (λ b. cond b (Some w) (visit_at visits v.number)) here ∙ ap (λ (u : Visit). Some u) same)
  | inr later ↦ (let other : has_number v.number w ≡ false = grind (arith, nat_tests, (rises_low (w.number.0 + 1) high visits v rise.1 later).0) in
      ap (λ b. cond b (Some w) (visit_at visits v.number)) other ∙ found_itself (w.number.0 + 1) high visits v rise.1 later)
]

-- what is found is one of the visits
pub found_listed : (visits : List Visit) (n : VisitNo) (v : Visit) → visit_at visits n ≡ Some v → Contains visits v
found_listed [] n v h = absurd (cc)
found_listed (w ∷ visits) n v h = by (has_number n w) h (found_listed visits n v)
  where
    by : (b : Bool) → cond b (Some w) (visit_at visits n) ≡ Some v → (visit_at visits n ≡ Some v → Contains visits v) → Contains (w ∷ visits) v
    by true e rest = let same : w ≡ v = cc in subst (Contains (w ∷ visits)) same (listed_first w visits)
    by false e rest = listed_later w visits v (rest e)

mapped : (f : Visit → Visit) (visits : List Visit) (v : Visit) → Contains visits v → Contains (map f visits) (f v)
mapped f [] v h = absurd (omega (arith, h.1))
mapped f (w ∷ visits) v h = elim (listed_cases w visits v h) [
  | inl same ↦ subst (λ (u : Visit). Contains (f w ∷ map f visits) (f u)) same (listed_first (f w) (map f visits))
  | inr later ↦ listed_later (f w) (map f visits) (f v) (mapped f visits v later)
]

mapped_from : (f : Visit → Visit) (visits : List Visit) (y : Visit) → Contains (map f visits) y → (v : Visit) × Contains visits v × (f v ≡ y)
mapped_from f [] y h = absurd (omega (arith, h.1))
mapped_from f (w ∷ visits) y h = elim (listed_cases (f w) (map f visits) y h) [
  | inl same ↦ (w, listed_first w visits, same)
  | inr later ↦ (let found = mapped_from f visits y later in (found.0, listed_later w visits found.0 found.1, found.2))
]

-- the visits of a plan, with changed ones in the places of their numbers
pub merged_replaced : (visits changed : List Visit) → IsNumbered visits → Rises visit_number 1 (length visits + 1) changed → IsMerged visits changed (replace_visits visits changed)
merged_replaced visits changed numbered rise = record {
  has = λ c h.
      let within = rises_low 1 (length visits + 1) changed c rise h in
      let old : Visit = slice_index_or visits (c.number.0 - 1) c in
      let at : visit_at visits c.number ≡ Some old = visit_at-within visits c.number c numbered within.0 (omega (arith, within.1)) in
      let number : old.number ≡ c.number = number_is old.number c.number (found_number visits c.number old at) in
      let new : newest changed old ≡ c =
      ap (λ (found : Option Visit). unwrap_or found old) (ap (visit_at changed) number ∙ found_itself 1 (length visits + 1) changed c rise h) in
      subst (Contains (replace_visits visits changed)) new (mapped (newest changed) visits old (found_listed visits c.number old at));
  kept = λ v h none.
      subst (Contains (replace_visits visits changed)) (ap (λ (found : Option Visit). unwrap_or found v) none) (mapped (newest changed) visits v h);
  from = λ y h.
      let found = mapped_from (newest changed) visits y h in
      one found.0 y (visit_at changed found.0.number) refl found.1 found.2;
}
  where
    one : (v y : Visit) (found : Option Visit) → visit_at changed v.number ≡ found → Contains visits v → newest changed v ≡ y
        → Contains changed y ⊎ (Contains visits y × (visit_at changed y.number ≡ None))
    one v y None at listed new =
        let same : v ≡ y = sym (ap (λ (found : Option Visit). unwrap_or found v) at) ∙ new in
        inr (subst (Contains visits) same listed, subst (λ (u : Visit). visit_at changed u.number ≡ None) same at)
    one v y (Some c) at listed new =
        let same : c ≡ y = sym (ap (λ (found : Option Visit). unwrap_or found v) at) ∙ new in
        inl (subst (Contains changed) same (found_listed changed v.number c at))

-- a visit that is put in is one of the visits afterwards, and so are all of other numbers
record IsPutIn (visits : List Visit) (v : Visit) (after : List Visit) : Type 0 where
  has : Contains after v
  kept : (w : Visit) → Contains visits w → w.number.0 ≢ v.number.0 → Contains after w
  from : (w : Visit) → Contains after w → (v ≡ w) ⊎ (Contains visits w × (w.number.0 ≢ v.number.0))

number_at : (n k : ℕ) (visits : List Visit) (w : Visit) → IsNumberedAbove n visits → k < length visits → get_or visits k w ≡ w → w.number.0 ≡ n + k + 1
number_at n k [] w h inside at = absurd (omega (arith, inside))
number_at n zero (v ∷ visits) w h inside at = omega (arith, h.0, ap (λ (u : Visit). u.number.0) at)
number_at n (suc k) (v ∷ visits) w h inside at = omega (arith, number_at (n + 1) k visits w h.1 (omega (arith, inside)) at)

put_there : (visits : List Visit) (v : Visit) → IsNumbered visits → 1 ≤ v.number.0 → v.number.0 ≤ length visits → IsPutIn visits v (slice_set visits (v.number.0 - 1) v)
put_there visits v numbered some within =
    let i : ℕ = v.number.0 - 1 in
    let long = length-set visits i v in
    record {
      has = (i, omega (arith, long), get_or-set_same visits i v v (omega arith));
      kept = λ w (k, inside, at) apart.
          let number : w.number.0 ≡ 0 + k + 1 = number_at 0 k visits w numbered inside at in
          (k, omega (arith, long, inside), get_or-set_other visits i k v w (λ e. apart (omega (arith, e, number))) ∙ at);
      from = λ w (k, inside, at). elim (cases_eq k i) [
        | inl e ↦ inl (sym (get_or-set_same visits i v w (omega arith)) ∙ (ap (λ (j : ℕ). get_or (slice_set visits i v) j w) (sym e) ∙ at))
        | inr other ↦ (let old : get_or visits k w ≡ w = sym (get_or-set_other visits i k v w other) ∙ at in
            let number : w.number.0 ≡ 0 + k + 1 = number_at 0 k visits w numbered (omega (arith, long, inside)) old in
            inr ((k, omega (arith, long, inside), old), λ e. other (omega (arith, e, number))))
      ];
    }

put_last : (visits : List Visit) (v : Visit) → IsNumbered visits → v.number.0 ≡ length visits + 1 → IsPutIn visits v (visits ++ v ∷ [])
put_last visits v numbered next = record {
  has = Contains-push visits v;
  kept = λ w h apart. Contains-append_left visits (v ∷ []) w h;
  from = λ w h. elim (Contains-push_cases visits v w h) [
    | inl old ↦ inr (old, λ e. omega (arith, e, next, number_at 0 old.0 visits w numbered old.1 old.2, old.1))
    | inr same ↦ inl same
  ];
}

put_one_in : (visits : List Visit) (v : Visit) → IsThereOrNext (length visits) v → IsNumbered visits → IsPutIn visits v (put_one visits v)
put_one_in visits v here numbered =
    by_case (IsPutIn visits v) visits v here (λ within. put_there visits v numbered here.0 within) (λ past. put_last visits v numbered past)

none_both : (c : Visit) (b : Bool) (rest : Option Visit) → cond b (Some c) rest ≡ None → (b ≡ false) × (rest ≡ None)
none_both c true rest h = absurd (cc)
none_both c false rest h = (refl, h)

-- the visits of a plan, with changed ones put in
pub merged_put : (count : ℕ) (visits changed : List Visit) → CanPut count visits changed → IsMerged visits changed (put_in visits changed)
merged_put count visits [] can = record { has = λ v h. absurd (omega (arith, h.1)); kept = λ v h none. h; from = λ v h. inr (h, refl) }
merged_put count visits (v ∷ changed) can =
    let one : IsPutIn visits v (put_one visits v) = put_one_in visits v (first_number count visits v changed can) can.numbered in
    let rest : IsMerged (put_one visits v) changed (put_in (put_one visits v) changed) = merged_put count (put_one visits v) changed (put_next count visits v changed can) in
    record {
      has = λ c h. elim (listed_cases v changed c h) [
        | inl same ↦ subst (Contains (put_in (put_one visits v) changed)) same (rest.kept v one.has (none_low (v.number.0 + 1) (count + 2) changed v.number can.rise.1 (omega arith)))
        | inr later ↦ rest.has c later
      ];
      kept = λ w h none.
          let both = none_both v (has_number w.number v) (visit_at changed w.number) none in
          rest.kept w (one.kept w h (λ e. differ w (has_number w.number v) refl e both.0)) both.1;
      from = λ w h. elim (rest.from w h) [
        | inl later ↦ inl (listed_later v changed w later)
        | inr before ↦ elim (one.from w before.0) [
          | inl same ↦ inl (subst (Contains (v ∷ changed)) same (listed_first v changed))
          | inr old ↦ inr (old.0, missing w old.1 before.1)
        ]
      ];
    }
  where
    differ : (w : Visit) (b : Bool) → has_number w.number v ≡ b → w.number.0 ≡ v.number.0 → b ≡ false → ⊥
    differ w true is e f = cc
    differ w false is e f = grind (arith, nat_tests)

    missing : (w : Visit) → w.number.0 ≢ v.number.0 → visit_at changed w.number ≡ None → visit_at (v ∷ changed) w.number ≡ None
    missing w apart none =
        let other : has_number w.number v ≡ false = grind (arith, nat_tests) in
        ap (λ b. cond b (Some v) (visit_at changed w.number)) other ∙ none
