-- An index in which one stand changes.
use Rattle.std.proofs.Common.{◌≡◌, ◌≢◌, ◌∙◌, ◌<◌, ◌&&◌, inl, inr, ℕ, zero, suc, Bool, true, false, cond, not, List, [], ◌∷◌, ◌++◌, refl, sym, ap, subst, arith, Some, length, get_or, if◌then◌else◌}
use Rattle.std.specs.Prelude.{Contains, filter}
use Rattle.std.specs.List.Sorted.{IsPermutation}
use Rattle.std.proofs.lemmas.Bool.{cases_eq}
use Rattle.std.proofs.lemmas.Bool.Decides.{nat_tests}
use Rattle.std.proofs.lemmas.List.{ext_get_or}
use Rattle.std.proofs.lemmas.List.Elements.{filter-append}
use Rattle.std.proofs.lemmas.List.Sorted.{IsPermutation-refl, IsPermutation-sym, IsPermutation-trans, IsPermutation-append, IsPermutation-middle}
use Rattle.apron_base.specs.declared.numbers.PartId.{PartId}
use Rattle.apron_base.specs.declared.numbers.StandNo.{StandNo}
use Rattle.apron_base.specs.declared.slot.Slot.{Slot}
use Rattle.apron_base.proofs.Sorting.{listed_first, listed_later}
use Rattle.clash_check.specs.Indexed.{all_slots, slots_at}
use Rattle.clash_check.proofs.Looked.{of_stand}
use Rattle.stand_index.specs.Slots.{AddsSlot, AreSlotsAt, HasMinutes, IsIndex, KeepsOrder, KeepsOtherStands, KeepsSlots, RemovesPart, StandSlots, actual_with, at_stand, insert_by_start, is_of_part, no_slots, planned_with}
use Rattle.stand_index.proofs.Order.{insert_by_start_permutes}
use Rattle.stand_index.proofs.Stands.{stand_with_room, stand_with_slot, stand_without_part}
use Rattle.plan_core.specs.Indexing.{KeepsRoom, is_off}
use Rattle.plan_core.specs.PlanState.{is_on}

-- what passes one test and then another passes both
pub filter_both : {X : Type 0} (p q : X → Bool) (xs : List X) → filter q (filter p xs) ≡ filter (λ x. p x && q x) xs
filter_both p q [] = refl
filter_both p q (x ∷ xs) = by (p x) (filter_both p q xs)
  where
    by : (b : Bool) → filter q (filter p xs) ≡ filter (λ y. p y && q y) xs
        → filter q (cond b (x ∷ filter p xs) (filter p xs)) ≡ cond (b && q x) (x ∷ filter (λ y. p y && q y) xs) (filter (λ y. p y && q y) xs)
    by true rest = ap (λ ys. cond (q x) (x ∷ ys) ys) rest
    by false rest = rest

-- tests that agree on the items
pub filter_alike : {X : Type 0} (p q : X → Bool) (xs : List X) → ((x : X) → Contains xs x → p x ≡ q x) → filter p xs ≡ filter q xs
filter_alike p q [] same = refl
filter_alike p q (x ∷ xs) same =
    let first : p x ≡ q x = same x (listed_first x xs) in
    let rest : filter p xs ≡ filter q xs = filter_alike p q xs (λ y h. same y (listed_later x xs y h)) in
    ap (λ b. cond b (x ∷ filter p xs) (filter p xs)) first ∙ ap (λ ys. cond (q x) (x ∷ ys) ys) rest

-- a test that each item passes
pub filter_whole : {X : Type 0} (p : X → Bool) (xs : List X) → ((x : X) → Contains xs x → p x ≡ true) → filter p xs ≡ xs
filter_whole p [] all = refl
filter_whole p (x ∷ xs) all =
    ap (λ b. cond b (x ∷ filter p xs) (filter p xs)) (all x (listed_first x xs)) ∙ ap (λ ys. x ∷ ys) (filter_whole p xs (λ y h. all y (listed_later x xs y h)))

filtered_along : (p : Slot → Bool) (before after : List StandSlots) → length after ≡ length before
    → ((k : ℕ) → k < length before → slots_at (get_or after k no_slots) ≡ filter p (slots_at (get_or before k no_slots)))
    → all_slots after ≡ filter p (all_slots before)
filtered_along p [] [] long each = refl
filtered_along p [] (y ∷ after) long each = absurd (omega (arith, long))
filtered_along p (x ∷ before) [] long each = absurd (omega (arith, long))
filtered_along p (x ∷ before) (y ∷ after) long each =
    let first : slots_at y ≡ filter p (slots_at x) = each 0 (omega arith) in
    let rest : all_slots after ≡ filter p (all_slots before) =
    filtered_along p before after (omega (arith, long)) (λ k inside. each (suc k) (omega (arith, inside))) in
    ap (λ (xs : List Slot). xs ++ all_slots after) first ∙ (ap (λ (xs : List Slot). filter p (slots_at x) ++ xs) rest
    ∙ sym (filter-append p (slots_at x) (all_slots before)))

off_here : (stand : StandNo) (part : PartId) (x : Slot) → x.stand ≡ stand → not (is_of_part part x) ≡ is_off (Some stand) part x
off_here stand part x at =
    let on : is_on stand x ≡ true = grind (arith, nat_tests, ap (λ (s : StandNo). s.0) at) in
    ap (λ b. not (b && is_of_part part x)) (sym on)

off_elsewhere : (stand : StandNo) (part : PartId) (x : Slot) → x.stand.0 ≢ stand.0 → is_off (Some stand) part x ≡ true
off_elsewhere stand part x apart =
    let elsewhere : is_on stand x ≡ false = grind (arith, nat_tests) in
    ap (λ b. not (b && is_of_part part x)) elsewhere

without_here : (stand : StandNo) (part : PartId) (before after : StandSlots) → AreSlotsAt stand before → RemovesPart before after part
    → slots_at after ≡ filter (is_off (Some stand) part) (slots_at before)
without_here stand part before after are removes =
    let other : Slot → Bool = λ x. not (is_of_part part x) in
    ap (λ (xs : List Slot). xs ++ after.actual) removes.planned ∙ (ap (λ (xs : List Slot). filter other before.planned ++ xs) removes.actual
    ∙ (sym (filter-append other before.planned before.actual)
    ∙ filter_alike other (is_off (Some stand) part) (slots_at before) (λ x h. off_here stand part x (of_stand stand before are x h))))

-- an index from which a part is removed at its stand
pub removed_slots : (stand : StandNo) (part : PartId) (before after : List StandSlots) → IsIndex before
    → RemovesPart (at_stand before stand) (at_stand after stand) part → KeepsOtherStands before after stand
    → all_slots after ≡ filter (is_off (Some stand) part) (all_slots before)
removed_slots stand part before after is removes others =
    let off : Slot → Bool = is_off (Some stand) part in
    filtered_along off before after others.stands (λ k inside.
    elim (cases_eq k stand.0) [
      | inl here ↦ subst (λ (n : ℕ). slots_at (get_or after n no_slots) ≡ filter off (slots_at (get_or before n no_slots))) (sym here)
          (without_here stand part (at_stand before stand) (at_stand after stand) (is stand) removes)
      | inr apart ↦ (let there : StandNo = record { 0 = k } in
          ap (λ (slots : StandSlots). slots_at slots) (others.others there apart)
          ∙ sym (filter_whole off (slots_at (at_stand before there)) (λ x h.
          let at : x.stand.0 ≡ k = ap (λ (s : StandNo). s.0) (of_stand there (at_stand before there) (is there) x h) in
          off_elsewhere stand part x (λ e. apart (sym at ∙ e)))))
    ])

changed_index : (stand : StandNo) (before after : List StandSlots) → IsIndex before → KeepsOtherStands before after stand → AreSlotsAt stand (at_stand after stand)
    → IsIndex after
changed_index stand before after is others here other =
    elim (cases_eq other.0 stand.0) [
      | inl e ↦ (let same : stand ≡ other = ap (λ (n : ℕ). record { 0 = n }) (sym e) in
          let P : StandNo → Type 0 = λ s. AreSlotsAt s (at_stand after s) in
          subst P same here)
      | inr apart ↦ subst (AreSlotsAt other) (sym (others.others other apart)) (is other)
    ]

pub removed_index : (stand : StandNo) (part : PartId) (before after : List StandSlots) → IsIndex before
    → RemovesPart (at_stand before stand) (at_stand after stand) part → KeepsOtherStands before after stand → IsIndex after
removed_index stand part before after is removes others =
    changed_index stand before after is others (stand_without_part stand part (at_stand before stand) (at_stand after stand) (is stand) removes)

-- room that is kept at each of two steps
pub room_both : (first second third : List StandSlots) → KeepsRoom first second → KeepsRoom second third → KeepsRoom first third
room_both first second third h k = record { stands = k.stands ∙ h.stands; spare = λ stand. omega (arith, h.spare stand, k.spare stand) }

-- one more slot of a stand
added_permutes : (slot : Slot) (planned actual : List Slot) (b : Bool)
    → IsPermutation (slot ∷ (planned ++ actual)) ((if b then planned else insert_by_start slot planned) ++ (if b then insert_by_start slot actual else actual))
added_permutes slot planned actual true =
    IsPermutation-trans (slot ∷ (planned ++ actual)) (planned ++ slot ∷ actual) (planned ++ insert_by_start slot actual)
    (IsPermutation-sym (planned ++ slot ∷ actual) (slot ∷ (planned ++ actual)) (IsPermutation-middle planned slot actual))
    (IsPermutation-append planned planned (slot ∷ actual) (insert_by_start slot actual) (IsPermutation-refl planned) (insert_by_start_permutes slot actual))
added_permutes slot planned actual false =
    IsPermutation-append (slot ∷ planned) (insert_by_start slot planned) actual actual (insert_by_start_permutes slot planned) (IsPermutation-refl actual)

slot_permutes : (slot : Slot) (before after : StandSlots) → AddsSlot before after slot → IsPermutation (slot ∷ slots_at before) (slots_at after)
slot_permutes slot before after added =
    let both : slots_at after ≡ planned_with slot before.planned ++ actual_with slot before.actual =
    ap (λ (xs : List Slot). xs ++ after.actual) added.planned ∙ ap (λ (xs : List Slot). planned_with slot before.planned ++ xs) added.actual in
    subst (IsPermutation (slot ∷ slots_at before)) (sym both) (added_permutes slot before.planned before.actual slot.actual)

grown_along : (slot : Slot) (before after : List StandSlots) (i : ℕ) → i < length before → length after ≡ length before
    → ((k : ℕ) → k ≢ i → get_or after k no_slots ≡ get_or before k no_slots)
    → IsPermutation (slot ∷ slots_at (get_or before i no_slots)) (slots_at (get_or after i no_slots))
    → IsPermutation (slot ∷ all_slots before) (all_slots after)
grown_along slot [] after i inside long others here = absurd (omega (arith, inside))
grown_along slot (x ∷ before) [] i inside long others here = absurd (omega (arith, long))
grown_along slot (x ∷ before) (y ∷ after) zero inside long others here =
    let rest : before ≡ after = ext_get_or no_slots before after (omega (arith, long)) (λ k within. sym (others (suc k) (λ e. omega (arith, e)))) in
    subst (λ (stands : List StandSlots). IsPermutation (slot ∷ (slots_at x ++ all_slots before)) (slots_at y ++ all_slots stands)) rest
    (IsPermutation-append (slot ∷ slots_at x) (slots_at y) (all_slots before) (all_slots before) here (IsPermutation-refl (all_slots before)))
grown_along slot (x ∷ before) (y ∷ after) (suc i) inside long others here =
    let same : x ≡ y = sym (others 0 (λ e. omega (arith, e))) in
    let rest : IsPermutation (slot ∷ all_slots before) (all_slots after) =
    grown_along slot before after i (omega (arith, inside)) (omega (arith, long)) (λ k apart. others (suc k) (λ e. apart (omega (arith, e)))) here in
    subst (λ (z : StandSlots). IsPermutation (slot ∷ (slots_at x ++ all_slots before)) (slots_at z ++ all_slots after)) same
    (IsPermutation-trans (slot ∷ (slots_at x ++ all_slots before)) (slots_at x ++ slot ∷ all_slots before) (slots_at x ++ all_slots after)
    (IsPermutation-sym (slots_at x ++ slot ∷ all_slots before) (slot ∷ (slots_at x ++ all_slots before)) (IsPermutation-middle (slots_at x) slot (all_slots before)))
    (IsPermutation-append (slots_at x) (slots_at x) (slot ∷ all_slots before) (all_slots after) (IsPermutation-refl (slots_at x)) rest))

-- an index with one more slot
pub added_slots : (slot : Slot) (before after : List StandSlots) → slot.stand.0 < length before
    → AddsSlot (at_stand before slot.stand) (at_stand after slot.stand) slot → KeepsOtherStands before after slot.stand
    → IsPermutation (slot ∷ all_slots before) (all_slots after)
added_slots slot before after inside added others =
    grown_along slot before after slot.stand.0 inside others.stands (λ k apart. others.others (record { 0 = k }) apart)
    (slot_permutes slot (at_stand before slot.stand) (at_stand after slot.stand) added)

pub added_index : (slot : Slot) (before after : List StandSlots) → IsIndex before → HasMinutes slot → KeepsOrder slot (at_stand before slot.stand)
    → AddsSlot (at_stand before slot.stand) (at_stand after slot.stand) slot → KeepsOtherStands before after slot.stand → IsIndex after
added_index slot before after is minutes order added others =
    changed_index slot.stand before after is others (stand_with_slot slot (at_stand before slot.stand) (at_stand after slot.stand) (is slot.stand) minutes order added)

-- a stand that gets room and keeps its slots
pub roomy_index : (stand : StandNo) (before after : List StandSlots) → IsIndex before → KeepsSlots (at_stand before stand) (at_stand after stand)
    → KeepsOtherStands before after stand → IsIndex after
roomy_index stand before after is same others =
    changed_index stand before after is others (stand_with_room stand (at_stand before stand) (at_stand after stand) (is stand) same)

pub roomy_slots : (stand : StandNo) (before after : List StandSlots) → KeepsSlots (at_stand before stand) (at_stand after stand) → KeepsOtherStands before after stand
    → all_slots after ≡ all_slots before
roomy_slots stand before after same others =
    filtered_along (λ x. true) before after others.stands (λ k inside.
    elim (cases_eq k stand.0) [
      | inl here ↦ subst (λ (n : ℕ). slots_at (get_or after n no_slots) ≡ filter (λ x. true) (slots_at (get_or before n no_slots))) (sym here)
          (ap (λ (xs : List Slot). xs ++ (at_stand after stand).actual) same.planned
          ∙ (ap (λ (xs : List Slot). (at_stand before stand).planned ++ xs) same.actual ∙ sym (filter_whole (λ x. true) (slots_at (at_stand before stand)) (λ x h. refl))))
      | inr apart ↦ ap (λ (slots : StandSlots). slots_at slots) (others.others (record { 0 = k }) apart)
          ∙ sym (filter_whole (λ x. true) (slots_at (get_or before k no_slots)) (λ x h. refl))
    ]) ∙ filter_whole (λ x. true) (all_slots before) (λ x h. refl)
