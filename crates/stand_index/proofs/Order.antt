-- Slots in order of their start, with one more or without some.
use Rattle.std.proofs.Common.{◌≡◌, ◌<◌, ◌≤◌, ◌⊎◌, inl, inr, ℕ, zero, suc, Bool, true, false, cond, List, [], ◌∷◌, ◌++◌, length, get_or, take, drop, refl, ap, arith, subst}
use Rattle.std.specs.Prelude.{All, AllPairs, filter, not}
use Rattle.std.specs.List.{AllWithin}
use Rattle.std.proofs.lemmas.Bool.Decides.{nat_tests}
use Rattle.std.proofs.lemmas.Bool.{cases_lt}
use Rattle.std.proofs.lemmas.List.Elements.{All-append, All-cons, All-filter, All-head, All-nil, All-tail}
use Rattle.std.specs.List.Sorted.{IsPermutation}
use Rattle.std.proofs.lemmas.List.Sorted.{IsPermutation-cons, IsPermutation-filter_both, IsPermutation-middle, IsPermutation-sym, IsPermutation-trans}
use Rattle.std.proofs.lemmas.List.Kept.{AllPairs-cons, AllPairs-filter}
use Rattle.apron_base.specs.declared.slot.Slot.{Slot}
use Rattle.stand_index.specs.Slots.{IsByStart, IsEarlier, insert_by_start, starts_earlier}

pub pairs_tail : {X : Type 0} (R : X → X → Type 0) (x : X) (xs : List X) → AllPairs R (x ∷ xs) → AllPairs R xs
pairs_tail R x xs h i j d before inside = h (suc i) (suc j) d (omega arith) (omega arith)

pub pairs_head : {X : Type 0} (R : X → X → Type 0) (x : X) (xs : List X) → AllPairs R (x ∷ xs) → All (R x) xs
pairs_head R x xs h k d inside = h 0 (suc k) d (omega arith) (omega arith)

pub pairs_append : {X : Type 0} (R : X → X → Type 0) (xs ys : List X) → AllPairs R xs → AllPairs R ys → All (λ x. All (R x) ys) xs → AllPairs R (xs ++ ys)
pairs_append R [] ys first second across = second
pairs_append R (x ∷ xs) ys first second across =
    AllPairs-cons R x (xs ++ ys) (All-append (R x) xs ys (pairs_head R x xs first) (All-head (λ y. All (R y) ys) x xs across))
    (pairs_append R xs ys (pairs_tail R x xs first) second (All-tail (λ y. All (R y) ys) x xs across))

-- what holds of each that passes
all_passing : {X : Type 0} (P : X → Type 0) (p : X → Bool) (xs : List X) → All (λ x. p x ≡ true → P x) xs → All P (filter p xs)
all_passing P p [] all = All-nil P
all_passing P p (x ∷ xs) all =
    by (p x) refl (all_passing P p xs (All-tail (λ y. p y ≡ true → P y) x xs all))
  where
    by : (b : Bool) → p x ≡ b → All P (filter p xs) → All P (cond b (x ∷ filter p xs) (filter p xs))
    by true is rest = All-cons P x (filter p xs) (All-head (λ y. p y ≡ true → P y) x xs all is) rest
    by false is rest = rest

-- the slots that don't start earlier
abbrev others : Slot → Slot → Bool
others slot other = not (starts_earlier slot other)

-- what holds of the slot and of the others holds of all
pub All-insert_by_start : (P : Slot → Type 0) (slot : Slot) (xs : List Slot) → P slot → All P xs → All P (insert_by_start slot xs)
All-insert_by_start P slot xs here all =
    All-append P (filter (starts_earlier slot) xs) (slot ∷ filter (others slot) xs) (All-filter (starts_earlier slot) P xs all)
    (All-cons P slot (filter (others slot) xs) here (All-filter (others slot) P xs all))

-- slots in an order that the slot keeps on both sides
inserted_pairs : (R : Slot → Slot → Type 0) (slot : Slot) (xs : List Slot) → ((x y z : Slot) → R x y → R y z → R x z) → AllPairs R xs
    → All (λ other. starts_earlier slot other ≡ true → R other slot) xs → All (λ other. others slot other ≡ true → R slot other) xs → AllPairs R (insert_by_start slot xs)
inserted_pairs R slot xs chain pairs before after =
    let first : All (λ (other : Slot). R other slot) (filter (starts_earlier slot) xs) = all_passing (λ other. R other slot) (starts_earlier slot) xs before in
    let last : All (R slot) (filter (others slot) xs) = all_passing (R slot) (others slot) xs after in
    pairs_append R (filter (starts_earlier slot) xs) (slot ∷ filter (others slot) xs) (AllPairs-filter R (starts_earlier slot) xs pairs)
    (AllPairs-cons R slot (filter (others slot) xs) last (AllPairs-filter R (others slot) xs pairs))
    (λ k d inside. All-cons (R (get_or (filter (starts_earlier slot) xs) k d)) slot (filter (others slot) xs) (first k d inside)
    (λ j e within. chain (get_or (filter (starts_earlier slot) xs) k d) slot (get_or (filter (others slot) xs) j e) (first k d inside) (last j e within)))

earlier_first : (slot x : Slot) → IsEarlier x slot ⊎ IsEarlier slot x → starts_earlier slot x ≡ true → IsEarlier x slot
earlier_first slot x (inl before) test = before
earlier_first slot x (inr after) test = let starts : x.from < slot.from = grind (arith, nat_tests) in absurd (omega (arith, after.0))

later_after : (slot x : Slot) → IsEarlier x slot ⊎ IsEarlier slot x → others slot x ≡ true → IsEarlier slot x
later_after slot x (inl before) test = let starts : slot.from ≤ x.from = grind (arith, nat_tests) in absurd (omega (arith, before.0))
later_after slot x (inr after) test = after

earlier_chain : (x y z : Slot) → IsEarlier x y → IsEarlier y z → IsEarlier x z
earlier_chain x y z first second = (omega (arith, first.0, second.0), omega (arith, first.1, second.1))

-- among slots that are each earlier or later than this one, they rise with it too
pub insert_by_start_rises : (slot : Slot) (xs : List Slot) → AllPairs IsEarlier xs → All (λ other. IsEarlier other slot ⊎ IsEarlier slot other) xs → AllPairs IsEarlier (insert_by_start slot xs)
insert_by_start_rises slot xs rise apart =
    inserted_pairs IsEarlier slot xs earlier_chain rise (λ k d inside. earlier_first slot (get_or xs k d) (apart k d inside)) (λ k d inside. later_after slot (get_or xs k d) (apart k d inside))

abbrev StartsNoLater : Slot → Slot → Type 0
StartsNoLater slot other = slot.from ≤ other.from

starts_first : (slot x : Slot) → starts_earlier slot x ≡ true → StartsNoLater x slot
starts_first slot x test = let starts : x.from < slot.from = grind (arith, nat_tests) in omega arith

starts_after : (slot x : Slot) → others slot x ≡ true → StartsNoLater slot x
starts_after slot x test = grind (arith, nat_tests)

pairs_by_start : (xs : List Slot) → AllPairs StartsNoLater xs → IsByStart xs
pairs_by_start xs pairs i j d order inside =
    elim (cases_lt i j) [
      | inl before ↦ pairs i j d before inside
      | inr after ↦ (let same : i ≡ j = omega arith in let P : ℕ → Type 0 = λ k. (get_or xs i d).from ≤ (get_or xs k d).from in subst P same (omega arith))
    ]

-- in order of start they stay so
pub insert_by_start_ordered : (slot : Slot) (xs : List Slot) → IsByStart xs → IsByStart (insert_by_start slot xs)
insert_by_start_ordered slot xs order =
    pairs_by_start (insert_by_start slot xs)
    (inserted_pairs StartsNoLater slot xs (λ x y z first second. omega arith) (λ i j d before inside. order i j d (omega arith) inside)
    (λ k d inside. starts_first slot (get_or xs k d)) (λ k d inside. starts_after slot (get_or xs k d)))

-- a list up to a place from which on none passes
parted : {X : Type 0} (p : X → Bool) (xs : List X) (i : ℕ) → i ≤ length xs → AllWithin (λ x. p x ≡ true) xs 0 i → AllWithin (λ x. p x ≡ false) xs i (length xs)
    → (filter p xs ≡ take i xs) × (filter (λ x. not (p x)) xs ≡ drop i xs)
parted p [] zero inside before after = (refl, refl)
parted p [] (suc i) inside before after = absurd (omega arith)
parted p (x ∷ xs) zero inside before after =
    let none : p x ≡ false = after 0 x (omega arith) (omega arith) in
    let rest = parted p xs zero (omega arith) (λ k d low high. absurd (omega arith)) (λ k d low high. after (suc k) d (omega arith) (omega arith)) in
    (rw none rest.0, rw none (ap (λ ys. x ∷ ys) rest.1))
parted p (x ∷ xs) (suc i) inside before after =
    let some : p x ≡ true = before 0 x (omega arith) (omega arith) in
    let rest = parted p xs i (omega arith) (λ k d low high. before (suc k) d (omega arith) (omega arith)) (λ k d low high. after (suc k) d (omega arith) (omega arith)) in
    (rw some (ap (λ ys. x ∷ ys) rest.0), rw some rest.1)

starts : (slot x : Slot) → x.from < slot.from → starts_earlier slot x ≡ true
starts slot x before = grind (arith, nat_tests)

starts_not : (slot x : Slot) → slot.from ≤ x.from → starts_earlier slot x ≡ false
starts_not slot x after = grind (arith, nat_tests)

-- a slot put after all that start earlier, and before the others, is inserted by its start
pub insert_by_start_at : (slot : Slot) (xs : List Slot) (i : ℕ) → i ≤ length xs → AllWithin (λ other. other.from < slot.from) xs 0 i → AllWithin (λ other. slot.from ≤ other.from) xs i (length xs)
    → take i xs ++ slot ∷ drop i xs ≡ insert_by_start slot xs
insert_by_start_at slot xs i inside before after =
    let parts = parted (starts_earlier slot) xs i inside (λ k d low high. starts slot (get_or xs k d) (before k d low high)) (λ k d low high. starts_not slot (get_or xs k d) (after k d low high)) in
    rw (parts.0, parts.1) refl

-- they are the slot and the others
pub insert_by_start_permutes : (slot : Slot) (xs : List Slot) → IsPermutation (slot ∷ xs) (insert_by_start slot xs)
insert_by_start_permutes slot xs =
    let early = filter (starts_earlier slot) xs in
    let late = filter (others slot) xs in
    IsPermutation-trans (slot ∷ xs) (slot ∷ (early ++ late)) (insert_by_start slot xs)
    (IsPermutation-cons slot xs (early ++ late) (IsPermutation-filter_both (starts_earlier slot) (others slot) (λ x. refl) xs))
    (IsPermutation-sym (insert_by_start slot xs) (slot ∷ (early ++ late)) (IsPermutation-middle early slot late))
