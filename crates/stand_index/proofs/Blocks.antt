-- Blocks of slots: when they end, and which a look passes over.
use Rattle.std.proofs.Common.{◌≡◌, ◌==◌, ◌∙◌, ◌<◌, ◌≤◌, ◌⊎◌, ◌+◌, ◌*◌, ◌-◌, ◌/◌, ◌||◌, inl, inr, ℕ, zero, suc, min, Bool, true, false, List, [], ◌∷◌, ◌++◌, length, get_or, take, drop, refl, sym, ap, arith, subst, nat_lt, append_assoc, length-append, slice_index, take-add, add-one, nat_cmp}
use Rattle.std.specs.Prelude.{filter, if◌then◌else◌}
use Rattle.std.specs.List.{list_any}
use Rattle.std.specs.Ordering.{ord_max}
use Rattle.std.proofs.lemmas.Grind.{common_steps}
use Rattle.std.proofs.lemmas.Bool.{cases_lt}
use Rattle.std.proofs.lemmas.Bool.Decides.{nat_tests}
use Rattle.std.proofs.lemmas.List.{drop-drop, drop-take, drop_all, get_or_append_left, get_or_default, get_or-drop, get_or-take, length-drop, length-take, take-take, take_all}
use Rattle.std.proofs.Math.Seq.{get_or-append_seam}
use Rattle.std.proofs.lemmas.List.Elements.{filter-append}
use Rattle.std.proofs.lemmas.List.Folds.{list_any_at, list_any_more, list_any_none}
use Rattle.apron_base.specs.declared.slot.Slot.{Slot}
use Rattle.stand_index.specs.Blocks.{AreInBlocks, AreLastEnds, IsLastEnd, block, count_blocks, ends_after, is_reached, slot_starts_before}
use Rattle.stand_index.specs.Slots.{IsByStart, StandSlots, hits_of, is_hit}
use Rattle.stand_index.specs.Steps.{binary_digits, block_steps, blocks_steps, most_steps}
use Rattle.stand_index.proofs.Hits.{none_pass}

-- how many slots a block has
pub block_length : (xs : List Slot) (number : ℕ) → length (block xs number) ≡ min 64 (length xs - number * 64)
unfolding block
block_length xs number = length-take 64 (drop (number * 64) xs) ∙ ap (min 64) (length-drop (number * 64) xs)

-- a slot of a block
pub block_at : (xs : List Slot) (number k : ℕ) (d : Slot) → k < length (block xs number) → get_or (block xs number) k d ≡ get_or xs (number * 64 + k) d
unfolding block
block_at xs number k d inside =
    let short : k < 64 = omega (arith, block_length xs number) in
    get_or-take 64 (drop (number * 64) xs) k d short ∙ get_or-drop (number * 64) xs k d

-- its first slot
pub block_first : (xs : List Slot) (number : ℕ) (d : Slot) → number * 64 < length xs → get_or (block xs number) 0 d ≡ get_or xs (number * 64) d
block_first xs number d inside =
    let n : number * 64 + 0 ≡ number * 64 = omega arith in
    block_at xs number 0 d (omega (arith, block_length xs number)) ∙ ap (λ i. get_or xs i d) n

-- the rest from a block on begins with it
pub block_rest : (xs rest : List Slot) (number : ℕ) → rest ≡ drop (number * 64) xs → take (min (length rest) 64) rest ≡ block xs number
unfolding block
block_rest xs rest number is = by (cases_lt (length rest) 64)
  where
    by : (length rest < 64) ⊎ (64 ≤ length rest) → take (min (length rest) 64) rest ≡ take 64 (drop (number * 64) xs)
    by (inl short) =
        let n : min (length rest) 64 ≡ length rest = omega arith in
        rw n (take_all (length rest) rest (omega arith) ∙ (sym (take_all 64 rest (omega arith)) ∙ ap (take 64) is))
    by (inr long) = let n : min (length rest) 64 ≡ 64 = omega arith in rw n (ap (take 64) is)

front_block : (zs : List Slot) (place number : ℕ) → number * 64 + 64 ≤ place → block (take place zs) number ≡ block zs number
unfolding block
front_block zs place number before =
    let more = place - number * 64 in
    let n : place ≡ number * 64 + more = omega arith in
    rw n (ap (take 64) (drop-take (number * 64) more zs) ∙ take-take 64 more (drop (number * 64) zs) (omega arith))

-- the blocks before a place are those of what stands before it
pub block_of_front : (xs ys : List Slot) (place number : ℕ) → take place xs ≡ take place ys → number * 64 + 64 ≤ place → block xs number ≡ block ys number
block_of_front xs ys place number same before =
    sym (front_block xs place number before) ∙ (ap (λ (zs : List Slot). block zs number) same ∙ front_block ys place number before)

-- one more block
pub with_block : (xs : List Slot) (number : ℕ) → take (number * 64 + 64) xs ≡ take (number * 64) xs ++ block xs number
unfolding block
with_block xs number = take-add (number * 64) 64 xs

pub more_blocks : (xs : List Slot) (number from end : ℕ) (old before after : List Slot) → before ≡ old ++ filter (is_hit from end) (take (number * 64) xs)
    → after ≡ before ++ filter (is_hit from end) (block xs number) → after ≡ old ++ filter (is_hit from end) (take ((number + 1) * 64) xs)
more_blocks xs number from end old before after so_far grown =
    let n : (number + 1) * 64 ≡ number * 64 + 64 = omega arith in
    rw (n, grown, so_far, with_block xs number, filter-append (is_hit from end) (take (number * 64) xs) (block xs number), append_assoc) refl

either : (minute a b : ℕ) → (nat_lt minute a || nat_lt minute b) ≡ nat_lt minute (ord_max nat_cmp a b)
either minute a b = grind (arith, common_steps)

-- one more slot
pub last_end_more : (xs : List Slot) (i : ℕ) (d : Slot) (last : ℕ) → i < length xs → IsLastEnd (take i xs) last → IsLastEnd (take (i + 1) xs) (ord_max nat_cmp last (get_or xs i d).end)
last_end_more xs i d last inside is minute =
    list_any_more (ends_after minute) xs i d inside ∙ (ap (λ b. b || nat_lt minute (get_or xs i d).end) (is minute) ∙ either minute last (get_or xs i d).end)

not_before : (m n : ℕ) → n ≤ m → nat_lt m n ≡ false
not_before m n h = grind (arith, nat_tests)

is_before : (m n : ℕ) → m < n → nat_lt m n ≡ true
is_before m n h = grind (arith, nat_tests)

-- the first slot of a block says whether one starts before a minute
pub first_starts : (xs : List Slot) (number end : ℕ) (slot : Slot) → IsByStart xs → number * 64 < length xs → ((d : Slot) → slot ≡ get_or xs (number * 64) d)
    → list_any (slot_starts_before end) (block xs number) ≡ nat_lt slot.from end
first_starts xs number end slot order inside at = by (nat_lt slot.from end) refl
  where
    by : (b : Bool) → nat_lt slot.from end ≡ b → list_any (slot_starts_before end) (block xs number) ≡ b
    by true is =
        let some : 0 < length (block xs number) = omega (arith, block_length xs number) in
        let here : slot ≡ get_or (block xs number) 0 slot = at slot ∙ sym (block_first xs number slot inside) in
        let P : Slot → Type 0 = λ y. nat_lt y.from end ≡ true in
        list_any_at (slot_starts_before end) (block xs number) 0 slot some (subst P here is)
    by false is =
        let late : end ≤ slot.from = grind (arith, nat_tests) in
        list_any_none (slot_starts_before end) (block xs number) (λ k d within.
        let far : number * 64 + k < length xs = omega (arith, block_length xs number) in
        let first : slot.from ≤ (get_or xs (number * 64 + k) d).from =
        (let Q : Slot → Type 0 = λ y. y.from ≤ (get_or xs (number * 64 + k) d).from in subst Q (sym (at d)) (order (number * 64) (number * 64 + k) d (omega arith) far)) in
        let P : Slot → Type 0 = λ y. nat_lt y.from end ≡ false in
        subst P (sym (block_at xs number k d within)) (not_before (get_or xs (number * 64 + k) d).from end (omega arith)))

-- slots of which none is reached have no hit
pub unreached_misses : (xs : List Slot) (from end : ℕ) → is_reached from end xs ≡ false → filter (is_hit from end) xs ≡ []
unreached_misses xs from end misses = none_pass (is_hit from end) xs (λ k d inside. by k d inside (is_hit from end (get_or xs k d)) refl)
  where
    by : (k : ℕ) (d : Slot) → k < length xs → (b : Bool) → is_hit from end (get_or xs k d) ≡ b → is_hit from end (get_or xs k d) ≡ false
    by k d inside false is = is
    by k d inside true is =
        let starts : nat_lt (get_or xs k d).from end ≡ true = grind (arith, nat_tests) in
        let ends : nat_lt from (get_or xs k d).end ≡ true = grind (arith, nat_tests) in
        let one : list_any (slot_starts_before end) xs ≡ true = list_any_at (slot_starts_before end) xs k d inside starts in
        let other : list_any (ends_after from) xs ≡ true = list_any_at (ends_after from) xs k d inside ends in
        let both : is_reached from end xs ≡ true = rw (one, other) refl in
        absurd (cc)

-- no fewer steps for more blocks
pub more_steps : (from end : ℕ) (xs : List Slot) (few more : ℕ) → few ≤ more → blocks_steps from end xs few ≤ blocks_steps from end xs more
more_steps from end xs few zero h = let none : few ≡ 0 = omega arith in rw none (omega arith)
more_steps from end xs few (suc more) h =
    elim (cases_lt few (suc more)) [
      | inl before ↦ (let rest = more_steps from end xs few more (omega arith) in omega arith)
      | inr after ↦ (let same : few ≡ suc more = omega arith in rw same (omega arith))
    ]

pub next_steps : (from end : ℕ) (xs : List Slot) (number : ℕ) → blocks_steps from end xs (number + 1) ≡ blocks_steps from end xs number + block_steps from end (block xs number)
next_steps from end xs number = rw add-one refl

pub reached_steps : (from end : ℕ) (xs : List Slot) → is_reached from end xs ≡ true → block_steps from end xs ≡ length xs
reached_steps from end xs reached = rw reached refl

-- a look takes at most as many steps at a block as it has slots
block_within : (from end : ℕ) (xs : List Slot) → 0 < length xs → block_steps from end xs ≤ length xs
block_within from end xs some = by (is_reached from end xs)
  where
    by : (b : Bool) → (if b then length xs else 1) ≤ length xs
    by true = omega arith
    by false = omega arith

-- and at the first blocks as these have
blocks_within : (from end : ℕ) (xs : List Slot) (number : ℕ) → number * 64 < length xs + 64 → blocks_steps from end xs number ≤ min (number * 64) (length xs)
blocks_within from end xs zero few = omega arith
blocks_within from end xs (suc before) few =
    let more : suc before * 64 ≡ before * 64 + 64 = omega arith in
    let size = block_length xs before in
    let here = block_within from end (block xs before) (omega (arith, size, few, more)) in
    omega (arith, blocks_within from end xs before (omega (arith, few, more)), here, size, few, more)

-- the first slot and the last end say whether a block is reached
pub reached_then : (xs ys : List Slot) (ends : List ℕ) (number from end : ℕ) (slot : Slot) (last : ℕ) → AreInBlocks xs ends → xs ≡ ys → number * 64 < length ys
    → slot ≡ get_or xs (number * 64) slot → last ≡ get_or ends number last → slot.from < end → nat_lt from last ≡ is_reached from end (block ys number)
reached_then xs ys ends number from end slot last blocks same inside at last_at starts =
    let P : List Slot → Type 0 = λ zs. nat_lt from last ≡ is_reached from end (block zs number) in
    let Q : List Slot → Type 0 = λ zs. number * 64 < length zs in
    let within : number * 64 < length xs = subst Q (sym same) inside in
    let counted : number < length ends = omega (arith, blocks.whole) in
    let first : list_any (slot_starts_before end) (block xs number) ≡ true =
    first_starts xs number end slot blocks.order within (λ d. at ∙ get_or_default xs (number * 64) slot d within) ∙ is_before slot.from end starts in
    let ended : list_any (ends_after from) (block xs number) ≡ nat_lt from last =
    blocks.each number counted from ∙ ap (nat_lt from) (sym (last_at ∙ get_or_default ends number last 0 counted)) in
    subst P same (rw (first, ended) refl)

pub reached_else : (xs ys : List Slot) (ends : List ℕ) (number from end : ℕ) (slot : Slot) → AreInBlocks xs ends → xs ≡ ys → number * 64 < length ys
    → slot ≡ get_or xs (number * 64) slot → end ≤ slot.from → nat_lt slot.from end ≡ is_reached from end (block ys number)
reached_else xs ys ends number from end slot blocks same inside at late =
    let P : List Slot → Type 0 = λ zs. nat_lt slot.from end ≡ is_reached from end (block zs number) in
    let Q : List Slot → Type 0 = λ zs. number * 64 < length zs in
    let within : number * 64 < length xs = subst Q (sym same) inside in
    let none : list_any (slot_starts_before end) (block xs number) ≡ false =
    first_starts xs number end slot blocks.order within (λ d. at ∙ get_or_default xs (number * 64) slot d within) ∙ not_before slot.from end late in
    subst P same (rw (none, not_before slot.from end late) refl)

-- the ends of the blocks before a place that stays
pub kept_ends : (xs ys : List Slot) (ends : List ℕ) (place : ℕ) → AreInBlocks xs ends → take place ys ≡ take place xs → place ≤ length xs
    → (number : ℕ) → number < place / 64 → IsLastEnd (block ys number) (slice_index ends number)
kept_ends xs ys ends place blocks same inside number before =
    let far : number * 64 + 64 ≤ place = omega arith in
    let P : List Slot → Type 0 = λ zs. IsLastEnd zs (slice_index ends number) in
    subst P (sym (block_of_front ys xs place number same far)) (blocks.each number (omega (arith, blocks.whole)))

pub in_blocks : (xs ys : List Slot) (ends : List ℕ) → ys ≡ xs → IsByStart xs → length ys ≤ length ends * 64 → length ends * 64 < length ys + 64 → AreLastEnds ys ends → AreInBlocks xs ends
in_blocks xs ys ends same order whole last each =
    let P : List Slot → Type 0 = λ zs. AreInBlocks zs ends in
    subst P same (record { order = subst IsByStart (sym same) order; whole = whole; last = last; each = each })

-- the rest after one more block
pub next_rest : (xs rest : List Slot) (number mid next : ℕ) → rest ≡ drop (number * 64) xs → mid ≡ min (length rest) 64 → next ≡ number + 1 → drop mid rest ≡ drop (next * 64) xs
next_rest xs rest number mid next is middle after = by (cases_lt (length rest) 64)
  where
    by : (length rest < 64) ⊎ (64 ≤ length rest) → drop mid rest ≡ drop (next * 64) xs
    by (inl short) =
        let long : length rest ≡ length xs - number * 64 = ap length is ∙ length-drop (number * 64) xs in
        drop_all mid rest (omega arith) ∙ sym (drop_all (next * 64) xs (omega arith))
    by (inr long) =
        let m : mid ≡ 64 = omega arith in
        let n : number * 64 + 64 ≡ next * 64 = omega arith in
        rw m (ap (drop 64) is ∙ (drop-drop 64 (number * 64) xs ∙ ap (λ k. drop k xs) n))

pub next_last : (xs rest : List Slot) (number next : ℕ) → rest ≡ drop (number * 64) xs → (length rest == 0) ≡ false → next ≡ number + 1 → next * 64 < length xs + 64
next_last xs rest number next is some after =
    let long : length rest ≡ length xs - number * 64 = ap length is ∙ length-drop (number * 64) xs in
    let filled : 0 < length rest = grind (arith, nat_tests) in
    omega arith

-- one more end
pub with_end : (xs : List Slot) (ends new : List ℕ) (last : ℕ) → new ≡ ends ++ last ∷ [] → AreLastEnds xs ends → IsLastEnd (block xs (length ends)) last → AreLastEnds xs new
with_end xs ends new last grown each here = subst (AreLastEnds xs) (sym grown) by
  where
    by : (number : ℕ) → number < length (ends ++ last ∷ []) → IsLastEnd (block xs number) (slice_index (ends ++ last ∷ []) number)
    by number inside = elim (cases_lt number (length ends)) [
      | inl before ↦ (let P : ℕ → Type 0 = λ e. IsLastEnd (block xs number) e in subst P (sym (get_or_append_left ends (last ∷ []) 0 number before)) (each number before))
      | inr after ↦ (let same : length ends ≡ number = omega (arith, length-append ends (last ∷ [])) in
          let P : ℕ → Type 0 = λ n. IsLastEnd (block xs n) (slice_index (ends ++ last ∷ []) n) in
          let Q : ℕ → Type 0 = λ e. IsLastEnd (block xs (length ends)) e in
          subst P same (subst Q (sym (get_or-append_seam ends last [] 0)) here))
    ]

-- the steps of both looks
pub planned_steps : (slots : StandSlots) (from end before after : ℕ) → after ≤ before + binary_digits (length slots.planned) + 1 + length (filter (is_hit from end) slots.planned)
    → after ≤ before + most_steps slots from end
unfolding most_steps
planned_steps slots from end before after few = omega (arith, length-append (filter (is_hit from end) slots.planned) (filter (is_hit from end) slots.actual))

pub all_steps : (slots : StandSlots) (from end before middle after : ℕ) → middle ≤ before + binary_digits (length slots.planned) + 1 + length (filter (is_hit from end) slots.planned)
    → after ≤ middle + blocks_steps from end slots.actual (count_blocks slots.actual) → after ≤ before + most_steps slots from end
unfolding most_steps
all_steps slots from end before middle after few more = omega (arith, length-append (filter (is_hit from end) slots.planned) (filter (is_hit from end) slots.actual))

-- a look takes at most one step for each actual slot, and those at the planned ones
pub most_within : (slots : StandSlots) (from end : ℕ) → most_steps slots from end ≤ binary_digits (length slots.planned) + 1 + length (hits_of slots from end) + length slots.actual
unfolding most_steps
most_within slots from end = omega (arith, blocks_within from end slots.actual (count_blocks slots.actual) (omega arith))
