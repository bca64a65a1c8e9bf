-- The hits among slots that rise.
use Rattle.std.proofs.Common.{◌≡◌, ◌∙◌, ◌<◌, ◌≤◌, ◌+◌, ℕ, Bool, true, false, List, [], ◌∷◌, ◌++◌, length, get_or, take, drop, refl, sym, ap, arith, subst, take-append-drop, append-nil, append_assoc, length-append, inl, inr}
use Rattle.std.specs.Prelude.{All, AllPairs, filter, nat_lt, min, max}
use Rattle.std.specs.List.{AllWithin}
use Rattle.std.proofs.lemmas.Bool.Decides.{nat_tests}
use Rattle.std.proofs.lemmas.Bool.{cases_lt}
use Rattle.std.proofs.lemmas.List.{take_more, get_or-take, get_or-drop, length-take, length-drop}
use Rattle.std.proofs.lemmas.List.Elements.{All-head, All-tail, filter-append}
use Rattle.apron_base.specs.declared.slot.Slot.{Slot}
use Rattle.stand_index.specs.Slots.{IsEarlier, HasMinutes, is_hit}

pub none_pass : {X : Type 0} (p : X → Bool) (xs : List X) → All (λ x. p x ≡ false) xs → filter p xs ≡ []
none_pass p [] none = refl
none_pass p (x ∷ xs) none =
    let here : p x ≡ false = All-head (λ y. p y ≡ false) x xs none in
    rw here (none_pass p xs (All-tail (λ y. p y ≡ false) x xs none))

-- if none from a place on passes, those before give all that pass
pub all_passed : {X : Type 0} (p : X → Bool) (xs : List X) (i : ℕ) → All (λ x. p x ≡ false) (drop i xs) → filter p (take i xs) ≡ filter p xs
all_passed p xs i none =
    sym (ap (filter p) (sym (take-append-drop i xs)) ∙ (filter-append p (take i xs) (drop i xs) ∙ (ap (λ ys. filter p (take i xs) ++ ys) (none_pass p (drop i xs) none) ∙ append-nil (filter p (take i xs)))))

-- no more pass among the first than among all
pub fewer_pass : {X : Type 0} (p : X → Bool) (xs : List X) (i : ℕ) → length (filter p (take i xs)) ≤ length (filter p xs)
fewer_pass p xs i =
    let whole : filter p xs ≡ filter p (take i xs) ++ filter p (drop i xs) = ap (filter p) (sym (take-append-drop i xs)) ∙ filter-append p (take i xs) (drop i xs) in
    omega (arith, ap length whole, length-append (filter p (take i xs)) (filter p (drop i xs)))

ended_misses : (from end f e : ℕ) → e ≤ from → nat_lt (max from f) (min end e) ≡ false
ended_misses from end f e ended = grind (arith, nat_tests)

later_misses : (from end f e g h : ℕ) → from < e → f < e → nat_lt (max from f) (min end e) ≡ false → f ≤ g → nat_lt (max from g) (min end h) ≡ false
later_misses from end f e g h held some misses later = grind (arith, nat_tests)

-- slots that have ended are no hits
pub none_before : (xs : List Slot) (i from end : ℕ) → AllWithin (λ slot. slot.end ≤ from) xs 0 i → filter (is_hit from end) (take i xs) ≡ []
none_before xs i from end ended =
    none_pass (is_hit from end) (take i xs) (λ k d inside.
    let within : k < i = omega (arith, length-take i xs) in
    let P : Slot → Type 0 = λ y. is_hit from end y ≡ false in
    subst P (sym (get_or-take i xs k d within)) (ended_misses from end (get_or xs k d).from (get_or xs k d).end (ended k d (omega arith) within)))

-- after a slot that hasn't ended and is no hit, there is no hit
pub none_after : (xs : List Slot) (i from end : ℕ) (slot : Slot) → AllPairs IsEarlier xs → All HasMinutes xs → i < length xs → ((d : Slot) → slot ≡ get_or xs i d) → AllWithin (λ slot. from < slot.end) xs i (length xs)
    → is_hit from end slot ≡ false → filter (is_hit from end) (take i xs) ≡ filter (is_hit from end) xs
none_after xs i from end slot rise held inside at after misses =
    all_passed (is_hit from end) xs i (λ k d within.
    let far : i + k < length xs = omega (arith, length-drop i xs) in
    let P : Slot → Type 0 = λ y. is_hit from end y ≡ false in
    let here : is_hit from end (get_or xs i d) ≡ false = subst P (at d) misses in
    let later : (get_or xs i d).from ≤ (get_or xs (i + k) d).from = (elim (cases_lt i (i + k)) [
      | inl more ↦ (let earlier = rise i (i + k) d more far in omega (arith, earlier.0))
      | inr none ↦ (let same : i ≡ i + k = omega arith in let Q : ℕ → Type 0 = λ j. (get_or xs i d).from ≤ (get_or xs j d).from in subst Q same (omega arith))
    ]) in
    subst P (sym (get_or-drop i xs k d)) (
    later_misses from end (get_or xs i d).from (get_or xs i d).end (get_or xs (i + k) d).from (get_or xs (i + k) d).end (after i d (omega arith) inside) (held i d inside) here later
    ))

-- one more slot, if it is a hit
pub more_hits : (xs : List Slot) (i from end : ℕ) (slot : Slot) (old before after : List Slot) → i < length xs → ((d : Slot) → slot ≡ get_or xs i d)
    → before ≡ old ++ filter (is_hit from end) (take i xs) → after ≡ before ++ filter (is_hit from end) (slot ∷ [])
    → after ≡ old ++ filter (is_hit from end) (take (i + 1) xs)
more_hits xs i from end slot old before after inside at so_far then =
    rw (then, so_far, at slot, take_more xs i slot inside, filter-append (is_hit from end) (take i xs) (get_or xs i slot ∷ []), append_assoc) refl

pub one_hit : (from end : ℕ) (slot : Slot) → is_hit from end slot ≡ true → filter (is_hit from end) (slot ∷ []) ≡ slot ∷ []
one_hit from end slot hit = rw hit refl
