-- A row found by the place of its name.
use Rattle.std.proofs.Common.{◌≡◌, ◌∙◌, ◌<◌, ◌≤◌, ℕ, Bool, true, false, cond, List, [], ◌∷◌, length, map, get_or, refl, sym, arith, None, Some}
use Rattle.std.specs.Prelude.{position, find, not}
use Rattle.std.specs.List.{prefix_len, position_or_len}
use Rattle.std.proofs.lemmas.Bool.{ltb-true, ltb-false}
use Rattle.std.proofs.lemmas.List.{length-map}
use Rattle.std.proofs.lemmas.List.Folds.{find_at}
use Rattle.std.proofs.lemmas.Option.{cond_some, slice_get_read, slice_get_past}

prefix_map : {X Y : Type 0} (p : Y → Bool) (f : X → Y) (xs : List X) → prefix_len p (map f xs) ≡ prefix_len (λ x. p (f x)) xs
prefix_map p f [] = refl
prefix_map p f (x ∷ xs) = rw (prefix_map p f xs) refl

none_is : (b : Bool) (k : ℕ) → cond b (Some k) None ≡ None → b ≡ false
none_is true k e = absurd (cc)
none_is false k e = refl

-- the place among what f gives is the place of the first such item
pub found_some : {X Y : Type 0} (p : Y → Bool) (f : X → Y) (xs : List X) (k : ℕ) (x : X) → position p (map f xs) ≡ Some k → x ≡ get_or xs k x → find (λ y. p (f y)) xs ≡ Some x
found_some p f xs k x e at =
    let h = cond_some _ _ k e in
    let same : position_or_len (λ y. p (f y)) xs ≡ k = sym (prefix_map (λ y. not (p y)) f xs) ∙ h.1 in
    let below : position_or_len p (map f xs) < length (map f xs) = ltb-true _ _ h.0 in
    let within : k < length xs = omega (arith, h.1, below, length-map xs f) in
    find_at (λ y. p (f y)) xs ∙ (rw same (slice_get_read xs (length xs) k x refl within at))

pub found_none : {X Y : Type 0} (p : Y → Bool) (f : X → Y) (xs : List X) → position p (map f xs) ≡ None → find (λ y. p (f y)) xs ≡ None
found_none p f xs e =
    let same : position_or_len (λ y. p (f y)) xs ≡ position_or_len p (map f xs) = sym (prefix_map (λ y. not (p y)) f xs) in
    let past : length (map f xs) ≤ position_or_len p (map f xs) = ltb-false _ _ (none_is _ _ e) in
    let over : length xs ≤ position_or_len (λ y. p (f y)) xs = omega (arith, same, past, length-map xs f) in
    find_at (λ y. p (f y)) xs ∙ slice_get_past xs (position_or_len (λ y. p (f y)) xs) over
