-- The places of a growing list of names.
use Rattle.std.proofs.Common.{◌≡◌, ◌∙◌, ◌<◌, ◌≤◌, ◌+◌, ◌==◌, ℕ, Bool, true, false, cond, List, [], ◌∷◌, ◌++◌, length, get_or, take, drop, refl, sym, arith, Option, None, Some}
use Rattle.std.specs.Prelude.{position, is_some, nat_lt}
use Rattle.std.specs.Option.{option_or}
use Rattle.std.specs.List.{position_or_len}
use Rattle.std.specs.Str.{bytes_eq}
use Rattle.std.specs.Ordering.{nat_cmp}
use Rattle.std.specs.Cmp.Lexicographic.{slice_cmp, bytes_decides}
use Rattle.std.specs.BTreeMap.{BTreeMap, Updates}
use Rattle.std.proofs.lemmas.Bool.{false≢true}
use Rattle.std.proofs.lemmas.Bool.Decides.{nat_tests}
use Rattle.std.proofs.Math.ListN.{length-take}
use Rattle.std.proofs.lemmas.List.Sums.{prefix_len-le-length}
use Rattle.std.proofs.lemmas.List.{length_push, take_more, drop_more, drop_all}
use Rattle.std.proofs.lemmas.List.Folds.{position_or_len_push}
use Rattle.std.proofs.lemmas.Map.Text.{is_eq-slice_cmp}
use Rattle.apron_rules.specs.Names.{place_of, is_known, repeated_after}
use Rattle.apron_rules.specs.Tables.{IsPlaces}
use Rattle.apron_rules.proofs.Symmetry.{bytes_eq_sym}

-- the next name is known already, and is the first of these
pub repeat_here : (names : List (List ℕ)) (i : ℕ) (name : List ℕ) → i < length names → name ≡ get_or names i name → is_known name (take i names) ≡ true
    → repeated_after (take i names) (drop i names) ≡ Some name
unfolding repeated_after
repeat_here names i name h at known = rw (drop_more names i name h, ← at, known) refl

pub repeat_next : (names : List (List ℕ)) (i : ℕ) (name : List ℕ) → i < length names → name ≡ get_or names i name → is_known name (take i names) ≡ false
    → repeated_after (take i names) (drop i names) ≡ repeated_after (take (i + 1) names) (drop (i + 1) names)
unfolding repeated_after
repeat_next names i name h at known = rw (drop_more names i name h, take_more names i name h, ← at, known) refl

pub repeat_end : (names : List (List ℕ)) (i : ℕ) → length names ≤ i → repeated_after (take i names) (drop i names) ≡ None
unfolding repeated_after
repeat_end names i h = rw (drop_all i names h) refl

push_by : (b : Bool) (k n : ℕ) → k ≤ n
    → cond (nat_lt (cond (k == n) (n + cond b 0 1) k) (n + 1)) (Some (cond (k == n) (n + cond b 0 1) k)) None ≡ option_or (cond (nat_lt k n) (Some k) None) (cond b (Some n) None)
push_by true k n h = grind (arith, nat_tests)
push_by false k n h = grind (arith, nat_tests)

position_push : {X : Type 0} (p : X → Bool) (xs : List X) (y : X) → position p (xs ++ y ∷ []) ≡ option_or (position p xs) (cond (p y) (Some (length xs)) None)
position_push p xs y =
    let k : position_or_len p xs ≤ length xs = prefix_len-le-length _ xs in
    rw (position_or_len_push p xs y, length_push xs y) (push_by (p y) (position_or_len p xs) (length xs) k)

none_or : {A : Type 0} (o : Option A) → option_or o None ≡ o
none_or None = refl
none_or (Some x) = refl

none_of : {A : Type 0} (o : Option A) → is_some o ≡ false → o ≡ None
none_of None h = refl
none_of (Some x) h = absurd (false≢true (sym h))

-- the place that an update gives, at the name or elsewhere
same_by : (b : Bool) (i j : ℕ) (before : Option ℕ) → i ≡ j → (b ≡ true → before ≡ None) → cond b (Some i) before ≡ option_or before (cond b (Some j) None)
same_by true i j before e h = rw (h refl, e) refl
same_by false i j before e h = sym (none_or before)

pub places_next : (names : List (List ℕ)) (i : ℕ) (name : List ℕ) (m n : BTreeMap (List ℕ) ℕ) → i < length names → name ≡ get_or names i name → is_known name (take i names) ≡ false
    → IsPlaces m (take i names) → Updates (slice_cmp nat_cmp) m n name (Some i) → IsPlaces n (take (i + 1) names)
places_next names i name m n h at known places updates q =
    let front : i ≡ length (take i names) = omega (arith, length-take i names) in
    let unknown : bytes_eq name q ≡ true → place_of q (take i names) ≡ None = λ same. rw (← (bytes_decides name q).0 same) (none_of (place_of name (take i names)) known) in
    let grown : place_of q (take (i + 1) names) ≡ option_or (place_of q (take i names)) (cond (bytes_eq q name) (Some (length (take i names))) None) =
    rw (take_more names i name h, ← at) (position_push (bytes_eq q) (take i names) name) in
    updates.0 q ∙ (rw (is_eq-slice_cmp name q, places q) (same_by (bytes_eq name q) i (length (take i names)) (place_of q (take i names)) front unknown) ∙ sym (rw (bytes_eq_sym q name) at grown))
