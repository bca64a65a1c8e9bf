-- The restrictions of each stand, as they grow.
use Rattle.std.proofs.Common.{◌≡◌, ◌<◌, ◌==◌, ◌||◌, ◌&&◌, ℕ, Bool, true, false, List, [], ◌∷◌, ◌++◌, ◌+◌, length, get_or, set, take, zero, suc, refl, sym, arith, None, Some}
use Rattle.std.specs.List.{list_any}
use Rattle.std.proofs.lemmas.Bool.Decides.{nat_tests}
use Rattle.std.proofs.lemmas.List.Folds.{list_any-append, list_any_more}
use Rattle.apron_rules.specs.declared.links.StandPair.{StandPair}
use Rattle.apron_rules.specs.declared.parts.PairRow.{PairRow}
use Rattle.apron_rules.specs.Names.{place_of}
use Rattle.apron_rules.specs.Rules.{has_letter}
use Rattle.apron_rules.specs.Links.{is_place, pairs_at, is_barred, is_restricted_so_at, is_restricted_at}

or_false : (b : Bool) → (b || false) ≡ b
or_false true = refl
or_false false = refl

and_false : (b : Bool) → (b && false) ≡ false
and_false true = refl
and_false false = refl

-- one more restriction at one place
pub added_at : (pairs : List (List StandPair)) (place : ℕ) (kept grown : List StandPair) (pair : StandPair) → place < length pairs → kept ≡ get_or pairs place kept → grown ≡ kept ++ pair ∷ []
    → (test : StandPair → Bool) (s : ℕ) → list_any test (pairs_at (set pairs place grown) s) ≡ (list_any test (pairs_at pairs s) || (s == place && test pair))
added_at [] place kept grown pair inside at e test s = absurd (omega (arith, inside))
added_at (first ∷ pairs) zero kept grown pair inside at e test zero = rw (e, ← at, ← or_false (test pair)) (list_any-append test kept (pair ∷ []))
added_at (first ∷ pairs) zero kept grown pair inside at e test (suc s) = let apart : (suc s == 0) ≡ false = grind (arith, nat_tests) in rw apart (sym (or_false (list_any test (pairs_at pairs s))))
added_at (first ∷ pairs) (suc place) kept grown pair inside at e test zero = let apart : (0 == suc place) ≡ false = grind (arith, nat_tests) in rw apart (sym (or_false (list_any test first)))
added_at (first ∷ pairs) (suc place) kept grown pair inside at e test (suc s) = let next : (suc s == suc place) ≡ (s == place) = grind (arith, nat_tests) in rw next (added_at pairs place kept grown pair (omega (arith, inside)) at e test s)

or_assoc : (a b c : Bool) → ((a || b) || c) ≡ (a || (b || c))
or_assoc true b c = refl
or_assoc false b c = refl

-- the order in which the first stand's list has it
straight : (a b c d : Bool) → (a && (b && c && d)) ≡ (a && b && c && d)
straight true b c d = refl
straight false b c d = refl

-- the order in which the second stand's list has it
turned : (a b c d : Bool) → (a && (b && c && d)) ≡ (b && a && d && c)
turned true true true true = refl
turned true true true false = refl
turned true true false true = refl
turned true true false false = refl
turned true false c d = refl
turned false true c d = refl
turned false false c d = refl

-- a restriction of two stands bars the same as each of them sees it
pub added_both : (stands : List (List ℕ)) (row : PairRow) (a b : ℕ) (before : Bool) → place_of row.a stands ≡ Some a → place_of row.b stands ≡ Some b
    → (s s2 k l : ℕ)
    → ((before || (s == a && is_barred s2 k l (record { other = b; own = row.la; least = row.lb }))) || (s == b && is_barred s2 k l (record { other = a; own = row.lb; least = row.la })))
    ≡ (before || is_restricted_at stands s k s2 l row)
added_both stands row a b before at_a at_b s s2 k l =
    let first : (s == a && (s2 == b && has_letter row.la k && has_letter row.lb l)) ≡ is_restricted_so_at stands row s k s2 l =
    rw (at_a, at_b) (straight (s == a) (s2 == b) (has_letter row.la k) (has_letter row.lb l)) in
    let second : (s == b && (s2 == a && has_letter row.lb k && has_letter row.la l)) ≡ is_restricted_so_at stands row s2 l s k =
    rw (at_a, at_b) (turned (s == b) (s2 == a) (has_letter row.lb k) (has_letter row.la l)) in
    rw (first, second) (or_assoc before (is_restricted_so_at stands row s k s2 l) (is_restricted_so_at stands row s2 l s k))

-- a restriction that doesn't name a stand doesn't restrict it
pub added_none : (stands : List (List ℕ)) (row : PairRow) (s s2 k l : ℕ) (before : Bool) → place_of row.b stands ≡ None → before ≡ (before || is_restricted_at stands s k s2 l row)
added_none stands row s s2 k l before none =
    rw (none, and_false (is_place s (place_of row.a stands)), and_false (is_place s2 (place_of row.a stands))) (sym (or_false before))

-- one more row
pub any_next : (before after : Bool) (stands : List (List ℕ)) (rows : List PairRow) (i : ℕ) (row : PairRow) (s s2 k l : ℕ) → i < length rows → row ≡ get_or rows i row
    → before ≡ list_any (is_restricted_at stands s k s2 l) (take i rows) → after ≡ (before || is_restricted_at stands s k s2 l row)
    → after ≡ list_any (is_restricted_at stands s k s2 l) (take (i + 1) rows)
any_next before after stands rows i row s s2 k l inside at h e =
    rw (list_any_more (is_restricted_at stands s k s2 l) rows i row inside, ← at, ← h) e
