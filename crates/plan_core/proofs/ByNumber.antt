-- Visits found and replaced by their numbers.
use Rattle.std.proofs.Common.{◌≡◌, ◌<◌, ◌≤◌, ◌+◌, ℕ, suc, Bool, true, false, List, [], ◌∷◌, refl, arith, length, sym, ap, ◌∙◌, Option, None, Some, not, nat_lt, cond}
use Rattle.std.specs.Prelude.{slice_get, slice_set, slice_index_or, find, position, filter}
use Rattle.std.specs.List.{position_or_len}
use Rattle.std.proofs.lemmas.Bool.Decides.{nat_tests}
use Rattle.std.proofs.lemmas.List.Folds.{find_at}
use Rattle.std.proofs.lemmas.List.Sums.{prefix_len-le-length}
use Rattle.std.proofs.lemmas.Option.{slice_get-get_or, slice_get_past}
use Rattle.apron_base.specs.declared.numbers.VisitNo.{VisitNo}
use Rattle.visit_book.specs.declared.visits.Visit.{Visit}
use Rattle.visit_book.specs.Numbers.{has_number, visit_at, with_visit}

-- the place of a visit that is found
place_is : (n m i : ℕ) (b : Bool) → nat_lt n m ≡ b → ◌≡◌ {A = Option ℕ} (cond b (Some n) None) (Some i) → (i ≡ n) × (i < m)
place_is n m i true is e = let same : n ≡ i = cc in (sym same, grind (arith, nat_tests))
place_is n m i false is e = absurd (cc)

place_past : (n m : ℕ) (b : Bool) → nat_lt n m ≡ b → ◌≡◌ {A = Option ℕ} (cond b (Some n) None) None → m ≤ n
place_past n m true is e = absurd (cc)
place_past n m false is e = grind (arith, nat_tests)

-- a place is the first at which the test passes
pub place_of : (p : Visit → Bool) (visits : List Visit) (i : ℕ) → position p visits ≡ Some i → (i ≡ position_or_len p visits) × (i < length visits)
place_of p visits i e = place_is (position_or_len p visits) (length visits) i (nat_lt (position_or_len p visits) (length visits)) refl e

pub no_place : (p : Visit → Bool) (visits : List Visit) → position p visits ≡ None → length visits ≤ position_or_len p visits
no_place p visits e = place_past (position_or_len p visits) (length visits) (nat_lt (position_or_len p visits) (length visits)) refl e

pub no_place_is : (p : Visit → Bool) (visits : List Visit) → position p visits ≡ None → position_or_len p visits ≡ length visits
no_place_is p visits e = omega (arith, no_place p visits e, prefix_len-le-length (λ (visit : Visit). not (p visit)) visits)

-- the visit at that place is the first visit that passes
pub found_by : (p : Visit → Bool) (visits : List Visit) (i : ℕ) (d : Visit) → position p visits ≡ Some i
    → (i < length visits) × (find p visits ≡ Some (slice_index_or visits i d))
found_by p visits i d e =
    let at = place_of p visits i e in
    let here : i ≡ position_or_len p visits = at.0 in
    (at.1, find_at p visits ∙ (ap (slice_get visits) (sym here) ∙ slice_get-get_or visits i d at.1))

-- if there is no place, no visit passes
pub not_found_by : (p : Visit → Bool) (visits : List Visit) → position p visits ≡ None → find p visits ≡ None
not_found_by p visits e = find_at p visits ∙ slice_get_past visits (position_or_len p visits) (no_place p visits e)

-- the visit at its place is the visit of the number
pub found_at : (visits : List Visit) (number : VisitNo) (i : ℕ) (d : Visit) → position (has_number number) visits ≡ Some i
    → (i < length visits) × (visit_at visits number ≡ Some (slice_index_or visits i d))
found_at visits number = found_by (has_number number) visits

-- there is no visit of a number that has no place
pub not_found : (visits : List Visit) (number : VisitNo) → position (has_number number) visits ≡ None → visit_at visits number ≡ None
not_found visits number = not_found_by (has_number number) visits

one_more : (n : ℕ) → 1 + n ≡ suc n
one_more n = omega arith

set_first : (other : Visit) (visits : List Visit) (v : Visit) (b : Bool) → has_number v.number other ≡ b
    → with_visit visits v ≡ slice_set visits (position_or_len (has_number v.number) visits) v
    → with_visit (other ∷ visits) v ≡ slice_set (other ∷ visits) (position_or_len (has_number v.number) (other ∷ visits)) v
set_first other visits v true is rest = rw is refl
set_first other visits v false is rest = rw (is, one_more (position_or_len (has_number v.number) visits)) (ap (λ vs. other ∷ vs) rest)

-- a visit is replaced in its place
pub with_visit_at : (visits : List Visit) (v : Visit) → with_visit visits v ≡ slice_set visits (position_or_len (has_number v.number) visits) v
with_visit_at [] v = refl
with_visit_at (other ∷ visits) v = set_first other visits v (has_number v.number other) refl (with_visit_at visits v)

abbrev number_of : ℕ → VisitNo
number_of n = record { 0 = n }

pub number_is : (m n : VisitNo) → m.0 ≡ n.0 → m ≡ n
number_is m n e = let same : number_of m.0 ≡ number_of n.0 = cc in same

pub with_visit_found : (visits : List Visit) (number : VisitNo) (v : Visit) (i : ℕ) → v.number.0 ≡ number.0
    → position (has_number number) visits ≡ Some i → with_visit visits v ≡ slice_set visits i v
with_visit_found visits number v i same e =
    let at = place_of (has_number number) visits i e in
    let is : i ≡ position_or_len (has_number v.number) visits = at.0 ∙ ap (λ n. position_or_len (has_number n) visits) (number_is number v.number (sym same)) in
    with_visit_at visits v ∙ ap (λ k. slice_set visits k v) (sym is)

found_first : (n : VisitNo) (other v : Visit) (visits : List Visit) (b : Bool) → has_number n other ≡ b → (visit_at visits n ≡ Some v → v.number.0 ≡ n.0)
    → cond b (Some other) (visit_at visits n) ≡ Some v → v.number.0 ≡ n.0
found_first n other v visits true is rest e = let same : other ≡ v = cc in ap (λ (x : Visit). x.number.0) (sym same) ∙ grind (arith, nat_tests)
found_first n other v visits false is rest e = rest e

-- the visit that is found has the number
pub found_number : (visits : List Visit) (n : VisitNo) (v : Visit) → visit_at visits n ≡ Some v → v.number.0 ≡ n.0
found_number [] n v e = absurd (cc)
found_number (other ∷ visits) n v e = found_first n other v visits (has_number n other) refl (found_number visits n v) e

-- the visits whose numbers pass a test
abbrev pub only : (ℕ → Bool) → List Visit → List Visit
only test visits = filter (λ visit. test visit.number.0) visits

only_first : (e : ℕ → Bool) (n : VisitNo) (other : Visit) (visits : List Visit) (b here : Bool) → e other.number.0 ≡ b → has_number n other ≡ here → e n.0 ≡ true
    → visit_at (only e visits) n ≡ visit_at visits n → visit_at (only e (other ∷ visits)) n ≡ visit_at (other ∷ visits) n
only_first e n other visits true here is at named rest = rw is (ap (cond (has_number n other) (Some other)) rest)
only_first e n other visits false true is at named rest =
    let same : other.number.0 ≡ n.0 = grind (arith, nat_tests) in absurd (cc)
only_first e n other visits false false is at named rest = rw (is, at) rest

-- among these the visit of such a number is the same
pub only_found : (e : ℕ → Bool) (visits : List Visit) (n : VisitNo) → e n.0 ≡ true → visit_at (only e visits) n ≡ visit_at visits n
only_found e [] n named = refl
only_found e (other ∷ visits) n named = only_first e n other visits (e other.number.0) (has_number n other) refl refl named (only_found e visits n named)

only_with_first : (e : ℕ → Bool) (v other : Visit) (visits : List Visit) (b here : Bool) → e other.number.0 ≡ b → has_number v.number other ≡ here
    → e v.number.0 ≡ true → with_visit (only e visits) v ≡ only e (with_visit visits v)
    → with_visit (only e (other ∷ visits)) v ≡ only e (with_visit (other ∷ visits) v)
only_with_first e v other visits true true is at named rest = rw (is, at, named) refl
only_with_first e v other visits true false is at named rest = rw (is, at, is) (ap (λ vs. other ∷ vs) rest)
only_with_first e v other visits false true is at named rest =
    let same : other.number.0 ≡ v.number.0 = grind (arith, nat_tests) in absurd (cc)
only_with_first e v other visits false false is at named rest = rw (is, at, is) rest

-- replacing a visit of such a number among these
pub only_with : (e : ℕ → Bool) (visits : List Visit) (v : Visit) → e v.number.0 ≡ true → with_visit (only e visits) v ≡ only e (with_visit visits v)
only_with e [] v named = refl
only_with e (other ∷ visits) v named =
    only_with_first e v other visits (e other.number.0) (has_number v.number other) refl refl named (only_with e visits v named)
