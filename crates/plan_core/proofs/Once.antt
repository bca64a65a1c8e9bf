-- Visits collected one by one in order of number.
use Rattle.std.proofs.Common.{◌≡◌, ◌<◌, ◌≤◌, ◌+◌, ◌==◌, ◌||◌, ◌∙◌, ℕ, suc, Bool, true, false, List, [], ◌∷◌, refl, arith, sym, ap, Option, None, Some, is_some, insert, length, take, slice_index_or, position, cond, nat_lt}
use Rattle.std.specs.List.{position_or_len}
use Rattle.std.proofs.lemmas.Bool.Decides.{nat_tests}
use Rattle.std.proofs.lemmas.List.Folds.{list_any_more}
use Rattle.apron_base.specs.declared.numbers.VisitNo.{VisitNo}
use Rattle.visit_book.specs.declared.visits.Visit.{Visit}
use Rattle.visit_book.specs.declared.edits.Edit.{Edit}
use Rattle.visit_book.specs.Edits.{visit_of}
use Rattle.visit_book.specs.Numbers.{IsNumbered, IsNumberedAbove, has_number, visit_at}
use Rattle.visit_book.proofs.ByPlace.{visit_at-below}
use Rattle.plan_core.specs.Edits.{edited_visits, is_edited, is_of_visit}
use Rattle.plan_core.specs.Working.{is_from, with_visit_once}
use Rattle.plan_core.proofs.ByNumber.{found_at, found_number, not_found, number_is, only, only_found}

one_more : (n : ℕ) → 1 + n ≡ suc n
one_more n = omega arith

-- the visits with one put before those from its number on
abbrev placed : List Visit → Visit → List Visit
placed visits v = insert visits (position_or_len (is_from v.number) visits) v

placed_here : (other : Visit) (visits : List Visit) (v : Visit) → is_from v.number other ≡ true → placed (other ∷ visits) v ≡ v ∷ other ∷ visits
placed_here other visits v is = rw is refl

placed_later : (other : Visit) (visits : List Visit) (v : Visit) → is_from v.number other ≡ false → placed (other ∷ visits) v ≡ other ∷ placed visits v
placed_later other visits v is = rw (is, one_more (position_or_len (is_from v.number) visits)) refl

-- before visits of greater numbers it comes first
placed_first : (e : ℕ → Bool) (low : ℕ) (visits : List Visit) (v : Visit) → IsNumberedAbove low visits → v.number.0 ≤ low → placed (only e visits) v ≡ v ∷ only e visits
placed_first e low [] v h below = refl
placed_first e low (x ∷ visits) v h below = first (e x.number.0) refl (placed_first e (low + 1) visits v h.1 (omega arith))
  where
    first : (b : Bool) → e x.number.0 ≡ b → placed (only e visits) v ≡ v ∷ only e visits → placed (only e (x ∷ visits)) v ≡ v ∷ only e (x ∷ visits)
    first true is rest = rw is (placed_here x (only e visits) v (grind (arith, nat_tests, h.0)))
    first false is rest = rw is rest

-- the visits that pass a test, or have this number
abbrev with_number : (ℕ → Bool) → VisitNo → ℕ → Bool
with_number e m n = e n || (m.0 == n)

-- visits of greater numbers don't have this one
only_above : (e : ℕ → Bool) (m : VisitNo) (low : ℕ) (visits : List Visit) → IsNumberedAbove low visits → m.0 ≤ low → only (with_number e m) visits ≡ only e visits
only_above e m low [] h below = refl
only_above e m low (x ∷ visits) h below = first (e x.number.0) refl (only_above e m (low + 1) visits h.1 (omega arith))
  where
    other : (m.0 == x.number.0) ≡ false
    other = grind (arith, nat_tests, h.0)

    first : (b : Bool) → e x.number.0 ≡ b → only (with_number e m) visits ≡ only e visits → only (with_number e m) (x ∷ visits) ≡ only e (x ∷ visits)
    first true is rest = rw is (ap (λ vs. x ∷ vs) rest)
    first false is rest = rw (is, other) rest

either : (a b : Bool) → (b ≡ true → a ≡ true) → (a || b) ≡ a
either true b h = refl
either false true h = sym (h refl)
either false false h = refl

-- a number that passes the test changes nothing
only_same : (e : ℕ → Bool) (m : VisitNo) (visits : List Visit) → e m.0 ≡ true → only (with_number e m) visits ≡ only e visits
only_same e m [] named = refl
only_same e m (x ∷ visits) named =
    let is : (e x.number.0 || (m.0 == x.number.0)) ≡ e x.number.0 = either (e x.number.0) (m.0 == x.number.0) (same (m.0 == x.number.0) refl) in
    rw is (ap (λ vs. cond (e x.number.0) (x ∷ vs) vs) (only_same e m visits named))
  where
    same : (b : Bool) → (m.0 == x.number.0) ≡ b → b ≡ true → e x.number.0 ≡ true
    same b is t = let here : m.0 ≡ x.number.0 = grind (arith, nat_tests) in rw (← here) named

-- a number that does not pass it is not found
only_missing : (e : ℕ → Bool) (m : VisitNo) (visits : List Visit) → e m.0 ≡ false → visit_at (only e visits) m ≡ None
only_missing e m [] out = refl
only_missing e m (x ∷ visits) out = first (e x.number.0) (has_number m x) refl refl (only_missing e m visits out)
  where
    first : (b here : Bool) → e x.number.0 ≡ b → has_number m x ≡ here → visit_at (only e visits) m ≡ None → visit_at (only e (x ∷ visits)) m ≡ None
    first true true is at rest = let same : x.number.0 ≡ m.0 = grind (arith, nat_tests) in absurd (cc)
    first true false is at rest = rw (is, at) rest
    first false here is at rest = rw is rest

-- a visit that is found has a number above those before
found_above : (low : ℕ) (visits : List Visit) (m : VisitNo) (v : Visit) → IsNumberedAbove low visits → visit_at visits m ≡ Some v → low < m.0
found_above low visits m v h at = test (nat_lt low m.0) refl
  where
    test : (b : Bool) → nat_lt low m.0 ≡ b → low < m.0
    test true is = grind (arith, nat_tests)
    test false is =
        let none : visit_at visits m ≡ None = visit_at-below low visits m h (grind (arith, nat_tests)) in absurd (cc)

-- the visit put among those that pass the test is among those that pass it or have its number
placed_only : (e : ℕ → Bool) (m : VisitNo) (low : ℕ) (visits : List Visit) (v : Visit) → IsNumberedAbove low visits → visit_at visits m ≡ Some v → e m.0 ≡ false
    → placed (only e visits) v ≡ only (with_number e m) visits
placed_only e m low [] v h at out = absurd (cc)
placed_only e m low (x ∷ visits) v h at out =
    step (has_number m x) (e x.number.0) refl refl (λ later. placed_only e m (low + 1) visits v h.1 later out)
  where
    number : v.number.0 ≡ m.0
    number = found_number (x ∷ visits) m v at

    step : (here b : Bool) → has_number m x ≡ here → e x.number.0 ≡ b
        → (visit_at visits m ≡ Some v → placed (only e visits) v ≡ only (with_number e m) visits)
        → placed (only e (x ∷ visits)) v ≡ only (with_number e m) (x ∷ visits)
    step true true is named rest = let same : x.number.0 ≡ m.0 = grind (arith, nat_tests) in absurd (cc)
    step true false is named rest =
        let same : x.number.0 ≡ m.0 = grind (arith, nat_tests) in
        let first : ◌≡◌ {A = Option Visit} (Some x) (Some v) = rw is at at in
        let it : v ≡ x = cc in
        let here : (m.0 == x.number.0) ≡ true = grind (arith, nat_tests) in
        rw (named, here)
        (placed_first e (low + 1) visits v h.1 (omega (arith, h.0, same, number))
        ∙ (ap (λ (w : Visit). w ∷ only e visits) it ∙ ap (λ vs. x ∷ vs) (sym (only_above e m (low + 1) visits h.1 (omega (arith, h.0, same))))))
    step false true is named rest =
        let left : visit_at visits m ≡ Some v = rw is at at in
        let above : low + 1 < m.0 = found_above (low + 1) visits m v h.1 left in
        let later : is_from v.number x ≡ false = grind (arith, nat_tests, h.0, number, above) in
        rw named (placed_later x (only e visits) v later ∙ ap (λ vs. x ∷ vs) (rest left))
    step false false is named rest =
        let left : visit_at visits m ≡ Some v = rw is at at in
        let other : (m.0 == x.number.0) ≡ false = grind (arith, nat_tests) in
        rw (named, other) (rest left)

-- one more visit of those that pass a test
pub once_only : (e : ℕ → Bool) (m : VisitNo) (visits : List Visit) (v : Visit) → IsNumbered visits → visit_at visits m ≡ Some v
    → with_visit_once (only e visits) v ≡ only (λ n. e n || (m.0 == n)) visits
once_only e m visits v h at = step (e m.0) refl
  where
    same : v.number ≡ m
    same = number_is v.number m (found_number visits m v at)

    step : (b : Bool) → e m.0 ≡ b → with_visit_once (only e visits) v ≡ only (with_number e m) visits
    step true named =
        let found : visit_at (only e visits) v.number ≡ Some v =
        ap (visit_at (only e visits)) same ∙ (only_found e visits m named ∙ at) in
        rw found (sym (only_same e m visits named))
    step false named =
        let missing : visit_at (only e visits) v.number ≡ None = ap (visit_at (only e visits)) same ∙ only_missing e m visits named in
        rw missing (placed_only e m 0 visits v h at named)

-- a number that no visit has changes nothing
pub only_none : (e : ℕ → Bool) (m : VisitNo) (visits : List Visit) → visit_at visits m ≡ None → only (λ n. e n || (m.0 == n)) visits ≡ only e visits
only_none e m [] none = refl
only_none e m (x ∷ visits) none = step (has_number m x) (e x.number.0) refl refl (λ left. only_none e m visits left)
  where
    step : (here b : Bool) → has_number m x ≡ here → e x.number.0 ≡ b → (visit_at visits m ≡ None → only (with_number e m) visits ≡ only e visits)
        → only (with_number e m) (x ∷ visits) ≡ only e (x ∷ visits)
    step true b is named rest = let found : visit_at (x ∷ visits) m ≡ Some x = rw is refl in absurd (cc)
    step false true is named rest = rw named (ap (λ vs. x ∷ vs) (rest (rw is at none)))
    step false false is named rest =
        let other : (m.0 == x.number.0) ≡ false = grind (arith, nat_tests) in
        rw (named, other) (rest (rw is at none))

-- one more visit, unless one of its number is there
pub once_absent : (visits : List Visit) (v : Visit) (found : Option ℕ) → found ≡ position (has_number v.number) visits → is_some found ≡ false
    → with_visit_once visits v ≡ insert visits (position_or_len (is_from v.number) visits) v
once_absent visits v None is none = rw (not_found visits v.number (sym is)) refl
once_absent visits v (Some i) is none = absurd (cc)

pub once_present : (visits : List Visit) (v : Visit) (found : Option ℕ) → found ≡ position (has_number v.number) visits → is_some found ≡ true
    → with_visit_once visits v ≡ visits
once_present visits v None is some = absurd (cc)
once_present visits v (Some i) is some = rw (found_at visits v.number i v (sym is)).1 refl

pub only_alike : (e f : ℕ → Bool) (visits : List Visit) → ((n : ℕ) → e n ≡ f n) → only e visits ≡ only f visits
only_alike e f [] same = refl
only_alike e f (x ∷ visits) same = rw (same x.number.0) (ap (λ vs. cond (f x.number.0) (x ∷ vs) vs) (only_alike e f visits same))

-- without edits no visit is edited
pub edited_none : (visits : List Visit) → edited_visits [] visits ≡ []
edited_none [] = refl
edited_none (x ∷ visits) = edited_none visits

-- the visit of one more edit
pub edited_more : (edits : List Edit) (i : ℕ) (d : Edit) (visits : List Visit) (v : Visit) → i < length edits → IsNumbered visits
    → visit_at visits (visit_of (slice_index_or edits i d)) ≡ Some v
    → with_visit_once (edited_visits (take i edits) visits) v ≡ edited_visits (take (i + 1) edits) visits
edited_more edits i d visits v within h at =
    once_only (is_edited (take i edits)) (visit_of (slice_index_or edits i d)) visits v h at
    ∙ only_alike (λ n. is_edited (take i edits) n || ((visit_of (slice_index_or edits i d)).0 == n)) (is_edited (take (i + 1) edits)) visits
    (λ n. sym (list_any_more (is_of_visit n) edits i d within))

-- an edit of a visit that is not there
pub edited_no_more : (edits : List Edit) (i : ℕ) (d : Edit) (visits : List Visit) → i < length edits
    → visit_at visits (visit_of (slice_index_or edits i d)) ≡ None → edited_visits (take i edits) visits ≡ edited_visits (take (i + 1) edits) visits
edited_no_more edits i d visits within none =
    sym (only_none (is_edited (take i edits)) (visit_of (slice_index_or edits i d)) visits none)
    ∙ only_alike (λ n. is_edited (take i edits) n || ((visit_of (slice_index_or edits i d)).0 == n)) (is_edited (take (i + 1) edits)) visits
    (λ n. sym (list_any_more (is_of_visit n) edits i d within))
