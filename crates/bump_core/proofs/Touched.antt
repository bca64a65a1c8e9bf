-- The visits that change, collected one by one.
use Rattle.std.proofs.Common.{◌≡◌, ◌∙◌, ◌<◌, ◌+◌, ◌==◌, ◌||◌, ℕ, Bool, true, false, List, [], ◌∷◌, None, Some, refl, sym, ap, length, take, slice_index_or}
use Rattle.std.specs.List.{list_any}
use Rattle.std.proofs.lemmas.List.Folds.{list_any_more}
use Rattle.apron_base.specs.declared.numbers.VisitNo.{VisitNo}
use Rattle.visit_book.specs.declared.visits.Visit.{Visit}
use Rattle.visit_book.specs.Numbers.{IsNumbered, visit_at}
use Rattle.plan_core.specs.Working.{with_visit_once}
use Rattle.plan_core.proofs.ByNumber.{only}
use Rattle.plan_core.proofs.Once.{once_only, only_alike, only_none}
use Rattle.bump_core.specs.declared.ranks.Conflict.{Conflict}
use Rattle.bump_core.specs.Lists.{is_in, is_touched, touched_visits}

-- the visit of one more number, if there is one
pub adds_found : (visits before after : List Visit) (number : VisitNo) (visit : Visit) → IsNumbered visits → visit_at visits number ≡ Some visit
    → after ≡ with_visit_once before visit → (test : ℕ → Bool) → before ≡ only test visits → after ≡ only (λ n. test n || number.0 == n) visits
adds_found visits before after number visit h at put test so_far =
    put ∙ (ap (λ vs. with_visit_once vs visit) so_far ∙ once_only test number visits visit h at)

pub adds_none : (visits before after : List Visit) (number : VisitNo) → visit_at visits number ≡ None → after ≡ before
    → (test : ℕ → Bool) → before ≡ only test visits → after ≡ only (λ n. test n || number.0 == n) visits
adds_none visits before after number none same test so_far = same ∙ (so_far ∙ sym (only_none test number visits none))

-- at first there is the changed one
none_only : (visits : List Visit) → [] ≡ only (λ n. false) visits
none_only [] = refl
none_only (visit ∷ visits) = none_only visits

or_last : (a b c : Bool) → ((a || b) || c) ≡ ((a || c) || b)
or_last true b c = refl
or_last false true true = refl
or_last false true false = refl
or_last false false true = refl
or_last false false false = refl

pub touched_first : (visits before after : List Visit) (changed : VisitNo) → before ≡ []
    → ((test : ℕ → Bool) → before ≡ only test visits → after ≡ only (λ n. test n || changed.0 == n) visits) → after ≡ touched_visits [] changed visits
touched_first visits before after changed empty adds = adds (λ n. false) (empty ∙ none_only visits)

-- the visit of one more blocked part
pub touched_more : (found : List Conflict) (i : ℕ) (d : Conflict) (changed : VisitNo) (visits before after : List Visit) → i < length found
    → before ≡ touched_visits (take i found) changed visits
    → ((test : ℕ → Bool) → before ≡ only test visits → after ≡ only (λ n. test n || (slice_index_or found i d).blocked.slot.part.visit.0 == n) visits)
    → after ≡ touched_visits (take (i + 1) found) changed visits
touched_more found i d changed visits before after within so_far adds =
    let part : ℕ = (slice_index_or found i d).blocked.slot.part.visit.0 in
    adds (is_touched (take i found) changed) so_far
    ∙ only_alike (λ n. is_touched (take i found) changed n || part == n) (is_touched (take (i + 1) found) changed) visits
    (λ n. or_last (list_any (is_in n) (take i found)) (changed.0 == n) (part == n)
    ∙ ap (λ b. b || changed.0 == n) (sym (list_any_more (is_in n) found i d within)))
