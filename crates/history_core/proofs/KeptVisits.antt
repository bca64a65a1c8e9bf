-- Visits that equal others except for their parts and what has become of them.
use Rattle.std.proofs.Common.{◌≡◌, ◌∙◌, ◌<◌, ◌≤◌, ◌+◌, ◌-◌, ◌∷◌, [], ℕ, zero, suc, Bool, true, false, List, length, nat_le, Some, refl, sym, ap, subst, arith, inl, inr, if◌then◌else◌}
use Rattle.std.specs.Prelude.{slice_get, slice_set}
use Rattle.std.proofs.lemmas.Bool.{cases_lt}
use Rattle.std.proofs.lemmas.Bool.Decides.{nat_tests}
use Rattle.apron_base.specs.Histories.{Every}
use Rattle.apron_base.specs.declared.numbers.VisitNo.{VisitNo}
use Rattle.visit_book.specs.declared.visits.Visit.{Visit}
use Rattle.visit_book.specs.Numbers.{IsNumbered, IsNumberedAbove, has_number, visit_at, with_visit}
use Rattle.visit_book.proofs.ByPlace.{visit_at-below, visit_at-outside, visit_at-place}
use Rattle.plan_core.specs.PlanState.{IsSameVisit, put_one}

-- a visit after another: the same except for its parts and what has become of it
pub record IsKept (old new : Visit) : Type 0 where
  pub number : new.number ≡ old.number
  pub same : IsSameVisit new old
  pub edited : new.edited ≡ old.edited

-- visits after others, one by one
abbrev pub AreKept : List Visit → List Visit → Type 0
AreKept [] [] = Unit {0}
AreKept (old ∷ olds) (new ∷ news) = IsKept old new × AreKept olds news
AreKept [] (new ∷ news) = ⊥
AreKept (old ∷ olds) [] = ⊥

kept_itself : (visit : Visit) → IsKept visit visit
kept_itself visit = record { number = refl; same = record { new = refl; added = refl }; edited = refl }

pub all_themselves : (visits : List Visit) → AreKept visits visits
all_themselves [] = tt
all_themselves (visit ∷ visits) = (kept_itself visit, all_themselves visits)

kept_twice : (first second third : Visit) → IsKept first second → IsKept second third → IsKept first third
kept_twice first second third is after = record {
  number = after.number ∙ is.number;
  same = record { new = after.same.new ∙ is.same.new; added = after.same.added ∙ is.same.added };
  edited = after.edited ∙ is.edited;
}

pub all_twice : (firsts seconds thirds : List Visit) → AreKept firsts seconds → AreKept seconds thirds → AreKept firsts thirds
all_twice [] [] [] kept after = tt
all_twice (first ∷ firsts) (second ∷ seconds) (third ∷ thirds) kept after =
    (kept_twice first second third kept.0 after.0, all_twice firsts seconds thirds kept.1 after.1)
all_twice [] [] (third ∷ thirds) kept after = absurd after
all_twice [] (second ∷ seconds) thirds kept after = absurd kept
all_twice (first ∷ firsts) [] thirds kept after = absurd kept
all_twice (first ∷ firsts) (second ∷ seconds) [] kept after = absurd after

-- there are as many
pub kept_length : (olds news : List Visit) → AreKept olds news → length news ≡ length olds
kept_length [] [] kept = refl
kept_length (old ∷ olds) (new ∷ news) kept = let rest : length news ≡ length olds = kept_length olds news kept.1 in omega arith
kept_length [] (new ∷ news) kept = absurd kept
kept_length (old ∷ olds) [] kept = absurd kept

-- they are numbered as before
pub kept_numbered : (number : ℕ) (olds news : List Visit) → AreKept olds news → IsNumberedAbove number olds → IsNumberedAbove number news
kept_numbered number [] [] kept numbered = tt
kept_numbered number (old ∷ olds) (new ∷ news) kept numbered =
    let same : new.number ≡ old.number = kept.0.number in
    (ap (λ (n : VisitNo). n.0) same ∙ numbered.0, kept_numbered (number + 1) olds news kept.1 numbered.1)
kept_numbered number [] (new ∷ news) kept numbered = absurd kept
kept_numbered number (old ∷ olds) [] kept numbered = absurd kept

-- what a kept visit keeps, all keep
module _ (P : Visit → Type 0) (keeps : (old new : Visit) → IsKept old new → P old → P new) where
  pub all_kept : (olds news : List Visit) → AreKept olds news → Every P olds → Every P news
  all_kept [] [] kept all = tt
  all_kept (old ∷ olds) (new ∷ news) kept all = (keeps old new kept.0 all.0, all_kept olds news kept.1 all.1)
  all_kept [] (new ∷ news) kept all = absurd kept
  all_kept (old ∷ olds) [] kept all = absurd kept

-- a visit in the place of its earlier self
kept_first : (first before new : Visit) (visits : List Visit) (here : Bool) → has_number new.number first ≡ here
    → (if here then Some first else visit_at visits new.number) ≡ Some before → IsKept before new
    → (visit_at visits new.number ≡ Some before → AreKept visits (with_visit visits new))
    → AreKept (first ∷ visits) (if here then new ∷ visits else first ∷ with_visit visits new)
kept_first first before new visits true is found kept later =
    let same : before ≡ first = cc in (subst (λ (v : Visit). IsKept v new) same kept, all_themselves visits)
kept_first first before new visits false is found kept later = (kept_itself first, later found)

pub kept_with : (visits : List Visit) (before new : Visit) → visit_at visits new.number ≡ Some before → IsKept before new → AreKept visits (with_visit visits new)
kept_with [] before new found kept = tt
kept_with (first ∷ visits) before new found kept =
    kept_first first before new visits (has_number new.number first) refl found kept (λ later. kept_with visits before new later kept)

kept_set : (place : ℕ) (visits : List Visit) (before new : Visit) → slice_get visits place ≡ Some before → IsKept before new → AreKept visits (slice_set visits place new)
kept_set place [] before new found kept = tt
kept_set zero (first ∷ visits) before new found kept =
    let same : before ≡ first = cc in (subst (λ (v : Visit). IsKept v new) same kept, all_themselves visits)
kept_set (suc place) (first ∷ visits) before new found kept = (kept_itself first, kept_set place visits before new found kept)

-- a visit that is found has a number from 1 to the number of visits
found_within : (visits : List Visit) (number : VisitNo) (visit : Visit) → IsNumbered visits → visit_at visits number ≡ Some visit
    → (0 < number.0) × (number.0 ≤ length visits)
found_within visits number visit numbered found = elim (cases_lt 0 number.0) [
  | inl some ↦ elim (cases_lt (length visits) number.0) [
    | inl past ↦ absurd (let none = visit_at-outside visits number numbered (λ _. past) in cc)
    | inr within ↦ (some, within)
  ]
  | inr below ↦ absurd (let none = visit_at-below 0 visits number numbered below in cc)
]

pub kept_put : (visits : List Visit) (before new : Visit) → IsNumbered visits → visit_at visits new.number ≡ Some before → IsKept before new
    → AreKept visits (put_one visits new)
kept_put visits before new numbered found kept =
    let within = found_within visits new.number before numbered found in
    let test : nat_le new.number.0 (length visits) ≡ true = grind (arith, nat_tests, within.1) in
    rw test (kept_set (new.number.0 - 1) visits before new (sym (visit_at-place 0 visits new.number numbered within.0) ∙ found) kept)
