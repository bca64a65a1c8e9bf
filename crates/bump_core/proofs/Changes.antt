-- The visits that an entry changes, put in their old places.
use Rattle.std.proofs.Common.{◌≡◌, ◌∙◌, ◌<◌, ◌≤◌, ◌+◌, ◌-◌, ◌++◌, ◌∷◌, [], ℕ, zero, suc, Bool, true, false, List, Some, length, map, refl, sym, ap, arith, inl, inr, nat_le, append_assoc, length-append}
use Rattle.std.specs.Prelude.{All, filter, slice_set}
use Rattle.std.specs.List.{AllByRecursion}
use Rattle.std.proofs.lemmas.Bool.Decides.{nat_tests}
use Rattle.std.proofs.lemmas.List.Elements.{All-from_recursion}
use Rattle.apron_base.specs.Histories.{Rises}
use Rattle.visit_book.specs.declared.visits.Visit.{Visit}
use Rattle.visit_book.specs.Numbers.{IsNumbered, IsNumberedAbove, has_number, visit_at}
use Rattle.plan_core.specs.PlanState.{put_in, put_one, visit_number}
use Rattle.plan_core.proofs.Puts.{rises_from}
use Rattle.bump_core.specs.Bumped.{bumped_by, bumped_of}
use Rattle.bump_core.proofs.Rounds.{Among}

set_at : (pre post : List Visit) (old new : Visit) (i : ℕ) → i ≡ length pre → slice_set (pre ++ old ∷ post) i new ≡ pre ++ new ∷ post
set_at [] post old new zero e = refl
set_at [] post old new (suc i) e = absurd (omega arith)
set_at (visit ∷ pre) post old new zero e = absurd (omega arith)
set_at (visit ∷ pre) post old new (suc i) e = ap (λ vs. visit ∷ vs) (set_at pre post old new i (omega arith))

-- a visit is put in at the place of the one of its number
put_one_at : (pre post : List Visit) (old new : Visit) → new.number.0 ≡ length pre + 1 → put_one (pre ++ old ∷ post) new ≡ pre ++ new ∷ post
put_one_at pre post old new e =
    let within : nat_le new.number.0 (length (pre ++ old ∷ post)) ≡ true = grind (arith, nat_tests, length-append pre (old ∷ post)) in
    rw within (set_at pre post old new (new.number.0 - 1) (omega arith))

-- what becomes of visits: each keeps its number, and those that fail a test stay
pub record KeepsOthers (f : Visit → Visit) (test : Visit → Bool) : Type 0 where
  pub number : (visit : Visit) → (f visit).number.0 ≡ visit.number.0
  pub stays : (visit : Visit) → test visit ≡ false → f visit ≡ visit

-- the visits that pass the test, after the change
abbrev pub changed : (Visit → Visit) → (Visit → Bool) → List Visit → List Visit
changed f test visits = map f (filter test visits)

put_step : (f : Visit → Visit) (test : Visit → Bool) (pre visits : List Visit) (visit : Visit) (b : Bool) → KeepsOthers f test → test visit ≡ b
    → visit.number.0 ≡ length pre + 1 → ((w : Visit) → put_in ((pre ++ w ∷ []) ++ visits) (changed f test visits) ≡ (pre ++ w ∷ []) ++ map f visits)
    → put_in (pre ++ visit ∷ visits) (changed f test (visit ∷ visits)) ≡ pre ++ map f (visit ∷ visits)
put_step f test pre visits visit true keeps is number rest =
    let w : Visit = f visit in
    rw is (ap (λ vs. put_in vs (changed f test visits)) (put_one_at pre visits visit w (keeps.number visit ∙ number) ∙ sym (append_assoc pre (w ∷ []) visits))
    ∙ (rest w ∙ append_assoc pre (w ∷ []) (map f visits)))
put_step f test pre visits visit false keeps is number rest =
    rw (is, keeps.stays visit is) (ap (λ vs. put_in vs (changed f test visits)) (sym (append_assoc pre (visit ∷ []) visits))
    ∙ (rest visit ∙ append_assoc pre (visit ∷ []) (map f visits)))

put_behind : (f : Visit → Visit) (test : Visit → Bool) (pre visits : List Visit) (base : ℕ) → KeepsOthers f test → base ≡ length pre
    → IsNumberedAbove base visits
    → put_in (pre ++ visits) (changed f test visits) ≡ pre ++ map f visits
put_behind f test pre [] base keeps long h = refl
put_behind f test pre (visit ∷ visits) base keeps long h =
    put_step f test pre visits visit (test visit) keeps refl (omega (arith, h.0))
    (λ w. put_behind f test (pre ++ w ∷ []) visits (base + 1) keeps (omega (arith, length-append pre (w ∷ []))) h.1)

-- putting the changed ones in gives the visits after the change
pub put_changed : (f : Visit → Visit) (test : Visit → Bool) (visits : List Visit) → KeepsOthers f test → IsNumbered visits
    → put_in visits (changed f test visits) ≡ map f visits
put_changed f test visits keeps h = put_behind f test [] visits 0 keeps refl h

rise_first : (f : Visit → Visit) (test : Visit → Bool) (base high : ℕ) (visit : Visit) (visits : List Visit) (b : Bool) → KeepsOthers f test → test visit ≡ b
    → visit.number.0 ≡ base + 1 → Rises visit_number (base + 1 + 1) high (changed f test visits)
    → Rises visit_number (base + 1) high (changed f test (visit ∷ visits))
rise_first f test base high visit visits true keeps is number rest =
    let own : (f visit).number.0 ≡ base + 1 = keeps.number visit ∙ number in
    rw is (omega arith, rises_from ((f visit).number.0 + 1) (base + 1 + 1) high (changed f test visits) (omega arith) rest)
rise_first f test base high visit visits false keeps is number rest =
    rw is (rises_from (base + 1) (base + 1 + 1) high (changed f test visits) (omega arith) rest)

-- their numbers rise
pub changed_rise : (f : Visit → Visit) (test : Visit → Bool) (base high : ℕ) (visits : List Visit) → KeepsOthers f test → base + length visits + 1 ≤ high
    → IsNumberedAbove base visits → Rises visit_number (base + 1) high (changed f test visits)
changed_rise f test base high [] keeps le h = omega arith
changed_rise f test base high (visit ∷ visits) keeps le h =
    rise_first f test base high visit visits (test visit) keeps refl h.0 (changed_rise f test (base + 1) high visits keeps (omega arith) h.1)

all_first : (P : Visit → Type 0) (f : Visit → Visit) (test : Visit → Bool) (visit : Visit) (visits : List Visit) (b : Bool) → test visit ≡ b
    → (b ≡ true → P (f visit))
    → AllByRecursion P (changed f test visits) → AllByRecursion P (changed f test (visit ∷ visits))
all_first P f test visit visits true is p rest = rw is (p refl, rest)
all_first P f test visit visits false is p rest = rw is rest

all_by : (P : Visit → Type 0) (f : Visit → Visit) (test : Visit → Bool) (visits : List Visit)
    → ((visit : Visit) → Among visit visits → test visit ≡ true → P (f visit))
    → AllByRecursion P (changed f test visits)
all_by P f test [] h = tt
all_by P f test (visit ∷ visits) h =
    all_first P f test visit visits (test visit) refl (h visit (inl refl)) (all_by P f test visits (λ other in'. h other (inr in')))

-- what holds of each visit that passes, after the change, holds of the changed ones
pub changed_all : (P : Visit → Type 0) (f : Visit → Visit) (test : Visit → Bool) (visits : List Visit)
    → ((visit : Visit) → Among visit visits → test visit ≡ true → P (f visit)) → All P (changed f test visits)
changed_all P f test visits h = All-from_recursion P (changed f test visits) (all_by P f test visits h)

bumped_first : (f : Visit → Visit) (test : Visit → Bool) (entry : ℕ) (visit : Visit) (visits : List Visit) (b : Bool) → KeepsOthers f test → test visit ≡ b
    → bumped_of entry visit ≡ [] → bumped_by entry (changed f test visits) ≡ bumped_by entry (map f visits)
    → bumped_by entry (changed f test (visit ∷ visits)) ≡ bumped_by entry (map f (visit ∷ visits))
bumped_first f test entry visit visits true keeps is none rest = rw is (ap (λ ids. bumped_of entry (f visit) ++ ids) rest)
bumped_first f test entry visit visits false keeps is none rest =
    let nothing : bumped_of entry (f visit) ≡ [] = ap (bumped_of entry) (keeps.stays visit is) ∙ none in
    rw (is, nothing) rest

-- if no visit had lost a stand by the entry, the changed ones have all the parts that do
pub changed_bumped : (f : Visit → Visit) (test : Visit → Bool) (entry : ℕ) (visits : List Visit) → KeepsOthers f test
    → AllByRecursion (λ visit. bumped_of entry visit ≡ []) visits → bumped_by entry (changed f test visits) ≡ bumped_by entry (map f visits)
changed_bumped f test entry [] keeps h = refl
changed_bumped f test entry (visit ∷ visits) keeps h =
    bumped_first f test entry visit visits (test visit) keeps refl h.0 (changed_bumped f test entry visits keeps h.1)

-- a visit has a number above that before the first
pub number_above : (base : ℕ) (visits : List Visit) (visit : Visit) → IsNumberedAbove base visits → Among visit visits → base < visit.number.0
number_above base [] visit h in' = absurd in'
number_above base (first ∷ visits) visit h in' = elim in' [
  | inl here ↦ omega (arith, h.0, ap (λ (v : Visit). v.number.0) here)
  | inr there ↦ omega (arith, number_above (base + 1) visits visit h.1 there)
]

found_above : (base : ℕ) (visits : List Visit) (visit : Visit) → IsNumberedAbove base visits → Among visit visits → visit_at visits visit.number ≡ Some visit
found_above base [] visit h in' = absurd in'
found_above base (first ∷ visits) visit h in' = elim in' [
  | inl here ↦
      let same : visit.number.0 ≡ first.number.0 = ap (λ (v : Visit). v.number.0) here in
      let yes : has_number visit.number first ≡ true = grind (arith, nat_tests) in
      rw yes (ap (λ (v : Visit). Some v) (sym here))
  | inr there ↦
      let above : base + 1 < visit.number.0 = number_above (base + 1) visits visit h.1 there in
      let no' : has_number visit.number first ≡ false = grind (arith, nat_tests, h.0) in
      rw no' (found_above (base + 1) visits visit h.1 there)
]

-- each visit is found by its number
pub found_there : (visits : List Visit) (visit : Visit) → IsNumbered visits → Among visit visits → visit_at visits visit.number ≡ Some visit
found_there visits visit h in' = found_above 0 visits visit h in'
