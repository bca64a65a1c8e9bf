-- A visit that comes into a plan.
use Rattle.std.proofs.Common.{◌≡◌, ◌<◌, ◌+◌, ◌∙◌, ℕ, false, List, [], ◌∷◌, ◌++◌, append-nil, refl, arith, ap, length, nat_le, sym, subst, None}
use Rattle.std.proofs.lemmas.Bool.Decides.{nat_tests}
use Rattle.std.specs.Prelude.{All}
use Rattle.std.proofs.lemmas.List.Elements.{All-from_recursion}
use Rattle.apron_base.specs.declared.slot.Slot.{Slot}
use Rattle.apron_rules.specs.Clash.{IsSound}
use Rattle.visit_book.specs.declared.visits.Bump.{Bump}
use Rattle.visit_book.specs.declared.visits.Place.TheVariants.{Unplaced}
use Rattle.visit_book.specs.declared.visits.Visit.{Visit}
use Rattle.visit_book.specs.NewVisits.{new_of}
use Rattle.visit_book.specs.Numbers.{visit_at}
use Rattle.visit_book.specs.Slots.{slots_of, slots_of_visit}
use Rattle.visit_book.proofs.ByPlace.{visit_at-outside}
use Rattle.plan_core.specs.Adding.{IsAddable, add_change, next_visit, with_added}
use Rattle.plan_core.specs.PlanState.{ChangeState, HasBump, IsInstallable, IsPlan, IsVisitAt, KeepsOrAdds, PlanState, plan_after_change, put_one, version_limit}
use Rattle.plan_core.proofs.Bumps.{no_bump_in}
use Rattle.plan_core.proofs.SlotLists.{slots_of-push}

-- the visit has the next number
added_number : (plan : PlanState) (visit : Visit) → IsAddable plan visit → visit.number.0 ≡ length plan.visits + 1
added_number plan visit h = ap (λ (v : Visit). v.number.0) h.is

-- so it comes last
put_last : (plan : PlanState) (visit : Visit) → IsAddable plan visit → put_one plan.visits visit ≡ plan.visits ++ visit ∷ []
put_last plan visit h =
    let number : visit.number.0 ≡ length plan.visits + 1 = added_number plan visit h in
    let past : nat_le visit.number.0 (length plan.visits) ≡ false = grind (arith, nat_tests) in
    rw past refl

-- the change that adds a visit makes the plan that has it last
pub adding_adds : (plan : PlanState) (visit : Visit) → IsAddable plan visit → plan_after_change plan (add_change plan visit) ≡ with_added plan (new_of visit)
adding_adds plan visit h =
    let visits : put_one plan.visits visit ≡ plan.visits ++ next_visit plan (new_of visit) ∷ [] =
    put_last plan visit h ∙ ap (λ (v : Visit). plan.visits ++ v ∷ []) h.is in
    plan_is plan (put_one plan.visits visit) (plan.visits ++ next_visit plan (new_of visit) ∷ []) visits
  where
    plan_is : (plan : PlanState) (vs ws : List Visit) → vs ≡ ws
        → ◌≡◌ {A = PlanState} (record { airport = plan.airport; visits = vs; drafts = plan.drafts; version = plan.version + 1 })
        (record { airport = plan.airport; visits = ws; drafts = plan.drafts; version = plan.version + 1 })
    plan_is plan vs ws same = cc

-- it holds no stand yet
no_slots : (plan : PlanState) (visit : Visit) → IsAddable plan visit → slots_of plan.airport (visit ∷ []) ≡ []
no_slots plan visit h = ap (λ (v : Visit). slots_of plan.airport (v ∷ [])) h.is

-- and has no record of what took one
no_bump : (plan : PlanState) (visit : Visit) → IsAddable plan visit → (bump : Bump) → HasBump visit.parts bump → ⊥
no_bump plan visit h bump has =
    let parts : visit.parts ≡ (next_visit plan (new_of visit)).parts = ap (λ (v : Visit). v.parts) h.is in
    no_bump_in visit.parts (subst (All (λ part. part.place ≡ Unplaced None)) (sym parts)
    (All-from_recursion (λ part. part.place ≡ Unplaced None) (next_visit plan (new_of visit)).parts (refl, tt))) bump has

-- so the plan with it is sound
added_sound : (plan : PlanState) (visit : Visit) → IsAddable plan visit → IsSound plan.airport (slots_of plan.airport plan.visits)
    → IsSound plan.airport (slots_of plan.airport (put_one plan.visits visit))
added_sound plan visit h sound =
    let none : slots_of_visit plan.airport visit ≡ [] = ap (slots_of_visit plan.airport) h.is in
    let same : slots_of plan.airport (put_one plan.visits visit) ≡ slots_of plan.airport plan.visits =
    ap (slots_of plan.airport) (put_last plan visit h) ∙ (slots_of-push plan.airport plan.visits visit
    ∙ (ap (λ slots. slots_of plan.airport plan.visits ++ slots) none ∙ append-nil (slots_of plan.airport plan.visits))) in
    subst (IsSound plan.airport) (sym same) sound

adds_new : (plan : PlanState) (visit : Visit) → IsPlan plan → IsAddable plan visit → KeepsOrAdds plan.visits visit
adds_new plan visit plan_is h =
    let number : visit.number.0 ≡ length plan.visits + 1 = added_number plan visit h in
    let none : visit_at plan.visits visit.number ≡ None = visit_at-outside plan.visits visit.number plan_is.numbered (λ some. omega arith) in
    rw none h.name

-- a change that is of no draft
abbrev pub of_no_draft : List Visit → List Slot → ℕ → ChangeState
of_no_draft visits slots version = record { visits = visits; slots = slots; draft = None; version = version }

pub of_no_draft_is : (vs ws : List Visit) (ss ts : List Slot) (m n : ℕ) → vs ≡ ws → ss ≡ ts → m ≡ n → of_no_draft vs ss m ≡ of_no_draft ws ts n
of_no_draft_is vs ws ss ts m n e f g = cc

-- a visit that a plan may be asked to add can be installed
pub adding_fits : (plan : PlanState) (visit : Visit) → IsPlan plan → IsAddable plan visit → plan.version + 1 < version_limit → IsInstallable plan (add_change plan visit)
adding_fits plan visit plan_is h last = record {
  version = refl;
  last = last;
  each = All-from_recursion (IsVisitAt plan.airport (plan.version + 1)) (visit ∷ []) (
    record {
      well_formed = h.well_formed;
      new = h.new;
      added_some = omega (arith, ap (λ (v : Visit). v.added) h.is);
      added = omega (arith, ap (λ (v : Visit). v.added) h.is);
      edited = omega (arith, ap (λ (v : Visit). v.edited) h.is);
      bumped = λ bump has. absurd (no_bump plan visit h bump has);
    },
    tt,
  );
  rise = (omega (arith, added_number plan visit h), omega (arith, added_number plan visit h));
  same = All-from_recursion (KeepsOrAdds plan.visits) (visit ∷ []) (adds_new plan visit plan_is h, tt);
  slots = sym (no_slots plan visit h);
  draft = tt;
  sound = added_sound plan visit h plan_is.sound;
}
