-- What edits leave as it is in each visit: all but its parts.
use Rattle.std.proofs.Common.{◌≡◌, ◌+◌, ◌∷◌, ◌++◌, [], ℕ, zero, suc, nat_le, length, ◌-◌, Bool, true, false, List, Some, Ok, subst, if◌then◌else◌}
use Rattle.std.specs.Prelude.{find, slice_set}
use Rattle.apron_base.specs.Histories.{Every}
use Rattle.apron_rules.specs.declared.parts.AirportParts.{AirportParts}
use Rattle.visit_book.specs.Changes.{with_parts}
use Rattle.visit_book.specs.declared.edits.Edit.{Edit}
use Rattle.visit_book.specs.declared.visits.Part.{Part}
use Rattle.visit_book.specs.declared.visits.Visit.{Visit}
use Rattle.visit_book.specs.Edits.{visit_of}
use Rattle.visit_book.specs.Numbers.{has_number, with_visit}
use Rattle.plan_core.specs.Edits.{after_edit, after_edits, edit_visit}
use Rattle.plan_core.specs.PlanState.{put_one}
use Rattle.plan_core.proofs.EditKept.{EditsVisit, edits_visit, visit_parts}
use Rattle.plan_core.proofs.Results.{ok_is, then_ok}

-- what holds of each visit holds of the one that is found
module _ (P : Visit → Type 0) where
  first_or_later : (test : Visit → Bool) (first visit : Visit) (visits : List Visit) (here : Bool) → (if here then Some first else find test visits) ≡ Some visit
      → P first → (find test visits ≡ Some visit → P visit) → P visit
  first_or_later test first visit visits true found is later = let same : first ≡ visit = cc in subst P same is
  first_or_later test first visit visits false found is later = later found

  pub found_has : (test : Visit → Bool) (visits : List Visit) (visit : Visit) → Every P visits → find test visits ≡ Some visit → P visit
  found_has test [] visit all found = absurd (cc)
  found_has test (first ∷ visits) visit all found =
      first_or_later test first visit visits (test first) found all.0 (found_has test visits visit all.1)

  pub all_last : (visits : List Visit) (visit : Visit) → Every P visits → P visit → Every P (visits ++ visit ∷ [])
  all_last [] visit all is = (is, tt)
  all_last (first ∷ visits) visit all is = (all.0, all_last visits visit all.1 is)

  put_has : (visit first : Visit) (visits : List Visit) (here : Bool) → P visit → P first → Every P visits
      → Every P (with_visit visits visit) → Every P (if here then visit ∷ visits else first ∷ with_visit visits visit)
  put_has visit first visits true is first_is all rest = (is, all)
  put_has visit first visits false is first_is all rest = (first_is, rest)

  pub with_has : (visits : List Visit) (visit : Visit) → P visit → Every P visits → Every P (with_visit visits visit)
  with_has [] visit is all = tt
  with_has (first ∷ visits) visit is all = put_has visit first visits (has_number visit.number first) is all.0 all.1 (with_has visits visit is all.1)

  set_has : (visits : List Visit) (place : ℕ) (visit : Visit) → P visit → Every P visits → Every P (slice_set visits place visit)
  set_has [] place visit is all = tt
  set_has (first ∷ visits) zero visit is all = (is, all.1)
  set_has (first ∷ visits) (suc place) visit is all = (all.0, set_has visits place visit is all.1)

  put_by : (visits : List Visit) (visit : Visit) (here : Bool) → P visit → Every P visits
      → Every P (if here then slice_set visits (visit.number.0 - 1) visit else visits ++ visit ∷ [])
  put_by visits visit true is all = set_has visits (visit.number.0 - 1) visit is all
  put_by visits visit false is all = all_last visits visit all is

  pub put_one_has : (visits : List Visit) (visit : Visit) → P visit → Every P visits → Every P (put_one visits visit)
  put_one_has visits visit is all = put_by visits visit (nat_le visit.number.0 (length visits)) is all

-- what each edit of a visit keeps, all edits keep
module _ (P : Visit → Type 0) (keeps : (airport : AirportParts) (base number : ℕ) (edit : Edit) (visit after : Visit)
    → edit_visit airport base number edit visit ≡ Ok after → P visit → P after) where
  edit_keeps : (airport : AirportParts) (base number : ℕ) (edit : Edit) (visits new : List Visit) → after_edit airport base number edit visits ≡ Ok new
      → Every P visits → Every P new
  edit_keeps airport base number edit visits new is all =
      let made : EditsVisit airport base number edit visits new = edits_visit airport base number edit visits new is in
      let before : P made.visit = found_has P (has_number (visit_of edit)) visits made.visit all made.found in
      subst (Every P) made.puts (with_has P visits made.after (keeps airport base number edit made.visit made.after made.makes before) all)

  pub edits_keep : (airport : AirportParts) (base number : ℕ) (edits : List Edit) (visits new : List Visit) → after_edits airport base number edits visits ≡ Ok new
      → Every P visits → Every P new
  edits_keep airport base number [] visits new is all = subst (Every P) (ok_is visits new is) all
  edits_keep airport base number (edit ∷ edits) visits new is all =
      let made = then_ok (after_edit airport base number edit visits) (λ after. after_edits airport base (number + 1) edits after) new is in
      edits_keep airport base (number + 1) edits made.0 new made.2 (edit_keeps airport base number edit visits made.0 made.1 all)

-- what other parts leave, edits leave
module _ (P : Visit → Type 0) (leaves : (visit : Visit) (parts : List Part) → P visit → P (with_parts visit parts)) where
  leaves_after : (airport : AirportParts) (base number : ℕ) (edit : Edit) (visit after : Visit) → edit_visit airport base number edit visit ≡ Ok after → P visit
      → P after
  leaves_after airport base number edit visit after is before =
      let parts = visit_parts airport base number edit visit after is in subst P parts.1 (leaves visit parts.0 before)

  pub edit_leaves : (airport : AirportParts) (base number : ℕ) (edit : Edit) (visits new : List Visit) → after_edit airport base number edit visits ≡ Ok new
      → Every P visits → Every P new
  edit_leaves = edit_keeps P leaves_after

  pub edits_leave : (airport : AirportParts) (base number : ℕ) (edits : List Edit) (visits new : List Visit) → after_edits airport base number edits visits ≡ Ok new
      → Every P visits → Every P new
  edits_leave = edits_keep P leaves_after
