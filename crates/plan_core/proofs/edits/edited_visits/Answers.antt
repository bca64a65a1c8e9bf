use Rattle.std.proofs.Common.{◌≡◌, ◌∙◌, Option, None, Some, List, ap, slice_index_or, subst, sym}
use Rattle.apron_base.specs.declared.numbers.VisitNo.{VisitNo}
use Rattle.visit_book.specs.declared.edits.Edit.{Edit}
use Rattle.visit_book.specs.declared.edits.Edit.TheVariants.{Put}
use Rattle.visit_book.specs.declared.visits.Visit.{Visit}
use Rattle.visit_book.specs.Edits.{visit_of}
use Rattle.visit_book.specs.Numbers.{visit_at}
use Rattle.plan_core.specs.Working.{with_visit_once}
use Rattle.plan_core.proofs.Once.{edited_more, edited_no_more, edited_none}
use Rattle.plan_core.proofs.edits.edited_visits.Goals as goal
use Rattle.plan_core.proofs.edits.edited_visits.Goals.{in-Some+in_ok-add_visit_once, in_default}

-- what is read of edits past their end
abbrev past : Edit
past = Put (record { 0 = 0 }) 0 (record { 0 = 0 })

at_number : (visits : List Visit) (edit : Edit) (number : VisitNo) (found : Option Visit) → number ≡ visit_of edit → found ≡ visit_at visits number
    → visit_at visits (visit_of edit) ≡ found
at_number visits edit number found is at = subst (λ n. visit_at visits n ≡ found) is (sym at)

pub loop-edit-init : goal.loop-edit-init
loop-edit-init c = c.new-edited.ensures.items ∙ sym (edited_none c.args.visits.now)

pub loop-edit-preserved : goal.loop-edit-preserved
loop-edit-preserved c =
    elim c.match-visit_at.branch [
      | in-Some+in_ok-add_visit_once w ↦
          ap (λ (vec : _). vec.items) w.edited-is
          ∙ (w.in_ok-add_visit_once.ensures.ok
          ∙ (ap (λ vs. with_visit_once vs w.in-Some.visit.now) c.loop-edit.invariant
          ∙ edited_more c.args.edits.now c.loop-edit.edit-index past c.args.visits.now w.in-Some.visit.now c.loop-edit-test.true c.requires.numbered
          (at_number c.args.visits.now (slice_index_or c.args.edits.now c.loop-edit.edit-index past) c.visit_of.result (Some w.in-Some.visit.now) c.visit_of.ensures.is w.in-Some.ensures.is)))
      | in_default w ↦
          ap (λ (vec : _). vec.items) w.edited-is
          ∙ (c.loop-edit.invariant
          ∙ edited_no_more c.args.edits.now c.loop-edit.edit-index past c.args.visits.now c.loop-edit-test.true
          (at_number c.args.visits.now (slice_index_or c.args.edits.now c.loop-edit.edit-index past) c.visit_of.result None c.visit_of.ensures.is w.in_default.ensures.is))
    ]
