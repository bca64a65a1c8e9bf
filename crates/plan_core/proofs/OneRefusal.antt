-- A draft gets at most one answer.
use Rattle.std.proofs.Common.{◌≡◌, ◌≢◌, ◌⊎◌, ◌∙◌, List, refl, sym, ap, subst, inl, inr, Some, Result, Ok, Err}
use Rattle.apron_rules.specs.declared.rules.Clash.{Clash}
use Rattle.apron_rules.specs.Clash.{IsFirstClash, IsSound}
use Rattle.apron_rules.proofs.Symmetry.{none_from_sound}
use Rattle.apron_rules.proofs.Unique.{first_unique}
use Rattle.visit_book.specs.declared.drafts.Draft.{Draft}
use Rattle.visit_book.specs.declared.visits.Visit.{Visit}
use Rattle.visit_book.specs.declared.edits.EditFault.{EditFault}
use Rattle.visit_book.specs.declared.edits.EditFault.TheVariants.{UnknownVisit, Overtaken, Gone, NoSuchPart, OnBlock, BadCut, BadJoin, Unfit, Clash as ByClash, Memory}
use Rattle.visit_book.specs.Numbers.{IsNumbered}
use Rattle.visit_book.specs.Slots.{slots_of}
use Rattle.plan_core.specs.Edits.{after_all_edits, is_edited}
use Rattle.plan_core.specs.PlanState.{PlanState}
use Rattle.plan_core.specs.Rebase.{Rebases, RefusesDraft}
use Rattle.plan_core.proofs.Changed.{edits_follow, follows_numbered}
use Rattle.plan_core.proofs.OneSlot.{slots_have_different_parts}
use Rattle.plan_core.proofs.Results.{err_is, not_both, ok_is}

-- what the edits of a draft make of the plan's visits
abbrev edited : PlanState → Draft → Result (List Visit) EditFault
edited plan draft = after_all_edits plan.airport draft.base draft.edits plan.visits

-- the edits apply, and the fault is the first clash that they leave
record LeavesClash (plan : PlanState) (draft : Draft) (fault : EditFault) : Type 0 where
  clash : Clash
  new : List Visit
  is : fault ≡ ByClash clash
  apply : edited plan draft ≡ Ok new
  first : IsFirstClash plan.airport (slots_of plan.airport new) (Some clash)

-- an edit is refused for this cause, or the edits leave that clash
cause_of : (plan : PlanState) (draft : Draft) (fault : EditFault) → fault ≢ Memory → RefusesDraft plan draft fault → (edited plan draft ≡ Err fault) ⊎ LeavesClash plan draft fault
cause_of plan draft (UnknownVisit k) cause h = inl h
cause_of plan draft (Overtaken k n version) cause h = inl h
cause_of plan draft (Gone k) cause h = inl h
cause_of plan draft (NoSuchPart k) cause h = inl h
cause_of plan draft (OnBlock k) cause h = inl h
cause_of plan draft (BadCut k) cause h = inl h
cause_of plan draft (BadJoin k) cause h = inl h
cause_of plan draft (Unfit k by) cause h = inl h
cause_of plan draft (ByClash c) cause h = inr (record { clash = c; new = h.0; is = refl; apply = h.1; first = h.2 })
cause_of plan draft Memory cause h = absurd (cause refl)

clashes_are_one : (plan : PlanState) (draft : Draft) (f g : EditFault) → IsNumbered plan.visits → LeavesClash plan draft f → LeavesClash plan draft g → f ≡ g
clashes_are_one plan draft f g numbered x y =
    let same : x.new ≡ y.new = ok_is {E = EditFault} x.new y.new (sym x.apply ∙ y.apply) in
    let first : IsFirstClash plan.airport (slots_of plan.airport y.new) (Some x.clash) =
    subst (λ vs. IsFirstClash plan.airport (slots_of plan.airport vs) (Some x.clash)) same x.first in
    let new : IsNumbered y.new =
    follows_numbered (is_edited draft.edits) 0 plan.visits y.new (edits_follow plan.airport draft.base 1 draft.edits plan.visits y.new numbered y.apply) in
    let clash : x.clash ≡ y.clash = first_unique plan.airport (slots_of plan.airport y.new) x.clash y.clash (slots_have_different_parts plan.airport y.new new) first y.first in
    x.is ∙ (ap ByClash clash ∙ sym y.is)

pub refusals_are_one : (plan : PlanState) (draft : Draft) (f g : EditFault) → IsNumbered plan.visits → f ≢ Memory → g ≢ Memory
    → RefusesDraft plan draft f → RefusesDraft plan draft g → f ≡ g
refusals_are_one plan draft f g numbered some_f some_g h k =
    elim (cause_of plan draft f some_f h) [
      | inl x ↦ elim (cause_of plan draft g some_g k) [
        | inl y ↦ err_is {T = List Visit} f g (sym x ∙ y)
        | inr y ↦ absurd (not_both y.new f (sym y.apply ∙ x))
      ]
      | inr x ↦ elim (cause_of plan draft g some_g k) [
        | inl y ↦ absurd (not_both x.new g (sym x.apply ∙ y))
        | inr y ↦ clashes_are_one plan draft f g numbered x y
      ]
    ]

some_and_sound : (plan : PlanState) (vs ws : List Visit) (c : Clash) → vs ≡ ws → IsFirstClash plan.airport (slots_of plan.airport vs) (Some c)
    → IsSound plan.airport (slots_of plan.airport ws) → ⊥
some_and_sound plan vs ws c same some sound =
    none_from_sound plan.airport (slots_of plan.airport vs) (subst (λ xs. IsSound plan.airport (slots_of plan.airport xs)) (sym same) sound) c some.0

pub rebased_or_refused : (plan : PlanState) (draft : Draft) (new : List Visit) (f : EditFault) → f ≢ Memory → Rebases plan draft new → RefusesDraft plan draft f → ⊥
rebased_or_refused plan draft new f some r h =
    elim (cause_of plan draft f some h) [
      | inl x ↦ not_both new f (sym r.apply ∙ x)
      | inr x ↦ some_and_sound plan x.new new x.clash (ok_is {E = EditFault} x.new new (sym x.apply ∙ r.apply)) x.first r.sound
    ]
