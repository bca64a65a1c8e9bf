-- A draft gets an answer.
use Rattle.std.proofs.Common.{◌≡◌, ◌≢◌, ◌⊎◌, List, inl, inr, refl, Option, None, Some, Result, Ok, Err}
use Rattle.apron_rules.specs.declared.rules.Clash.{Clash}
use Rattle.apron_rules.specs.Clash.{IsFirstClash}
use Rattle.apron_rules.proofs.Symmetry.{sound_from_none}
use Rattle.visit_book.specs.declared.drafts.Draft.{Draft}
use Rattle.visit_book.specs.declared.visits.Visit.{Visit}
use Rattle.visit_book.specs.declared.edits.EditFault.{EditFault}
use Rattle.visit_book.specs.declared.edits.EditFault.TheVariants.{Clash as ByClash, Memory}
use Rattle.visit_book.specs.Slots.{slots_of}
use Rattle.plan_core.specs.Edits.{after_all_edits}
use Rattle.plan_core.specs.PlanState.{PlanState}
use Rattle.plan_core.specs.Rebase.{Rebases, RefusesDraft}
use Rattle.plan_core.proofs.Faults.{fault_is_of_edit, not_memory, refuses_edits}
use Rattle.plan_core.proofs.FirstExists.{first_exists}

-- a commit, or a refusal for another cause than a lack of memory
abbrev IsAnswered : PlanState → Draft → Type 0
IsAnswered plan draft = ((new : List Visit) × Rebases plan draft new) ⊎ ((fault : EditFault) × (fault ≢ Memory) × RefusesDraft plan draft fault)

with_clash : (plan : PlanState) (draft : Draft) (new : List Visit) (found : Option Clash) → after_all_edits plan.airport draft.base draft.edits plan.visits ≡ Ok new
    → IsFirstClash plan.airport (slots_of plan.airport new) found → IsAnswered plan draft
with_clash plan draft new None apply first = inl (new, record { apply = apply; sound = sound_from_none plan.airport (slots_of plan.airport new) first })
with_clash plan draft new (Some clash) apply first = inr (ByClash clash, λ same. cc, (new, apply, first))

after_edits_answered : (plan : PlanState) (draft : Draft) (result : Result (List Visit) EditFault) → after_all_edits plan.airport draft.base draft.edits plan.visits ≡ result
    → IsAnswered plan draft
after_edits_answered plan draft (Err fault) e = inr (fault, not_memory fault (fault_is_of_edit plan draft fault e), refuses_edits plan draft fault e)
after_edits_answered plan draft (Ok new) e =
    let found = first_exists plan.airport (slots_of plan.airport new) in with_clash plan draft new found.0 e found.1

pub answer : (plan : PlanState) (draft : Draft) → IsAnswered plan draft
answer plan draft = after_edits_answered plan draft (after_all_edits plan.airport draft.base draft.edits plan.visits) refl
