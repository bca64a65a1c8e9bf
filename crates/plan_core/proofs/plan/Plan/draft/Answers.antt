use Rattle.std.proofs.Common.{◌≡◌, ◌≤◌, ℕ, Option, None, Some, IfSome, List, ap, subst, sym}
use Rattle.plan_core.specs.declared.drafts.Drafted.{Drafted}
use Rattle.plan_core.specs.Drafts.{AreDraftsAt, draft_version}
use Rattle.plan_core.specs.PlanState.{PlanHeld}
use Rattle.plan_core.proofs.DraftList.{version_had}
use Rattle.plan_core.proofs.plan.Plan.draft.Goals as goal

had : (version : ℕ) (drafts : List Drafted) (desk : List ℕ) (number : ℕ) (found : Option ℕ) → AreDraftsAt version drafts
    → found ≡ draft_version drafts desk number → IfSome found (λ made. (1 ≤ made) × (made ≤ version))
had version drafts desk number None h is = tt
had version drafts desk number (Some made) h is = version_had version drafts desk number made h (sym is)

pub returns-clause-made : goal.returns-clause-made
returns-clause-made c =
    let version : c.self.inside.version ≡ c.args.self.now.plan.version = ap (λ (s : PlanHeld). s.plan.version) c.self.view_is in
    subst (λ n. IfSome c.version.result (λ made. (1 ≤ made) × (made ≤ n))) version
    (had c.self.inside.version c.self.inside.drafts.kept c.args.desk.now c.args.draft c.version.result c.self.invariant.plan_is.drafts c.version.ensures.version)
