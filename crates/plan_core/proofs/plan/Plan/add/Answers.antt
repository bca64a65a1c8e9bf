use Rattle.std.proofs.Common.{◌≡◌, ◌+◌, ◌∙◌, List, [], ◌∷◌, ap, subst, sym}
use Rattle.visit_book.specs.declared.visits.Visit.{Visit}
use Rattle.plan_core.specs.PlanState.{IsInstallable, IsPlan, PlanHeld, PlanState}
use Rattle.plan_core.specs.Working.{with_visit_once}
use Rattle.plan_core.proofs.Added.{adding_fits, of_no_draft_is}
use Rattle.plan_core.proofs.plan.Plan.add.Goals as goal

pub returns-clause-fits : goal.returns-clause-fits
returns-clause-fits c = λ last.
    let held = ap (λ (s : PlanHeld). s.plan) c.self.view_is in
    let version : c.args.self.now.plan.version ≡ c.self.inside.version = ap (λ (s : PlanState). s.version) (sym held) in
    let visits : c.args.visit ∷ [] ≡ c.add_visit_once.new.visits.items =
    sym (c.in_ok-add_visit_once.ensures.ok ∙ ap (λ (visits : List Visit). with_visit_once visits c.args.visit) c.new-visits.ensures.items) in
    subst (IsInstallable c.args.self.now.plan) (of_no_draft_is _ _ _ _ _ _ visits (sym c.new.ensures.none) (ap (λ n. n + 1) version))
    (adding_fits c.args.self.now.plan c.args.visit (subst IsPlan held c.self.invariant.plan_is) c.requires.addable last)
