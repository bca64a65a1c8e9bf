use Rattle.std.proofs.Common.{◌≡◌, ◌+◌, ◌∙◌, List, [], ◌∷◌, ap, subst, sym}
use Rattle.visit_book.specs.declared.visits.Visit.{Visit}
use Rattle.plan_core.specs.Moving.{cancelled_visit}
use Rattle.plan_core.specs.PlanState.{IsInstallable, IsPlan, PlanHeld}
use Rattle.plan_core.specs.Working.{with_visit_once}
use Rattle.plan_core.proofs.Added.{of_no_draft_is}
use Rattle.plan_core.proofs.Moved.{cancelled_movable, cancelled_slots, moving_fits}
use Rattle.plan_core.proofs.plan.Plan.cancel.Goals as goal

pub returns-clause-ok : goal.returns-clause-ok
returns-clause-ok c =
    let version : c.args.self.now.plan.version ≡ c.self.inside.version = ap (λ (s : PlanHeld). s.plan.version) (sym c.self.view_is) in
    let visits : cancelled_visit c.args.visit.now ∷ [] ≡ c.add_visit_once.new.visits.items =
    sym (c.in_ok-add_visit_once.ensures.ok ∙ (ap (λ (visits : List Visit). with_visit_once visits c.cancelled_visit.result) c.new-visits.ensures.items
    ∙ ap (λ (visit : Visit). visit ∷ []) c.cancelled_visit.ensures.is)) in
    sym (of_no_draft_is _ _ _ _ _ _ visits (cancelled_slots c.args.self.now.plan.airport c.args.visit.now ∙ sym c.new.ensures.none) (ap (λ n. n + 1) version))

pub returns-clause-fits : goal.returns-clause-fits
returns-clause-fits c = λ last.
    let plan : IsPlan c.args.self.now.plan = subst IsPlan (ap (λ (s : PlanHeld). s.plan) c.self.view_is) c.self.invariant.plan_is in
    subst (IsInstallable c.args.self.now.plan) (sym (returns-clause-ok c))
    (moving_fits c.args.self.now.plan (cancelled_visit c.args.visit.now ∷ []) (cancelled_movable c.args.self.now.plan c.args.visit.now plan c.requires.cancellable) last)
