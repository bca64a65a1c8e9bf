use Rattle.std.proofs.Common.{◌≡◌, ◌+◌, ◌∙◌, ap, refl, subst, sym}
use Rattle.std.specs.Prelude.{All}
use Rattle.visit_book.specs.Slots.{slots_of}
use Rattle.visit_book.specs.WellFormed.{IsWellFormed}
use Rattle.plan_core.specs.PlanState.{IsInstallable, PlanHeld}
use Rattle.plan_core.proofs.Added.{of_no_draft_is}
use Rattle.plan_core.proofs.Moved.{moving_fits}
use Rattle.plan_core.proofs.Rebased.{moved}
use Rattle.plan_core.proofs.plan.Plan.moved.Goals as goal

pub slots_of-requires : goal.slots_of-requires
slots_of-requires c = record {
  each = moved (λ a vs. All (IsWellFormed a) vs) c.args.self.now.plan.airport c.args.airport.now c.args.visits.items c.as_slice.result.now (sym c.requires.airport)
      (sym c.as_slice.ensures.value) (λ k d within. (c.requires.movable.each k d within).well_formed);
}

pub returns-clause-ok : goal.returns-clause-ok
returns-clause-ok c =
    let version : c.args.self.now.plan.version ≡ c.self.inside.version = ap (λ (s : PlanHeld). s.plan.version) (sym c.self.view_is) in
    let slots = c.in_ok-slots.ensures.is ∙ (ap (λ a. slots_of a c.as_slice.result.now) c.requires.airport
    ∙ ap (slots_of c.args.self.now.plan.airport) c.as_slice.ensures.value) in
    sym (of_no_draft_is _ _ _ _ _ _ refl (sym slots) (ap (λ n. n + 1) version))

pub returns-clause-fits : goal.returns-clause-fits
returns-clause-fits c = λ last.
    subst (IsInstallable c.args.self.now.plan) (sym (returns-clause-ok c)) (moving_fits c.args.self.now.plan c.args.visits.items c.requires.movable last)
