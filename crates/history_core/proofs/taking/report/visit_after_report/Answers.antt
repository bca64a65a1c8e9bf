use Rattle.std.proofs.Common.{◌≡◌, ◌∙◌, Ok, Some, ap, sym, subst}
use Rattle.std.specs.Option.{option_copied}
use Rattle.apron_rules.specs.declared.parts.AirportParts.{AirportParts}
use Rattle.visit_book.specs.Numbers.{visit_at}
use Rattle.visit_book.specs.Reports.{report_of}
use Rattle.visit_book.specs.WellFormed.{IsWellFormed}
use Rattle.plan_core.specs.PlanState.{IsVisitAt}
use Rattle.plan_core.proofs.EditKept.{found_has}
use Rattle.history_core.proofs.Happenings.{changed_is, report_one}
use Rattle.history_core.proofs.taking.report.visit_after_report.Goals as goal

pub report-requires-clause-well_formed : goal.report-requires-clause-well_formed
report-requires-clause-well_formed c =
    let plan = c.args.plan.now.plan in
    let visit = c.in-Some.visit.now in
    let at : IsVisitAt plan.airport plan.version visit =
    found_has (IsVisitAt plan.airport plan.version) plan.visits c.args.report.now.visit visit c.visits-known.ensures.plan.each
    (sym c.visit.ensures.is ∙ ap option_copied c.in-Some.is) in
    subst (λ (a : AirportParts). IsWellFormed a visit) (sym c.requires.airport) at.well_formed

pub returns-in-Ok-clause-changed : goal.returns-in-Ok-clause-changed
returns-in-Ok-clause-changed c =
    let plan = c.args.plan.now.plan in
    let before = c.in-Some.visit.now in
    let new = c.in-Ok.new in
    let at : visit_at plan.visits c.args.report.now.visit ≡ Some before = sym c.visit.ensures.is ∙ ap option_copied c.in-Some.is in
    let made = subst (λ (a : AirportParts). report_of a c.args.report.now.event before ≡ Ok new) c.requires.airport (sym c.report.ensures.is ∙ c.in-Ok.is) in
    changed_is plan new c.visits-known.ensures.plan (subst (λ (a : AirportParts). IsWellFormed a new) c.requires.airport c.in-Ok.ensures.well_formed)
    (report_one plan c.args.report.now before new at made)
