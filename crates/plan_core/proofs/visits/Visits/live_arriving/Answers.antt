use Rattle.std.proofs.Common.{◌≡◌, ◌∙◌, List, Some, ap, sym}
use Rattle.visit_book.specs.declared.visits.Visit.{Visit}
use Rattle.visit_book.specs.Flights.{live_arriving}
use Rattle.plan_core.specs.Visits.{VisitsHeld}
use Rattle.plan_core.proofs.Listed.{live_found, none_live}
use Rattle.plan_core.proofs.visits.Visits.live_arriving.Goals as goal

pub returns-in-Some : goal.returns-in-Some
returns-in-Some c =
    let kept : c.self.inside.kept.items ≡ c.args.self.now.kept = ap (λ (held : VisitsHeld). held.kept) c.self.view_is in
    let found = live_found (λ (visit : Visit). visit.arr) c.self.inside.kept.items c.self.inside.arrivals.keys c.args.key.now c.in-Some.place c.index.result.now
    c.self.invariant.arriving (sym c.first.ensures.place ∙ c.in-Some.is) in
    record {
      is = ap (λ (visit : Visit). Some visit) c.index.ensures
          ∙ (sym found.1 ∙ ap (λ (visits : List Visit). live_arriving visits c.args.key.now) kept);
    }

pub returns-in-None : goal.returns-in-None
returns-in-None c =
    let kept : c.self.inside.kept.items ≡ c.args.self.now.kept = ap (λ (held : VisitsHeld). held.kept) c.self.view_is in
    let none = none_live (λ (visit : Visit). visit.arr) c.self.inside.kept.items c.self.inside.arrivals.keys c.args.key.now c.self.invariant.arriving
    (sym c.first.ensures.place ∙ c.in-None.is) in
    record { is = sym none ∙ ap (λ (visits : List Visit). live_arriving visits c.args.key.now) kept }
