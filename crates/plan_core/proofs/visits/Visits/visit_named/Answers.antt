use Rattle.std.proofs.Common.{◌≡◌, ◌∙◌, List, None, Some, ap, drop, sym, take}
use Rattle.std.specs.Prelude.{position}
use Rattle.std.proofs.lemmas.List.{take_rest}
use Rattle.visit_book.specs.declared.visits.Visit.{Visit}
use Rattle.plan_core.specs.Names.{has_name, visit_named}
use Rattle.plan_core.specs.Visits.{VisitsHeld}
use Rattle.plan_core.proofs.Names.{named_first, named_later}
use Rattle.plan_core.proofs.visits.Visits.visit_named.Goals as goal

pub returns-in-Some : goal.returns-in-Some
returns-in-Some c =
    let kept : c.self.inside.kept.items ≡ c.args.self.now.kept = ap (λ (held : VisitsHeld). held.kept) c.self.view_is in
    let place : position (has_name c.args.name.now) (take c.self.inside.named c.self.inside.kept.items) ≡ Some c.in-Some.place.now =
    sym (c.self.invariant.names.index c.args.name.now) ∙ sym c.in-Some.ensures.value in
    let found = named_first c.self.inside.kept.items c.self.inside.named c.args.name.now c.in-Some.place.now c.index.result.now place in
    record {
      is = ap (λ (visit : Visit). Some visit) c.index.ensures
          ∙ (sym found.1 ∙ ap (λ (visits : List Visit). visit_named visits c.args.name.now) kept);
    }

pub returns-in-None : goal.returns-in-None
returns-in-None c =
    let kept : c.self.inside.kept.items ≡ c.args.self.now.kept = ap (λ (held : VisitsHeld). held.kept) c.self.view_is in
    let none : position (has_name c.args.name.now) (take c.self.inside.named c.self.inside.kept.items) ≡ None =
    sym (c.self.invariant.names.index c.args.name.now) ∙ sym c.in-None.ensures.value in
    record {
      is = c.visit_named.ensures.is
          ∙ (ap (λ (visits : List Visit). visit_named visits c.args.name.now) (take_rest c.deref.result.now c.self.inside.named ∙ ap (drop c.self.inside.named) c.deref.ensures.value)
          ∙ (sym (named_later c.self.inside.kept.items c.self.inside.named c.args.name.now none)
          ∙ ap (λ (visits : List Visit). visit_named visits c.args.name.now) kept));
    }
