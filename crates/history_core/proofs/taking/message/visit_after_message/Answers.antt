use Rattle.std.proofs.Common.{◌≡◌, ◌∙◌, ◌∷◌, [], None, Some, ap, sym, subst}
use Rattle.std.specs.Option.{option_copied}
use Rattle.std.specs.Prelude.{IfSome}
use Rattle.std.proofs.lemmas.List.Elements.{All-from_recursion}
use Rattle.apron_rules.specs.declared.parts.AirportParts.{AirportParts}
use Rattle.visit_book.specs.WellFormed.{IsWellFormed}
use Rattle.visit_effects.specs.Effects.{live_of, movement_meant}
use Rattle.history_core.proofs.Happenings.{changed_if, effect_is, live_formed, no_effect}
use Rattle.history_core.proofs.taking.message.visit_after_message.Goals as goal

pub returns-in_err-visit-clause-is : goal.returns-in_err-visit-clause-is
returns-in_err-visit-clause-is c =
    let plan = c.args.plan.now.plan in
    let message = c.args.message.now in
    let movement = c.in_ok-movement.movement in
    let meant = subst (λ (a : AirportParts). movement_meant a message ≡ Some movement) c.requires.airport (sym c.movement_meant.ensures.is ∙ c.in_ok-movement.was) in
    let none : live_of plan.visits movement ≡ None = sym c.live_of.ensures.is ∙ ap option_copied c.in_err-visit.was in
    c.from_residual-in_err-visit.ensures ∙ sym (no_effect plan message movement meant none)

pub effect_of-requires-clause-each : goal.effect_of-requires-clause-each
effect_of-requires-clause-each c =
    let plan = c.args.plan.now.plan in
    let visit = c.in_ok-visit.visit.now in
    let formed = live_formed plan c.in_ok-movement.movement visit c.visits-known.ensures.plan (sym c.live_of.ensures.is ∙ ap option_copied c.in_ok-visit.was) in
    All-from_recursion (IsWellFormed c.args.airport.now) (visit ∷ [])
    (subst (λ (a : AirportParts). IsWellFormed a visit) (sym c.requires.airport) formed, tt)

pub returns-clause-is : goal.returns-clause-is
returns-clause-is c =
    effect_is c.args.plan.now.plan c.args.message.now c.args.airport.now c.in_ok-movement.movement c.in_ok-visit.visit.now c.effect_of.result c.requires.airport
    (sym c.movement_meant.ensures.is ∙ c.in_ok-movement.was) (sym c.live_of.ensures.is ∙ ap option_copied c.in_ok-visit.was) c.effect_of.ensures.is

pub returns-clause-changed : goal.returns-clause-changed
returns-clause-changed c =
    let plan = c.args.plan.now.plan in
    changed_if plan c.args.message.now c.effect_of.result c.visits-known.ensures.plan c.requires.numbered
    (subst (λ (a : AirportParts). IfSome c.effect_of.result (IsWellFormed a)) c.requires.airport c.effect_of.ensures.well_formed)
    (effect_is plan c.args.message.now c.args.airport.now c.in_ok-movement.movement c.in_ok-visit.visit.now c.effect_of.result c.requires.airport
    (sym c.movement_meant.ensures.is ∙ c.in_ok-movement.was) (sym c.live_of.ensures.is ∙ ap option_copied c.in_ok-visit.was) c.effect_of.ensures.is)
