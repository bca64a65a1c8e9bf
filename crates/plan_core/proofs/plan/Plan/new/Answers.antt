use Rattle.std.proofs.Common.{◌∙◌, ap, length, sym}
use Rattle.apron_rules.specs.declared.parts.AirportParts.{AirportParts}
use Rattle.plan_core.proofs.IndexedPlan.{empty_held}
use Rattle.plan_core.proofs.plan.Plan.new.Goals as goal

pub invariant_of-result : goal.invariant_of-result
invariant_of-result c =
    let stands = c.as_slice-stands.ensures.items ∙ ap (λ (a : AirportParts). a.stands) (c.parts.ensures.value ∙ sym c.of.ensures) in
    empty_held c.of.result.value c.none.result.kept c.none-2.result.kept c.in_ok-new.field-0 c.none.ensures.none c.none-2.ensures.none (c.in_ok-new.ensures.stands ∙ ap length stands)
    c.in_ok-new.ensures.none
