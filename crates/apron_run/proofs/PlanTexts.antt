-- What a text of a plan is made of.
use Rattle.std.proofs.Common.{◌≡◌, ◌∙◌, List, sym, ap, subst}
use Rattle.std.specs.Prelude.{All, slice_index_or}
use Rattle.apron_rules.specs.declared.parts.AirportParts.{AirportParts}
use Rattle.visit_book.specs.NewVisits.{IsNewVisitOf, new_of}
use Rattle.visit_book.specs.declared.visits.Visit.{Visit}
use Rattle.plan_core.specs.PlanState.{IsPlan, PlanState}
use Rattle.desk_asks.specs.declared.asks.Entry.{Entry}
use Rattle.history_core.specs.History.{replay}
use Rattle.history_core.proofs.Replay.{replay-airport}

-- the plan that a history makes at an airport is of it
pub plan_airport : (airport of : AirportParts) (history : List Entry) (plan : PlanState) → airport ≡ of → plan ≡ replay of history → airport ≡ plan.airport
plan_airport airport of history plan same is = same ∙ sym (ap (λ (p : PlanState). p.airport) is ∙ replay-airport of history)

-- what the visits of a plan were added with can be said at its airport
pub visits_new : (plan : PlanState) (airport : AirportParts) (visits : List Visit) → airport ≡ plan.airport → visits ≡ plan.visits → IsPlan plan
    → All (λ (visit : Visit). IsNewVisitOf airport (new_of visit)) visits
visits_new plan airport visits is same well = subst (λ (vs : List Visit). All (λ (visit : Visit). IsNewVisitOf airport (new_of visit)) vs) (sym same)
    (λ k d less. subst (λ (a : AirportParts). IsNewVisitOf a (new_of (slice_index_or plan.visits k d))) (sym is) (well.each k d less).new)
