use Rattle.apron_run.proofs.PlanTexts.{plan_airport, visits_new}
use Rattle.apron_run.proofs.export.SeasonPlanText.text.Goals as goal

pub write_season-requires : goal.write_season-requires
write_season-requires g c = record {
  new = visits_new c.plan.result.now.plan c.args.airport.now c.visits.result.now (plan_airport _ _ c.args.board.now.history _ c.requires.airport c.plan.ensures.replay) c.visits.ensures.value
      c.visits.ensures.plan;
}
