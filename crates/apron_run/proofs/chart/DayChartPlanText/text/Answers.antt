use Rattle.apron_run.proofs.PlanTexts.{plan_airport}
use Rattle.apron_run.proofs.chart.DayChartPlanText.text.Goals as goal

pub chart-requires-clause-airport : goal.chart-requires-clause-airport
chart-requires-clause-airport g c = plan_airport _ _ c.args.board.now.history _ c.requires.airport c.plan.ensures.replay
