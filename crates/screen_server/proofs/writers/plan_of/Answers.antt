use Rattle.std.proofs.Common.{◌∙◌, ap}
use Rattle.plan_core.specs.PlanState.{PlanState}
use Rattle.history_core.proofs.Replay.{replay-airport}
use Rattle.screen_server.proofs.writers.plan_of.Goals as goal

pub returns-clause-airport : goal.returns-clause-airport
returns-clause-airport g c =
    let board = c.board.result.now in
    ap (λ (plan : PlanState). plan.airport) c.plan.ensures.replay ∙ (replay-airport board.airport board.history ∙ (ap (λ held. held.airport) c.board.ensures.value ∙ c.requires.airport))
