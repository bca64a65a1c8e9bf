use Rattle.std.proofs.Common.{◌∙◌, ap}
use Rattle.plan_core.specs.PlanState.{PlanState}
use Rattle.history_core.proofs.Replay.{replay-airport}
use Rattle.test_screens.proofs.tests.looks.stage.plan_of.Goals as goal

pub returns : goal.returns
returns c =
    let board = c.args.board.now in record {
      airport = ap (λ (plan : PlanState). plan.airport) c.plan.ensures.replay ∙ (replay-airport board.airport board.history ∙ c.requires.airport);
    }
