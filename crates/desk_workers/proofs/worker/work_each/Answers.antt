use Rattle.std.proofs.Common.{◌∙◌, refl, arith}
use Rattle.desk_workers.proofs.Working.{begins, goes_on, is_done, stops}
use Rattle.desk_workers.proofs.worker.work_each.Goals as goal

pub loop-served-init : goal.loop-served-init
loop-served-init g c = record {
  served = begins (g.K.ConnectionHandler.serves (record { source = g.L.In.Source.state; sink = g.L.Out.Sink.state })) (g.K.ConnectionHandler.fixed c.args.own.now) _;
  fixed = refl;
}

pub returns-in-Err-clause-works : goal.returns-in-Err-clause-works
returns-in-Err-clause-works g c =
    stops (g.K.ConnectionHandler.serves (record { source = g.L.In.Source.state; sink = g.L.Out.Sink.state })) (g.K.ConnectionHandler.fixed c.args.own.now) _ c.loop-served._served c.args.connections _ _ _
    c.loop-served.invariant.fixed c.loop-served.invariant.served c.loop-served-test.true c.in-Err.ensures.serves

pub returns-in-Err-clause-fixed : goal.returns-in-Err-clause-fixed
returns-in-Err-clause-fixed g c = c.serve_next.ensures.fixed ∙ c.loop-served.invariant.fixed

pub loop-served-preserved : goal.loop-served-preserved
loop-served-preserved g c = record {
  served = goes_on (g.K.ConnectionHandler.serves (record { source = g.L.In.Source.state; sink = g.L.Out.Sink.state })) (g.K.ConnectionHandler.fixed c.args.own.now) _ c.loop-served._served _ _ _
      c.loop-served.invariant.fixed c.loop-served.invariant.served c.in_default.ensures.serves;
  fixed = c.serve_next.ensures.fixed ∙ c.loop-served.invariant.fixed;
}

pub returns-clause-works : goal.returns-clause-works
returns-clause-works g c =
    is_done (g.K.ConnectionHandler.serves (record { source = g.L.In.Source.state; sink = g.L.Out.Sink.state })) (g.K.ConnectionHandler.fixed c.args.own.now) c.loop-served._served c.args.connections _ _
    c.loop-served.invariant.served (omega arith)

pub returns-clause-fixed : goal.returns-clause-fixed
returns-clause-fixed g c = c.loop-served.invariant.fixed
