use Rattle.desk_workers.proofs.Working.{one_served}
use Rattle.desk_workers.proofs.worker.serve_next.Goals as goal

pub returns-clause-serves : goal.returns-clause-serves
returns-clause-serves g c =
    one_served (g.K.ConnectionHandler.serves (record { source = g.L.In.Source.state; sink = g.L.Out.Sink.state })) (g.K.ConnectionHandler.fixed c.args.own.now) _ _ _ _ _ _ _ _
    c.in_ok-source.ensures.accepts c.serve-outcome.ensures.serves c.finish.ensures.finishes
