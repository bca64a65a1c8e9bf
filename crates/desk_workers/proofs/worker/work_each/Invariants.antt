use Rattle.std.proofs.Common.{◌≡◌}
use Rattle.desk_workers.proofs.Working.{SoFar}
use Rattle.desk_workers.proofs.worker.work_each.Given as goal

-- this many connections were served, and what is fixed is as it was
abbrev pub invariant-loop-served : goal.invariant-loop-served
invariant-loop-served g l = record {
  served : SoFar (g.K.ConnectionHandler.serves (record { source = g.L.In.Source.state; sink = g.L.Out.Sink.state })) (g.K.ConnectionHandler.fixed l.fn.own) l._served
      (record { listener = g.L.Listener.state l.fn.listener; own = g.K.ConnectionHandler.state l.fn.own })
      (record { listener = g.L.Listener.state l.listener; own = g.K.ConnectionHandler.state l.own });
  fixed : g.K.ConnectionHandler.fixed l.own ≡ g.K.ConnectionHandler.fixed l.fn.own;
}
