use Rattle.std.proofs.Common.{◌≡◌}
use Rattle.desk_http.specs.Serving.{SoFar}
use Rattle.desk_http.proofs.serving.session_by.Given as goal

-- what was taken, answered and handed on so far
abbrev pub invariant-loop-count : goal.invariant-loop-count
invariant-loop-count g l = record {
  so_far : SoFar (g.A.Answerer.comes (g.P.DeskPort.fixed l.fn.port) (g.P.DeskPort.airport_of l.fn.port)) (g.P.DeskPort.airport_of l.fn.port)
      (record { source = g.S.Source.state l.fn.source; sink = g.W.Sink.state l.fn.sink; port = g.P.DeskPort.port l.fn.port })
      (record { source = g.S.Source.state l.source; sink = g.W.Sink.state l.sink; port = g.P.DeskPort.port l.port })
      l.incoming l.count;
  airport : g.P.DeskPort.airport_of l.port ≡ g.P.DeskPort.airport_of l.fn.port;
  fixed : g.P.DeskPort.fixed l.port ≡ g.P.DeskPort.fixed l.fn.port;
}
