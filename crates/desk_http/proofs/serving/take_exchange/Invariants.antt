use Rattle.std.proofs.Common.{◌≡◌, ◌-◌, ℕ, length}
use Rattle.http_framing.specs.Rooms.{max_request}
use Rattle.desk_http.specs.Serving.{SoFar}
use Rattle.desk_http.specs.Session.{SessionState}
use Rattle.desk_http.proofs.SoFar.{at}
use Rattle.desk_http.proofs.serving.take_exchange.Given as goal

-- a session that had come so far has come so far with more bytes, and its port is as it was
abbrev pub invariant-reading : goal.invariant-reading
invariant-reading g l = record {
  so_far : (start : SessionState) (count : ℕ)
      → SoFar (g.A.Answerer.comes (g.P.DeskPort.fixed l.fn.port) (g.P.DeskPort.airport_of l.fn.port)) (g.P.DeskPort.airport_of l.fn.port) start
      (at (g.S.Source.state l.fn.source) (g.W.Sink.state l.fn.sink) (g.P.DeskPort.port l.fn.port)) l.fn.incoming count
      → SoFar (g.A.Answerer.comes (g.P.DeskPort.fixed l.fn.port) (g.P.DeskPort.airport_of l.fn.port)) (g.P.DeskPort.airport_of l.fn.port) start
      (at (g.S.Source.state l.source) (g.W.Sink.state l.sink) (g.P.DeskPort.port l.fn.port)) l.incoming count;
  port : l.port ≡ l.fn.port;
}

-- each exchange takes a byte, and less than the longest request is there
abbrev pub decreases-reading : goal.decreases-reading
decreases-reading g l = max_request - length l.incoming
