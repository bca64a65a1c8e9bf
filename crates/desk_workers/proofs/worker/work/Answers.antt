use Rattle.std.proofs.Common.{ap}
use Rattle.desk_workers.specs.Feeds.{fed_kind}
use Rattle.desk_workers.specs.Work.{HasSession}
use Rattle.desk_workers.proofs.Working.{done_unless}
use Rattle.desk_workers.proofs.worker.work.Goals as goal

pub returns : goal.returns
returns g c = record {
  works = c.work_each.ensures.works;
  done = done_unless (HasSession (record { source = g.L.In.Source.state; sink = g.L.Out.Sink.state })
      (fed_kind g.P.DeskPort.asks (g.P.FeedPort.feeds (g.P.DeskPort.fixed c.args.port.now)) (g.P.DeskPort.airport_of c.args.port.now))) c.args.connections _ _ _ c.work_each.ensures.works;
  airport = ap (λ at. at.1) c.work_each.ensures.fixed;
  fixed = ap (λ at. at.0) c.work_each.ensures.fixed;
}
