use Rattle.std.proofs.Common.{subst}
use Rattle.desk_http.specs.FeedPorts.{ShowsFeed}
use Rattle.desk_http.specs.Alone.{port_over}
use Rattle.desk_http.specs.declared.port.FeedAsk.{FeedAsk}
use Rattle.desk_workers.specs.Alone.{AloneFeeds, AloneMachine}
use Rattle.desk_workers.specs.Machines.{asks_feed}
use Rattle.desk_workers.proofs.Lone.{shows_feed}
use Rattle.desk_workers.proofs.alone.AlonePortFeedPort.feed.Goals as goal

pub act_next-requires : goal.act_next-requires
act_next-requires g c =
    let ask : FeedAsk = record { seen = c.args.seen; feed = record { watch = c.args.watch.now; after = c.args.after } } in record {
      valid = g.met.M.DeskMachine.can_feed (g.M.Machine.state c.self.inside.machine).fixed ask;
    }

pub returns-clause-shows : goal.returns-clause-shows
returns-clause-shows g c =
    let laws = g.met.M.DeskMachine in
    let inside = c.self.inside in
    let before = g.M.Machine.state inside.machine in
    let after = g.M.Machine.state c.act_next.new.machine in
    let ask : FeedAsk = record { seen = c.args.seen; feed = record { watch = c.args.watch.now; after = c.args.after } } in
    subst (λ (a : AloneMachine g.row.M.Denot). ShowsFeed (AloneFeeds (g.M.DeskMachine.feed_text (g.M.Machine.state a.machine).fixed) (g.M.DeskMachine.airport (g.M.Machine.state a.machine).fixed))
    (port_over a.first (g.M.Machine.state a.machine)) ask c.act_next.result (port_over inside.first after))
    c.self.view_is
    (shows_feed g.M.DeskMachine.airport g.M.Machine.adds g.M.Machine.answers g.M.Machine.number laws.numbers (asks_feed ask) before after inside.first
    c.self.invariant.0 c.act_next.ensures.legal (g.M.DeskMachine.feed_text before.fixed) ask
    (λ history call answer left. laws.feeds_as before.fixed history call ask answer left)
    c.act_next.result c.act_next.ensures.unasked c.act_next.ensures.asked)
