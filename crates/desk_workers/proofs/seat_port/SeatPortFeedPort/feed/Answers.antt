use Rattle.std.proofs.Common.{subst}
use Rattle.desk_http.specs.FeedPorts.{ShowsFeed}
use Rattle.desk_http.specs.declared.port.FeedAsk.{FeedAsk}
use Rattle.desk_workers.specs.Feeds.{FeedTurns}
use Rattle.desk_workers.specs.Machines.{asks_feed}
use Rattle.desk_workers.specs.Seats.{ServedState, port_of}
use Rattle.desk_workers.proofs.Feeding.{seat_feeds}
use Rattle.desk_workers.proofs.seat_port.SeatPortFeedPort.feed.Goals as goal

pub ask-requires-clause-valid : goal.ask-requires-clause-valid
ask-requires-clause-valid g c =
    let ask : FeedAsk = record { seen = c.args.seen; feed = record { watch = c.args.watch.now; after = c.args.after } } in
    g.met.M.DeskMachine.can_feed c.self.inside.board.now.start.fixed ask

pub returns-clause-shows : goal.returns-clause-shows
returns-clause-shows g c =
    let laws = g.met.M.DeskMachine in
    let board = c.self.inside.board.now in
    let after = c.ask.new.seat in
    let ask : FeedAsk = record { seen = c.args.seen; feed = record { watch = c.args.watch.now; after = c.args.after } } in
    subst (λ (served : ServedState g.row.M-Fixed.Denot). ShowsFeed (FeedTurns (g.M.DeskMachine.feed_text served.board.start.fixed) (g.M.DeskMachine.airport served.board.start.fixed))
    (port_of served) ask c.ask.result (port_of (record { board = board; seat = after })))
    c.self.view_is
    (seat_feeds g.M.Machine.state g.M.DeskMachine.airport g.M.DeskMachine.feed_text g.M.Machine.adds g.M.Machine.answers (asks_feed ask) ask
    (laws.adds_none ask) (λ fixed history call answer left. laws.feeds_as fixed history call ask answer left) board c.self.inside.seat after c.self.invariant.0
    g.M.Machine.number c.ask.result laws.numbers
    (record { spent = c.ask.ensures.spent; unasked = c.ask.ensures.unasked; answered = c.ask.ensures.answered }))
