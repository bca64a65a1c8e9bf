use Rattle.std.proofs.Common.{◌∙◌, Some, ap, sym}
use Rattle.desk_http.proofs.FedParts.{answers_early, answers_feed}
use Rattle.desk_http.proofs.feeds.FedRoutesAnswerer.answer.Goals as goal

pub returns-in-Some-Err-clause-came : goal.returns-in-Some-Err-clause-came
returns-in-Some-Err-clause-came g c = λ request are.
    let port = c.args.port.now in
    let feeds = g.P.FeedPort.feeds (g.P.DeskPort.fixed port) in
    answers_early g.P.DeskPort.asks feeds (g.P.DeskPort.airport_of port) (g.P.DeskPort.port port) c.args.parts.now request are
    (g.W.Sink.state c.args.sink.now) (g.W.Sink.state c.write_early.new.sink) c.write_early.result c.in-Some-Err.early
    (sym (c.in-Some-Err.is ∙ ap Some c.in-Some-Err.field-0-is) ∙ c.feed_asked.ensures.asked) c.write_early.ensures.writes

pub returns-in-Some-Ok-clause-came : goal.returns-in-Some-Ok-clause-came
returns-in-Some-Ok-clause-came g c = λ request are.
    let port = c.args.port.now in
    let feeds = g.P.FeedPort.feeds (g.P.DeskPort.fixed port) in
    answers_feed g.P.DeskPort.asks feeds (g.P.DeskPort.airport_of port) (g.P.DeskPort.port port) c.args.parts.now request are
    (g.W.Sink.state c.args.sink.now) (g.W.Sink.state c.write_acted.new.sink) c.write_acted.result c.in-Some-Ok.field-0-0 c.feed.result (g.P.DeskPort.port c.feed.new.self)
    (sym (c.in-Some-Ok.is ∙ ap Some c.in-Some-Ok.field-0-is) ∙ c.feed_asked.ensures.asked) c.feed.ensures.shows c.write_acted.ensures.writes
