use Rattle.desk_http.proofs.Complete.{sessions_complete_by}
use Rattle.desk_http.proofs.Ending.{ends_unbegun}
use Rattle.desk_http.specs.FedSession.{FedAnswers}
use Rattle.desk_http.proofs.feeds.session_fed.Goals as goal

pub returns-in_default-clause-of : goal.returns-in_default-clause-of
returns-in_default-clause-of g c =
    let port = c.args.port.now in
    let airport = g.P.DeskPort.airport_of port in
    ends_unbegun (FedAnswers g.P.DeskPort.asks (g.P.FeedPort.feeds (g.P.DeskPort.fixed port)) airport) airport _

pub returns-clause-complete : goal.returns-clause-complete
returns-clause-complete g c =
    let port = c.args.port.now in
    let airport = g.P.DeskPort.airport_of port in
    sessions_complete_by (FedAnswers g.P.DeskPort.asks (g.P.FeedPort.feeds (g.P.DeskPort.fixed port)) airport) airport _ _ _ c.session_by.ensures.by
