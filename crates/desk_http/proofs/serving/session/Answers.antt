use Rattle.desk_http.proofs.Complete.{sessions_complete}
use Rattle.desk_http.proofs.Ending.{ends_unbegun}
use Rattle.desk_http.specs.Answers.{Answers}
use Rattle.desk_http.proofs.serving.session.Goals as goal

pub returns-in_default-clause-of : goal.returns-in_default-clause-of
returns-in_default-clause-of g c =
    let airport = g.P.DeskPort.airport_of c.args.port.now in ends_unbegun (Answers g.P.DeskPort.asks airport) airport _

pub returns-in_default-clause-complete : goal.returns-in_default-clause-complete
returns-in_default-clause-complete g c = sessions_complete g.P.DeskPort.asks (g.P.DeskPort.airport_of c.args.port.now) _ _ _ (returns-in_default-clause-of g c)

pub returns-clause-complete : goal.returns-clause-complete
returns-clause-complete g c = sessions_complete g.P.DeskPort.asks (g.P.DeskPort.airport_of c.args.port.now) _ _ _ c.session_by.ensures.by
