use Rattle.desk_http.proofs.Complete.{sessions_complete}
use Rattle.desk_http.proofs.laws.sessions_are_complete.Goals as goal

pub returns : goal.returns
returns g c = record { complete = sessions_complete g.P.DeskPort.asks }
