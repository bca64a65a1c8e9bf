use Rattle.std.proofs.Common.{◌≡◌, Result, Ok, Err, OnOk}
use Rattle.matchit.specs.Route.{Scan, parse_route}
use Rattle.matchit.specs.Router.{InsertsRead}
use Rattle.matchit.specs.declared.error.InsertError.{InsertError}
use Rattle.desk_http.specs.Table.{Table, with_read, with_route}
use Rattle.desk_http.specs.declared.targets.Endpoint.{Endpoint}
use Rattle.desk_http.proofs.targets.add_route.Goals as goal

inserted : (read : Result Scan InsertError) (value : Endpoint) (old new : Table) (r : Result (Unit {0}) InsertError)
    → InsertsRead read value old new r → OnOk r (new ≡ with_read read value old)
inserted (Ok scan) value old new (Ok done) h = h.1
inserted (Ok scan) value old new (Err fault) h = tt
inserted (Err fault) value old new (Ok done) h = h.0
inserted (Err fault) value old new (Err other) h = tt

pub returns : goal.returns
unfolding with_route
returns c = record { added = inserted (parse_route c.args.pattern.now) c.args.endpoint c.args.router.now c.insert.new.self c.insert.result c.insert.ensures }
