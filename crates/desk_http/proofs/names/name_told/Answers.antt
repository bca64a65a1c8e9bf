use Rattle.desk_bodies.proofs.Names.{named}
use Rattle.desk_http.proofs.names.name_told.Goals as goal

pub returns : goal.returns
returns c = record { name = named c.args.text.now _ c.new.ensures.form }
