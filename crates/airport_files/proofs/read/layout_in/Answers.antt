use Rattle.std.proofs.Common.{inr, None, Some}
use Rattle.toml.specs.View.{table_view}
use Rattle.airport_files.proofs.Meanings.{layout_is}
use Rattle.airport_files.proofs.read.layout_in.Goals as goal

pub returns-in-Ok-clause-layout : goal.returns-in-Ok-clause-layout
returns-in-Ok-clause-layout c = rw (layout_is c.args.airport.now (Some (table_view c.in-Ok.table)) c.in-Ok.ensures.ok) c.layout_from.ensures.layout

pub returns-in-Err-NotToml-clause-layout : goal.returns-in-Err-NotToml-clause-layout
returns-in-Err-NotToml-clause-layout c = inr (layout_is c.args.airport.now None (c.in-Err-NotToml.ensures.refused c.in-Err-NotToml.field-0-is))
