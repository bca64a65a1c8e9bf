use Rattle.std.proofs.Common.{◌∙◌}
use Rattle.airport_files.proofs.RowWalk.{tables}
use Rattle.airport_files.proofs.layout.are_tables.Goals as goal

pub returns : goal.returns
returns c = record { is = c.all_are_tables.ensures.is ∙ rw c.as_slice.ensures.value (tables c.args.array.now.items) }
