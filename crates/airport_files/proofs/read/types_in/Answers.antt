use Rattle.std.proofs.Common.{inr, Ok, Err}
use Rattle.airport_files.proofs.Meanings.{types_are}
use Rattle.airport_files.proofs.read.types_in.Goals as goal

pub returns-in-Ok : goal.returns-in-Ok
returns-in-Ok c = record { value = types_are c.args.types.now (Ok c.in-Ok.rows) c.in-Ok.ensures.value }

pub returns-in-Err-BadRow : goal.returns-in-Err-BadRow
returns-in-Err-BadRow c = record { value = inr (types_are c.args.types.now (Err c.in-Err-BadRow.k) (rw c.in-Err-BadRow.field-0-is at c.in-Err-BadRow.ensures.value)) }
