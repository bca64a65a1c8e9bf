use Rattle.std.proofs.Common.{length}
use Rattle.csv.specs.Reading.{strip_bom}
use Rattle.csv.specs.declared.parser.State.TheVariants as st
use Rattle.airport_files.proofs.types.read_table.Goals as goal

pub returns : goal.returns
returns c =
    let (t, rest, at, same) = c.in_ok-columns.ensures.ok (length c.args.text.now) st.StartRecord (strip_bom c.args.text.now) c.start-rdr.ensures.start in
    record { value = rw same (c.read_rows.ensures.value t rest at) }
