use Rattle.std.proofs.Common.{length}
use Rattle.csv.specs.Reading.{strip_bom}
use Rattle.csv.specs.declared.parser.State.TheVariants as st
use Rattle.season_files.proofs.read.read_season.Goals as goal

pub returns-clause-read : goal.returns-clause-read
returns-clause-read c =
    let (t, rest, at, same) = c.in_ok-read_season_header.ensures.ok (length c.args.text.now) st.StartRecord (strip_bom c.args.text.now) c.start-rdr.ensures.start in
    rw same (c.read_visits.ensures.value t rest at)
