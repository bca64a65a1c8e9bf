use Rattle.std.proofs.Common.{[], refl}
use Rattle.season_files.specs.Texts.{columns, line}
use Rattle.season_files.proofs.Lines.{grown, header_row}
use Rattle.season_files.proofs.write.write_header.Goals as goal

pub returns : goal.returns
returns c =
    let (writing, text) = c.in_ok-write_row.ensures.row c.start_writing-wtr.ensures.start in
    record { header = (writing, grown _ _ [] (line columns) (line columns) c.start_writing-wtr.ensures.none (rw header_row at text) refl) }
