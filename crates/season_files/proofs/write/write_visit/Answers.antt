use Rattle.std.proofs.Common.{◌∙◌, sym}
use Rattle.season_files.proofs.Lines.{fields_row, plain-fields}
use Rattle.season_files.proofs.Times.{IsSeasonVisit}
use Rattle.season_files.proofs.TypeNames.{IsRowOf, name_of_type-is, row_is}
use Rattle.season_files.proofs.write.write_visit.Goals as goal

pub returns : goal.returns
returns c =
    let airport = c.args.airport.now in
    let new = c.args.new.now in
    let row = c.index-as_slice-new.result in
    let here = c.index-as_slice-new.is in
    let name = rw (← here) at c.bytes-2.ensures.name in
    let kind = rw (← here) at c.bytes-2.ensures.value in
    let at : IsRowOf airport new.kind row = row_is airport new.kind row c.requires.new.kind (rw (c.as_slice.ensures.items, c.parts.ensures.value) at here) name in
    let season : IsSeasonVisit airport new = record { name = c.bytes.ensures.name; of_airport = c.requires.new } in
    let line = fields_row airport new _ _ _ _ _ _ _ _ _ c.bytes.ensures.value (kind ∙ sym (name_of_type-is airport new.kind row at.at))
    (c.as_bytes.ensures.value ∙ c.format.ensures.text) (c.as_bytes-2.ensures.value ∙ c.format-2.ensures.text) (c.as_bytes-3.ensures.value ∙ c.format-3.ensures.text)
    (c.as_slice-2.ensures.value ∙ c.in_ok-arr.ensures.text) c.day_field.ensures.text (c.as_slice-3.ensures.value ∙ c.in_ok-dep.ensures.text) c.day_field-2.ensures.text
    (plain-fields airport c.parts.ensures.airport new row season at) in
    record { line = rw line at c.write_row.ensures.row }
