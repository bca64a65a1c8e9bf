-- What an edit changes.
use Rattle.std.specs.Prelude.{◌<◌, ℕ, length}
use Rattle.apron_base.specs.declared.numbers.VisitNo.{VisitNo}
use Rattle.apron_rules.specs.declared.parts.AirportParts.{AirportParts}
use Rattle.visit_book.specs.declared.edits.Edit.{Edit}
use Rattle.visit_book.specs.declared.edits.Edit.TheVariants.{Put, Lift, Cut, Join}

-- the most edits of a commit
abbrev pub most_edits : ℕ
most_edits = 64

-- the visit that an edit changes
abbrev pub visit_of : Edit → VisitNo
visit_of (Put visit part stand) = visit
visit_of (Lift visit part) = visit
visit_of (Cut visit part at) = visit
visit_of (Join visit part) = visit

-- the part that an edit changes, counted from 1
abbrev pub part_of : Edit → ℕ
part_of (Put visit part stand) = part
part_of (Lift visit part) = part
part_of (Cut visit part at) = part
part_of (Join visit part) = part

-- the edit's stand, if it has one, is one of the airport
abbrev pub IsEditOf : AirportParts → Edit → Type 0
IsEditOf airport (Put visit part stand) = stand.0 < length airport.stands
IsEditOf airport edit = Unit {0}
