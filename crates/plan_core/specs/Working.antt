-- The visits on which a draft's edits are tried.
use Rattle.std.specs.Prelude.{nat_le, Bool, List, insert, is_some, map, unwrap_or, if◌then◌else◌}
use Rattle.std.specs.List.{position_or_len}
use Rattle.apron_base.specs.declared.numbers.VisitNo.{VisitNo}
use Rattle.visit_book.specs.declared.edits.Edit.{Edit}
use Rattle.visit_book.specs.declared.edits.Edit.TheVariants.{Put, Lift, Cut, Join}
use Rattle.visit_book.specs.declared.visits.Part.{Part}
use Rattle.visit_book.specs.declared.visits.Visit.{Visit}
use Rattle.visit_book.specs.Changes.{has_actual_behind}
use Rattle.visit_book.specs.Numbers.{visit_at}
use Rattle.visit_book.specs.Places.{is_actual}

-- the visit has this number or a greater one
abbrev pub is_from : VisitNo → Visit → Bool
is_from number visit = nat_le number.0 visit.number.0

-- the visits with this one before those of greater numbers, unless there is one of its number
-- already
abbrev pub with_visit_once : List Visit → Visit → List Visit
with_visit_once visits visit =
    if is_some (visit_at visits visit.number) then visits
    else insert visits (position_or_len (is_from visit.number) visits) visit

-- the visit, or the one of its number among others
abbrev pub newest : List Visit → Visit → Visit
newest others visit = unwrap_or (visit_at others visit.number) visit

-- the visits, each replaced by the one of its number among others
abbrev pub replace_visits : List Visit → List Visit → List Visit
replace_visits visits others = map (newest others) visits

-- for a put or a lift the part is actual, for a cut or a join a later part is
abbrev pub is_on_block : Edit → Visit → Part → Bool
is_on_block (Put of k stand) visit part = is_actual part.place
is_on_block (Lift of k) visit part = is_actual part.place
is_on_block (Cut of k at) visit part = has_actual_behind k visit
is_on_block (Join of k) visit part = has_actual_behind k visit
