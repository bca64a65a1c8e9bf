-- What the program's visit means.
use Rattle.std.specs.Prelude.{◌≤◌, IfSome, string_bytes}
use Rattle.visit_book.specs.NewVisits.{HasFlight}
use Rattle.visit_book.specs.WellFormed.{greatest_class}
use Rattle.desk_bodies.specs.Visits.{VisitSaid}
use Rattle.desk_bodies.specs.declared.visits.VisitText.{VisitText}

-- a visit
abbrev pub visit_shown : VisitText → VisitSaid
visit_shown visit = record {
  name = visit.name;
  kind = string_bytes visit.kind;
  class = visit.class;
  on = visit.on;
  off = visit.off;
  arr = visit.arr;
  dep = visit.dep;
}

-- a class, and flights that a text can write
pub record HasForm (visit : VisitText) : Type 0 where
  pub class : visit.class ≤ greatest_class
  pub arr : IfSome visit.arr HasFlight
  pub dep : IfSome visit.dep HasFlight
