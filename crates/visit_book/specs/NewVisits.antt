-- What visits are added with.
use Rattle.std.specs.Prelude.{◌≡◌, ◌≤◌, ◌<◌, ◌+◌, ◌&&◌, ◌++◌, ℕ, Bool, true, false, nat_le, nat_lt, [], ◌∷◌, length, None, IfSome, option_to_list}
use Rattle.std.specs.List.{list_all}
use Rattle.mvt_grammar.specs.Readable.{IsFlight}
use Rattle.apron_rules.specs.declared.parts.AirportParts.{AirportParts}
use Rattle.apron_rules.specs.Rules.{least_of}
use Rattle.visit_book.specs.declared.visits.Key.{Key}
use Rattle.visit_book.specs.declared.visits.NewVisit.{NewVisit}
use Rattle.visit_book.specs.declared.visits.Visit.{Visit}
use Rattle.visit_book.specs.declared.visits.End.TheVariants.{Live}
use Rattle.visit_book.specs.declared.visits.Place.TheVariants.{Unplaced}
use Rattle.visit_book.specs.WellFormed.{greatest_class, plan_end}

-- the flight of a key is one that a text can write
abbrev pub HasFlight : Key → Type 0
HasFlight key = IsFlight key.flight

-- the day of a key is the day before the airport's plan, or one of it
abbrev pub is_key_in_time : AirportParts → Key → Bool
is_key_in_time airport key = nat_le key.day airport.days

-- the times are valid at the airport: on block before the plan ends; off block by then, and at
-- least the least minutes of the type later; and flights of days of the plan or the day before
abbrev pub is_in_time : AirportParts → NewVisit → Bool
is_in_time airport new =
    nat_lt new.on (plan_end airport)
    && nat_le new.off (plan_end airport)
    && nat_le (new.on + least_of airport new.kind) new.off
    && list_all (is_key_in_time airport) (option_to_list new.arr ++ option_to_list new.dep)

-- what has to hold of a visit's data at any airport: a class, and flights
pub record IsNewVisit (new : NewVisit) : Type 0 where
  pub class : new.class ≤ greatest_class
  pub arr : IfSome new.arr HasFlight
  pub dep : IfSome new.dep HasFlight

-- the same at this airport: the type is one of its types, and the times are valid there
pub record IsNewVisitOf (airport : AirportParts) (new : NewVisit) : Type 0 where
  pub new_visit : IsNewVisit new
  pub kind : new.kind.0 < length airport.types
  pub in_time : is_in_time airport new ≡ true

-- the visit of this number, added by the entry that makes this version: it is expected, with one
-- part that is on no stand yet, and no commit edited it
abbrev pub added_visit : ℕ → ℕ → NewVisit → Visit
added_visit number version new = record {
  number = record { 0 = number };
  name = new.name;
  kind = new.kind;
  class = new.class;
  on = new.on;
  off = new.off;
  arr = new.arr;
  dep = new.dep;
  parts = record { from = new.on; to = new.off; place = Unplaced None } ∷ [];
  on_block = false;
  end = Live;
  added = version;
  edited = 0;
}

-- what a visit was added with
abbrev pub new_of : Visit → NewVisit
new_of visit = record {
  name = visit.name;
  kind = visit.kind;
  class = visit.class;
  on = visit.on;
  off = visit.off;
  arr = visit.arr;
  dep = visit.dep;
}
