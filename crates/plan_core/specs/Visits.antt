-- The visits that a plan keeps, and where each name and each flight is found among them.
use Rattle.std.specs.Prelude.{◌≡◌, ◌≤◌, ◌+◌, ℕ, List, None, Option, length, map, position, take, if◌then◌else◌}
use Rattle.std.specs.BTreeMap.{BTreeMap, get}
use Rattle.std.specs.Cmp.Lexicographic.{slice_cmp}
use Rattle.std.specs.Ordering.{nat_cmp}
use Rattle.visit_book.specs.declared.visits.Key.{Key}
use Rattle.visit_book.specs.declared.visits.Visit.{Visit}
use Rattle.visit_book.specs.Ends.{is_live}
use Rattle.visit_book.specs.Numbers.{IsNumbered}
use Rattle.plan_core.specs.Names.{HaveDifferentNames, has_name}

-- visits in order of number, and how many can be added to them without taking memory
pub record VisitsHeld : Type 0 where
  pub kept : List Visit
  pub room : ℕ

-- the flight by which the visit comes, if it is live
abbrev pub arrival_of : Visit → Option Key
arrival_of visit = if is_live visit then visit.arr else None

-- the flight by which the visit leaves, if it is live
abbrev pub departure_of : Visit → Option Key
departure_of visit = if is_live visit then visit.dep else None

-- no two visits have the same name, and the map has the places of this many first ones
pub record AreNamed (places : BTreeMap (List ℕ) ℕ) (named : ℕ) (visits : List Visit) : Type 0 where
  pub different : HaveDifferentNames visits
  pub few : named ≤ length visits
  pub index : (name : List ℕ)
      → get (slice_cmp nat_cmp) places name ≡ position (has_name name) (take named visits)

-- the visits are numbered in order, the map has the places of the names of this many first ones,
-- and the keys are those of the flights by which live visits come and leave
pub record AreListed (places : BTreeMap (List ℕ) ℕ) (named : ℕ)
    (arrivals departures : List (Option Key)) (visits : List Visit) : Type 0 where
  pub numbered : IsNumbered visits
  pub names : AreNamed places named visits
  pub arriving : map arrival_of visits ≡ arrivals
  pub departing : map departure_of visits ≡ departures

-- the visit's number is from 1 to this count, or the next
abbrev pub IsThereOrNext : ℕ → Visit → Type 0
IsThereOrNext count visit = (1 ≤ visit.number.0) × (visit.number.0 ≤ count + 1)
