-- The parts that lost their stands by an entry.
use Rattle.std.specs.Prelude.{◌+◌, ◌==◌, ◌∷◌, [], ◌++◌, ℕ, Bool, false, List, Some, if◌then◌else◌}
use Rattle.std.specs.List.{flat_map}
use Rattle.apron_base.specs.declared.numbers.PartId.{PartId}
use Rattle.visit_book.specs.declared.visits.Part.{Part}
use Rattle.visit_book.specs.declared.visits.Place.{Place}
use Rattle.visit_book.specs.declared.visits.Place.TheVariants.{Unplaced}
use Rattle.visit_book.specs.declared.visits.Visit.{Visit}

-- the record of the place, if it has one, names this entry
abbrev pub is_bumped_by : ℕ → Place → Bool
is_bumped_by entry (Unplaced (Some bump)) = bump.entry == entry
is_bumped_by entry place = false

-- of these parts of the visit, the first of which has this number, those that lost their stands by
-- the entry
abbrev pub bumped_from : ℕ → Visit → ℕ → List Part → List PartId
bumped_from entry visit number [] = []
bumped_from entry visit number (part ∷ parts) =
    (if is_bumped_by entry part.place then record { visit = visit.number; part = number } ∷ []
    else []) ++ bumped_from entry visit (number + 1) parts

-- the parts of a visit that lost their stands by the entry
abbrev pub bumped_of : ℕ → Visit → List PartId
bumped_of entry visit = bumped_from entry visit 1 visit.parts

-- the parts that lost their stands by the entry, in order of visit and part
abbrev pub bumped_by : ℕ → List Visit → List PartId
bumped_by entry visits = flat_map (bumped_of entry) visits
