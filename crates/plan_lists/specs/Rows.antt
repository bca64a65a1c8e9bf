-- The parts of visits with their numbers.
use Rattle.std.specs.Prelude.{◌+◌, ℕ, List, [], ◌∷◌}
use Rattle.visit_book.specs.declared.visits.Part.{Part}
use Rattle.visit_book.specs.declared.visits.Visit.{Visit}
use Rattle.visit_book.specs.declared.visits.PartRow.{PartRow}

-- a part of the visit with this number
abbrev pub row : Visit → ℕ → Part → PartRow
row visit number part = record { id = record { visit = visit.number; part = number }; part = part }

-- these parts of the visit, the first of which has this number
abbrev pub rows_from : Visit → ℕ → List Part → List PartRow
rows_from visit number [] = []
rows_from visit number (part ∷ parts) = row visit number part ∷ rows_from visit (number + 1) parts

-- the parts of a visit
abbrev pub rows_of : Visit → List PartRow
rows_of visit = rows_from visit 1 visit.parts
