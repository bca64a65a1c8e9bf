-- Visits by their names.
use Rattle.std.specs.Prelude.{◌≡◌, ℕ, Bool, List, [], ◌∷◌, Option, None, find}
use Rattle.std.specs.Str.{bytes_eq}
use Rattle.visit_book.specs.declared.visits.Visit.{Visit}

-- the visit has this name
abbrev pub has_name : List ℕ → Visit → Bool
has_name name visit = bytes_eq name visit.name

-- the visit of a name
abbrev pub visit_named : List Visit → List ℕ → Option Visit
visit_named visits name = find (has_name name) visits

-- no two visits have the same name
abbrev pub HaveDifferentNames : List Visit → Type 0
HaveDifferentNames [] = Unit {0}
HaveDifferentNames (visit ∷ visits) = (visit_named visits visit.name ≡ None)
    × HaveDifferentNames visits
