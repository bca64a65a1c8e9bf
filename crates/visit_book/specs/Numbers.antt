-- Visits by their numbers.
use Rattle.std.specs.Prelude.{◌≡◌, ◌+◌, ◌==◌, ℕ, Bool, List, [], ◌∷◌, Option, find, if◌then◌else◌}
use Rattle.apron_base.specs.declared.numbers.VisitNo.{VisitNo}
use Rattle.visit_book.specs.declared.visits.Visit.{Visit}

-- the visits are numbered in order, and the first has the number after this one
abbrev pub IsNumberedAbove : ℕ → List Visit → Type 0
IsNumberedAbove number [] = Unit {0}
IsNumberedAbove number (visit ∷ visits) = (visit.number.0 ≡ number + 1)
    × IsNumberedAbove (number + 1) visits

-- the visits are numbered from 1 in order
abbrev pub IsNumbered : List Visit → Type 0
IsNumbered visits = IsNumberedAbove 0 visits

-- the visit has this number
abbrev pub has_number : VisitNo → Visit → Bool
has_number number visit = visit.number.0 == number.0

-- the visit of a number
abbrev pub visit_at : List Visit → VisitNo → Option Visit
visit_at visits number = find (has_number number) visits

-- the visits, with this one in the place of the one of its number
abbrev pub with_visit : List Visit → Visit → List Visit
with_visit [] visit = []
with_visit (other ∷ visits) visit =
    if has_number visit.number other then visit ∷ visits else other ∷ with_visit visits visit
