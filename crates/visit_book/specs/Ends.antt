-- Whether a visit can still be changed.
use Rattle.std.specs.Prelude.{Bool, true, false}
use Rattle.visit_book.specs.declared.visits.End.{End}
use Rattle.visit_book.specs.declared.visits.End.TheVariants.{Live}
use Rattle.visit_book.specs.declared.visits.Visit.{Visit}

-- a visit with this end, or none, can still be changed
abbrev pub is_open : End → Bool
is_open Live = true
is_open end = false

-- the visit is neither gone nor cancelled
abbrev pub is_live : Visit → Bool
is_live visit = is_open visit.end
