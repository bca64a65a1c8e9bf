-- What happens to a visit, by a message or a report, changes only its parts, whether it is on
-- block, and its end.
use Rattle.std.specs.Prelude.{◌≡◌, List, Contains, Some}
use Rattle.visit_book.specs.declared.visits.Bump.{Bump}
use Rattle.visit_book.specs.declared.visits.Part.{Part}
use Rattle.visit_book.specs.declared.visits.Place.TheVariants.{Unplaced}
use Rattle.visit_book.specs.declared.visits.Visit.{Visit}
use Rattle.visit_book.specs.NewVisits.{new_of}
use Rattle.visit_book.specs.Numbers.{visit_at}

-- one of the parts has this record of what took its stand
pub record IsBumpOf (parts : List Part) (bump : Bump) : Type 0 where
  pub part : Part
  pub among : Contains parts part
  pub place : part.place ≡ Unplaced (Some bump)

-- the visit after is the same as before: it has the same number, the data that it was added with,
-- and the entries that added it and edited it last; and each record of what took a stand of its
-- parts is one of the parts before
pub record IsOneVisit (before after : Visit) : Type 0 where
  pub number : after.number ≡ before.number
  pub new : new_of after ≡ new_of before
  pub added : after.added ≡ before.added
  pub edited : after.edited ≡ before.edited
  pub bumps : (bump : Bump) → IsBumpOf after.parts bump → IsBumpOf before.parts bump

-- the visit is one of these, changed
pub record IsOneOf (visits : List Visit) (after : Visit) : Type 0 where
  pub before : Visit
  pub found : visit_at visits after.number ≡ Some before
  pub one : IsOneVisit before after
