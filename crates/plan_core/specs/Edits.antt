-- What edits make of visits, and why they are refused. Edits are counted from 1.
use Rattle.std.specs.Prelude.{◌+◌, ◌-◌, ◌==◌, nat_lt, ℕ, Bool, not, List, [], ◌∷◌, Option, None, Some, Result, Ok, Err, ok_or, filter, slice_set}
use Rattle.std.specs.List.{list_any}
use Rattle.apron_base.specs.ResultChain.{◌>>=◌, refuse_if}
use Rattle.apron_rules.specs.declared.parts.AirportParts.{AirportParts}
use Rattle.apron_rules.specs.declared.rules.UnfitBy.{UnfitBy}
use Rattle.apron_rules.specs.Rules.{unfit_of}
use Rattle.visit_book.specs.declared.visits.Visit.{Visit}
use Rattle.visit_book.specs.declared.visits.Part.{Part}
use Rattle.visit_book.specs.declared.visits.Place.{Place}
use Rattle.visit_book.specs.declared.visits.Place.TheVariants.{Unplaced, Planned}
use Rattle.visit_book.specs.declared.edits.Edit.{Edit}
use Rattle.visit_book.specs.declared.edits.Edit.TheVariants.{Put, Lift, Cut, Join}
use Rattle.visit_book.specs.declared.edits.EditFault.{EditFault}
use Rattle.visit_book.specs.declared.edits.EditFault.TheVariants.{UnknownVisit, Overtaken, Gone, NoSuchPart, OnBlock, BadCut, BadJoin, Unfit}
use Rattle.visit_book.specs.Changes.{cut_of, has_actual_behind, join_of, with_parts}
use Rattle.visit_book.specs.Edits.{part_of, visit_of}
use Rattle.visit_book.specs.Ends.{is_live}
use Rattle.visit_book.specs.Numbers.{visit_at, with_visit}
use Rattle.visit_book.specs.PartFields.{part_at}
use Rattle.visit_book.specs.Places.{is_actual}

-- a fault if the type does not fit the stand
abbrev pub refuse_unfit : ℕ → Option UnfitBy → Result (Unit {0}) EditFault
refuse_unfit number (Some by) = Err (Unfit number by)
refuse_unfit number None = Ok tt

-- the same part at this place
abbrev pub part_at_place : Place → Part → Part
part_at_place place part = record part { place = place }

-- the visit with another part of this number
abbrev pub with_part : Visit → ℕ → Part → Visit
with_part visit number part = with_parts visit (slice_set visit.parts (number - 1) part)

-- what an edit of this number makes of the visit that has this part, or the first cause why it does
-- not apply; each kind of edit has its lines
abbrev pub edit_part : AirportParts → ℕ → Edit → Visit → Part → Result Visit EditFault
edit_part airport number (Put of k stand) visit part = do
  planned ← refuse_if (is_actual part.place) (OnBlock number)
  fits ← refuse_unfit number (unfit_of airport stand visit.kind)
  Ok (with_part visit k (part_at_place (Planned stand) part))
edit_part airport number (Lift of k) visit part = do
  planned ← refuse_if (is_actual part.place) (OnBlock number)
  Ok (with_part visit k (part_at_place (Unplaced None) part))
edit_part airport number (Cut of k at) visit part = do
  planned ← refuse_if (has_actual_behind k visit) (OnBlock number)
  ok_or (cut_of airport k at visit) (BadCut number)
edit_part airport number (Join of k) visit part = do
  planned ← refuse_if (has_actual_behind k visit) (OnBlock number)
  ok_or (join_of k visit) (BadJoin number)

-- what an edit makes of its visit: it is refused if a commit after the draft's base edited the
-- visit, if the visit is not live, and if there is no such part
abbrev pub edit_visit : AirportParts → ℕ → ℕ → Edit → Visit → Result Visit EditFault
edit_visit airport base number edit visit = do
  fresh ← refuse_if (nat_lt base visit.edited) (Overtaken number visit.number visit.edited)
  live ← refuse_if (not (is_live visit)) (Gone number)
  part ← ok_or (part_at visit.parts (part_of edit)) (NoSuchPart number)
  edit_part airport number edit visit part

-- what an edit of this number makes of the visits: it is refused if its visit doesn't exist
abbrev pub after_edit : AirportParts → ℕ → ℕ → Edit → List Visit → Result (List Visit) EditFault
after_edit airport base number edit visits = do
  visit ← ok_or (visit_at visits (visit_of edit)) (UnknownVisit number)
  after ← edit_visit airport base number edit visit
  Ok (with_visit visits after)

-- what edits, the first of which has this number, make of the visits in order, or the first
-- refusal; the edits do not set which commit edited a visit last
abbrev pub after_edits : AirportParts → ℕ → ℕ → List Edit → List Visit
    → Result (List Visit) EditFault
after_edits airport base number [] visits = Ok visits
after_edits airport base number (edit ∷ edits) visits = do
  after ← after_edit airport base number edit visits
  after_edits airport base (number + 1) edits after

-- what all edits of a draft made over this base make of the visits, before any clash is looked for
abbrev pub after_all_edits : AirportParts → ℕ → List Edit → List Visit
    → Result (List Visit) EditFault
after_all_edits airport base edits visits = after_edits airport base 1 edits visits

-- the edit changes the visit of this number
abbrev pub is_of_visit : ℕ → Edit → Bool
is_of_visit number edit = (visit_of edit).0 == number

-- some edit changes the visit of this number
abbrev pub is_edited : List Edit → ℕ → Bool
is_edited edits number = list_any (is_of_visit number) edits

-- the visits that the edits change
abbrev pub edited_visits : List Edit → List Visit → List Visit
edited_visits edits visits = filter (λ visit. is_edited edits visit.number.0) visits
