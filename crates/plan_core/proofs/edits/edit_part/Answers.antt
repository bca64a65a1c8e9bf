use Rattle.std.proofs.Common.{◌≡◌, ◌<◌, ◌∙◌, ℕ, false, true, ap, length, refl, subst, sym, None, Some}
use Rattle.apron_base.specs.declared.numbers.StandNo.{StandNo}
use Rattle.apron_base.specs.declared.numbers.VisitNo.{VisitNo}
use Rattle.apron_rules.specs.declared.parts.AirportParts.{AirportParts}
use Rattle.visit_book.specs.declared.edits.Edit.{Edit}
use Rattle.visit_book.specs.declared.edits.Edit.TheVariants.{Put}
use Rattle.visit_book.specs.declared.visits.Part.{Part}
use Rattle.visit_book.specs.declared.visits.Place.{Place}
use Rattle.visit_book.specs.declared.visits.Place.TheVariants.{Planned, Unplaced}
use Rattle.visit_book.specs.declared.visits.Visit.{Visit}
use Rattle.visit_book.specs.Edits.{IsEditOf, part_of}
use Rattle.visit_book.specs.Ends.{is_live}
use Rattle.visit_book.specs.PartFields.{part_at}
use Rattle.visit_book.specs.Places.{IsPlaceOf, is_actual}
use Rattle.visit_book.specs.WellFormed.{IsWellFormed}
use Rattle.plan_core.specs.Edits.{part_at_place, with_part}
use Rattle.plan_core.proofs.EditKept.{placed_keeps}
use Rattle.plan_core.proofs.edits.edit_part.Goals as goal

-- the visit with its part in another place
formed_by : (a : AirportParts) (visit result : Visit) (j k : ℕ) (part put : Part) (place : Place) → result ≡ with_part visit j put → j ≡ k → put ≡ part_at_place place part
    → part_at visit.parts k ≡ Some part → IsPlaceOf a place → is_actual place ≡ false → is_live visit ≡ true → IsWellFormed a visit → IsWellFormed a result
formed_by a visit result j k part put place made number is found here planned live h =
    subst (IsWellFormed a) (sym (made ∙ (ap (λ n. with_part visit n put) number ∙ ap (with_part visit k) is)))
    (placed_keeps a visit k part place found here planned live h)

-- the stand of an edit of the airport
stand_there : (a : AirportParts) (edit : Edit) (visit : VisitNo) (part : ℕ) (stand : StandNo) → edit ≡ Put visit part stand → IsEditOf a edit
    → stand.0 < length a.stands
stand_there a edit visit part stand is h = subst (IsEditOf a) is h

pub returns-in_default-clause-well_formed : goal.returns-in_default-clause-well_formed
returns-in_default-clause-well_formed c =
    formed_by c.args.airport.now c.args.visit.now c.with_part.result c.part_of-place.result (part_of c.args.edit.now) c.args.part c.part_at_place.result (Planned c.in-Put.stand)
    c.with_part.ensures.is c.part_of-place.ensures.is c.part_at_place.ensures.is c.requires.part
    (stand_there c.args.airport.now c.args.edit.now c.in-Put.visit c.in-Put.part c.in-Put.stand c.in-Put.is c.requires.stand) refl c.requires.live c.requires.well_formed

pub returns-in-Lift-clause-well_formed : goal.returns-in-Lift-clause-well_formed
returns-in-Lift-clause-well_formed c =
    formed_by c.args.airport.now c.args.visit.now c.with_part-in-Lift.result c.part_of-place.result (part_of c.args.edit.now) c.args.part c.part_at_place-in-Lift.result (Unplaced None)
    c.with_part-in-Lift.ensures.is c.part_of-place.ensures.is c.part_at_place-in-Lift.ensures.is c.requires.part tt refl c.requires.live c.requires.well_formed
