-- Trying the stands for one part beside slots.
use Rattle.std.specs.Prelude.{◌≡◌, ◌<◌, ◌++◌, ◌∷◌, [], ℕ, List, length, Option, None, Some}
use Rattle.std.specs.List.{AllZip}
use Rattle.apron_base.specs.declared.numbers.StandNo.{StandNo}
use Rattle.apron_base.specs.declared.slot.Slot.{Slot}
use Rattle.apron_rules.specs.declared.parts.AirportParts.{AirportParts}
use Rattle.apron_rules.specs.Clash.{IsFirstClash}
use Rattle.apron_rules.specs.Neighbours.{first_stands}
use Rattle.apron_rules.specs.Rules.{unfit_of}
use Rattle.visit_book.specs.declared.visits.Place.TheVariants.{Planned}
use Rattle.visit_book.specs.declared.visits.Visit.{Visit}
use Rattle.visit_book.specs.Slots.{slot_on}
use Rattle.plan_core.specs.Edits.{part_at_place}
use Rattle.visit_book.specs.declared.visits.PartRow.{PartRow}
use Rattle.stand_proposer.specs.declared.proposals.Why.{Why}
use Rattle.stand_proposer.specs.declared.proposals.Why.TheVariants as why
use Rattle.stand_proposer.specs.declared.trials.Tried.{Tried}
use Rattle.stand_proposer.specs.declared.trials.Tried.TheVariants.{Fits, Refused}

-- the slot of a part of the visit if it is put on the stand
abbrev pub slot_at : AirportParts → Visit → PartRow → StandNo → Slot
slot_at airport visit row stand =
    slot_on airport visit row.id.part (part_at_place (Planned stand) row.part) stand

-- the type does not fit; or else the first clash after the slot is added to others, if there is one
abbrev pub IsTrial : AirportParts → List Slot → Slot → Option Why → Type 0
IsTrial airport others slot (Some (why.Unfit by)) = unfit_of airport slot.stand slot.kind ≡ Some by
IsTrial airport others slot (Some (why.Clash clash)) =
    (unfit_of airport slot.stand slot.kind ≡ None)
    × IsFirstClash airport (others ++ slot ∷ []) (Some clash)
IsTrial airport others slot None =
    (unfit_of airport slot.stand slot.kind ≡ None) × IsFirstClash airport (others ++ slot ∷ []) None

-- why each stand below this count does not take the part, in order
abbrev pub AreTrials : AirportParts → List Slot → Visit → PartRow → ℕ → List Why → Type 0
AreTrials airport others visit row count whys =
    AllZip (λ stand why. IsTrial airport others (slot_at airport visit row stand) (Some why))
    (first_stands count) whys

-- the slot is on the first stand that takes the part
pub record IsFirstTaker (airport : AirportParts) (others : List Slot)
    (visit : Visit) (row : PartRow) (slot : Slot) : Type 0 where
  pub stand : StandNo
  pub inside : stand.0 < length airport.stands
  pub is : slot ≡ slot_at airport visit row stand
  pub takes : IsTrial airport others slot None
  pub whys : List Why
  pub before : AreTrials airport others visit row stand.0 whys

-- the stands were tried in order for the part
abbrev pub IsTriedOn : AirportParts → List Slot → Visit → PartRow → Tried → Type 0
IsTriedOn airport others visit row (Fits slot) = IsFirstTaker airport others visit row slot
IsTriedOn airport others visit row (Refused whys) =
    AreTrials airport others visit row (length airport.stands) whys
