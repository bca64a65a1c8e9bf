-- What comes of asking to add the visits of a season, one after the other.
use Rattle.std.specs.Prelude.{◌≡◌, ◌⊎◌, ◌+◌, ℕ, true, None, IfSome, List, [], ◌∷◌, ◌++◌, length}
use Rattle.apron_base.specs.Counts.{Counts}
use Rattle.apron_base.specs.declared.numbers.VisitNo.{VisitNo}
use Rattle.apron_rules.specs.declared.parts.AirportParts.{AirportParts}
use Rattle.visit_book.specs.declared.visits.NewVisit.{NewVisit}
use Rattle.visit_book.specs.declared.visits.Visit.{Visit}
use Rattle.plan_core.specs.Names.{visit_named}
use Rattle.plan_core.specs.PlanState.{PlanState}
use Rattle.desk_asks.specs.declared.asks.Command.TheVariants.{AddVisit}
use Rattle.desk_asks.specs.declared.asks.What.TheVariants.{Change}
use Rattle.history_core.specs.Answer.{added_entries}
use Rattle.history_core.specs.AtRisk.{IsAskedFor}
use Rattle.history_core.specs.History.{call_limit, replay}
use Rattle.history_core.specs.Acceptance.{IsOtherName, IsSameName, Stepped, TakenAs, accepted, full, name, refused, repeated}
use Rattle.apron_run.specs.Opened.{Reached}
use Rattle.apron_run.specs.declared.imported.Imported.{Imported}
use Rattle.apron_run.specs.declared.imported.Imported.TheVariants.{Whole, Refused, Full, DiskFault, Spent, Memory}

-- a visit of the plan has the name, and was added with the same
abbrev pub IsThere : PlanState → NewVisit → Type 0
IsThere plan new = (visit : Visit) × IsSameName plan new visit

-- why a visit is not there that was not added, with the number of its record: a visit with other
-- data has its name, or none has it
abbrev pub IsMissing : PlanState → NewVisit → ℕ → Imported → Type 0
IsMissing plan new number (Refused told) = (told ≡ number)
    × ((visit : Visit) × IsOtherName plan new visit)
IsMissing plan new number (Full told) = (told ≡ number) × (visit_named plan.visits new.name ≡ None)
IsMissing plan new number imported = ⊥

module _ (airport : AirportParts) where
  -- the visit was asked to be added, with the next call number: the plan of the history took it in
  -- this way, and if it was accepted the history has its entry; an entry is at risk only if one was
  -- before
  pub record Asks (before : Reached) (new : NewVisit) (stepped : Stepped)
      (after : Reached) : Type 0 where
    pub takes : TakenAs (replay airport before.history) (length before.history) (AddVisit new)
        stepped
    pub history : after.history ≡ before.history ++ added_entries before.next (AddVisit new) stepped
    pub next : after.next ≡ before.next + 1
    pub faults : after.faults ≡ before.faults
    pub at_risk : before.at_risk ≡ None → after.at_risk ≡ None

  -- the visit was asked to be added once, and was added or was there already
  pub record AsksOnce (before : Reached) (new : NewVisit) (after : Reached) : Type 0 where
    pub stepped : Stepped
    pub met : (stepped ≡ accepted) ⊎ ((entry : ℕ) × (stepped ≡ repeated entry))
    pub asks : Asks before new stepped after

  -- each of these visits was asked to be added once, in order, and was added or was there already
  abbrev pub MeetsAll : List NewVisit → Reached → Reached → Type 0
  MeetsAll [] before after = after ≡ before
  MeetsAll (new ∷ visits) before after =
      (mid : Reached) × AsksOnce before new mid × MeetsAll visits mid after

  -- why the asks stopped at the visit of the record of this number: another visit has its name; it
  -- is new and there is no place for it; the keeper failed at its entry, which alone can have come
  -- to be at risk; there was no call number for it; or memory has run out. It was asked to be added
  -- once, or not at all if there was no number. Only the first two asks were answered, and none
  -- changed the history.
  abbrev pub StopsImport : ℕ → Reached → NewVisit → Reached → Imported → Type 0
  StopsImport number at new after (Refused told) = (told ≡ number)
      × ((other : VisitNo) × Asks at new (refused (name other)) after)
  StopsImport number at new after (Full told) = (told ≡ number) × Asks at new full after
  StopsImport number at new after DiskFault =
      TakenAs (replay airport at.history) (length at.history) (AddVisit new) accepted
      × (after.history ≡ at.history)
      × (after.next ≡ at.next + 1)
      × Counts true at.faults after.faults
      × (at.at_risk ≡ None → IfSome after.at_risk (IsAskedFor at.next (Change (AddVisit new))))
  StopsImport number at new after Spent = (at.next ≡ call_limit) × (after ≡ at)
  StopsImport number at new after Memory =
      (after.history ≡ at.history)
      × (after.next ≡ at.next + 1)
      × (after.faults ≡ at.faults)
      × (at.at_risk ≡ None → after.at_risk ≡ None)
  StopsImport number at new after imported = ⊥

  -- the visits before one of these were asked and met, and then the asks stopped: those after it
  -- were not asked; records are counted from 1 with the header
  pub record StopsAmong (visits : List NewVisit) (before after : Reached)
      (imported : Imported) : Type 0 where
    pub front : List NewVisit
    pub new : NewVisit
    pub back : List NewVisit
    pub are : visits ≡ front ++ new ∷ back
    pub at : Reached
    pub met : MeetsAll front before at
    pub stops : StopsImport (length front + 2) at new after imported

  -- these visits were asked to be added, each at most once and in order: all of them, of which so
  -- many entries came, and the others were there already; or up to one at which the asks stopped
  abbrev pub AsksSeason : List NewVisit → Reached → Reached → Imported → Type 0
  AsksSeason visits before after (Whole added present) =
      MeetsAll visits before after
      × (length after.history ≡ length before.history + added)
      × (added + present ≡ length visits)
  AsksSeason visits before after imported = StopsAmong visits before after imported
