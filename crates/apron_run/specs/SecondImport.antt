-- What a second import of the same visits comes to.
use Rattle.std.specs.Prelude.{◌≡◌, ℕ, List, length}
use Rattle.apron_base.specs.Histories.{Every}
use Rattle.apron_rules.specs.declared.parts.AirportParts.{AirportParts}
use Rattle.visit_book.specs.declared.visits.NewVisit.{NewVisit}
use Rattle.history_core.specs.History.{IsLegal, replay}
use Rattle.apron_run.specs.Asking.{AsksSeason, IsThere, MeetsAll}
use Rattle.apron_run.specs.Opened.{Reached}
use Rattle.apron_run.specs.declared.imported.Imported.{Imported}
use Rattle.apron_run.specs.declared.imported.Imported.TheVariants.{Whole, Spent, Memory}

-- after an import that met each visit all of them are there
abbrev pub AllAreThere : Type 0
AllAreThere = (airport : AirportParts) (visits : List NewVisit) (before after : Reached)
    → IsLegal airport after.history
    → MeetsAll airport visits before after → Every (IsThere (replay airport after.history)) visits

-- an import of this many visits found all of them there, or it ran out of memory or of call numbers
abbrev pub AddsNothing : ℕ → Imported → Type 0
AddsNothing visits (Whole added present) = (added ≡ 0) × (present ≡ visits)
AddsNothing visits Spent = Unit {0}
AddsNothing visits Memory = Unit {0}
AddsNothing visits imported = ⊥

-- a second import of the same visits, into the history that the first one left, adds nothing
abbrev pub SecondAddsNothing : Type 0
SecondAddsNothing =
    (airport : AirportParts) (visits : List NewVisit) (before after again left : Reached)
    (imported : Imported)
    → IsLegal airport after.history
    → MeetsAll airport visits before after
    → again.history ≡ after.history
    → AsksSeason airport visits again left imported
    → (left.history ≡ after.history) × AddsNothing (length visits) imported
