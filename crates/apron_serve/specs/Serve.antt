-- What the program does with the words `serve A T N` and `serve A T N screen DAY`.
use Rattle.std.specs.Prelude.{◌≡◌, ◌⊎◌, ◌+◌, ◌==◌, ◌&&◌, ◌||◌, nat_lt, ℕ, Bool, true, false, List, ◌∷◌, map, Option, None, Some}
use Rattle.apron_base.specs.Counts.{Rose}
use Rattle.apron_base.specs.Listener.{ListenerState}
use Rattle.apron_check.specs.declared.files.AirportFiles.{AirportFiles}
use Rattle.apron_run.specs.End.{EndsAs, EndsUntouched}
use Rattle.apron_run.specs.Statuses.{exit_code}
use Rattle.apron_run.specs.TwoFiles.{WithFiles}
use Rattle.apron_run.specs.World.{World}
use Rattle.apron_run.specs.declared.end.End.{End}
use Rattle.apron_run.specs.declared.end.End.TheVariants as ended
use Rattle.apron_run.specs.declared.status.Status.TheVariants.{Done, Usage, FileFault, ShelfFault, ListenerFault, Memory}
use Rattle.apron_serve.specs.Board.{AtServe, Service}
use Rattle.apron_serve.specs.Orders.{Order, day_shown}

-- whether desks and screens were served
abbrev pub is_attended : End → Bool
is_attended (ended.Attended served) = true
is_attended end = false

-- `serve` with this many screens may end with this number after desks were served
abbrev pub has_served : ℕ → ℕ → Bool
has_served screens code =
    code == exit_code Done
    || code == exit_code ListenerFault
    || (code == exit_code Memory && nat_lt 0 screens)

-- `serve` ends with this number before it comes to the journal
abbrev pub serve_ends_before_journal : ℕ → Bool
serve_ends_before_journal code =
    code == exit_code Usage || code == exit_code FileFault || code == exit_code ShelfFault

module _ {In Out : Type 0} where
  -- each listener has finished this many connections more
  abbrev pub HaveFinished : ℕ → List (ListenerState In Out) → List (ListenerState In Out) → Type 0
  HaveFinished connections before after =
      map (λ (listener : ListenerState In Out). listener.ended) after
      ≡ map (λ (listener : ListenerState In Out). listener.ended + connections) before

  -- the count of faults of one of the listeners rose
  abbrev pub SomeFailed : List (ListenerState In Out) → List (ListenerState In Out) → Type 0
  SomeFailed (before ∷ befores) (after ∷ afters) = Rose before.faults after.faults
      ⊎ SomeFailed befores afters
  SomeFailed befores afters = ⊥

module _ {In Out : Type 0} (service : Service In Out) where
  -- what is done at these files, by the day that screens are to show, if their plan has it
  abbrev pub ServesDay : ℕ → AirportFiles → Option ℕ → World In Out → World In Out → End → Type 0
  ServesDay connections files (Some day) =
      AtServe service (record { connections = connections; day = day }) files
  ServesDay connections files None = EndsUntouched ended.Unasked

  -- what is done for an order, if there is one
  abbrev pub ServesOrder : Option Order → World In Out → World In Out → End → Type 0
  ServesOrder (Some order) =
      WithFiles (λ files. ServesDay order.connections files (day_shown files.airport order.day))
      order.airport order.types
  ServesOrder None = EndsUntouched ended.Unasked

  -- What `serve` does for an order, what a crash meanwhile or after it may leave, the line at its
  -- end, and the status of its number. If there is no order the line `usage` is written, and
  -- nothing else is touched.
  abbrev pub ServesAs : Option Order → World In Out → World In Out → ℕ → Type 0
  ServesAs asked = EndsAs (ServesOrder asked)
