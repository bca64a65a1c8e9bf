-- All that is ordered is served if it is valid and nothing fails.
use Rattle.std.proofs.Common.{◌≡◌, ◌≢◌, ◌∙◌, ℕ, List, Option, None, Some, inl, inr, refl, ap, ⊎_elim}
use Rattle.std.specs.Prelude.{IsSome}
use Rattle.apron_base.specs.Counts.{Rose}
use Rattle.desk_asks.specs.declared.asks.Entry.{Entry}
use Rattle.screen_server.specs.declared.shown.Task.{Task}
use Rattle.apron_check.specs.declared.files.AirportFiles.{AirportFiles}
use Rattle.apron_run.specs.End.{status_of}
use Rattle.apron_run.specs.Statuses.{exit_code}
use Rattle.apron_run.specs.World.{World}
use Rattle.apron_run.specs.declared.end.End.{End}
use Rattle.apron_run.specs.declared.end.End.TheVariants.{Attended, Memory as Wanting, Unusable as Unworkable}
use Rattle.apron_run.specs.declared.end.ServeEnd.TheVariants as served
use Rattle.apron_run.specs.declared.status.Status.TheVariants.{ListenerFault}
use Rattle.apron_run.proofs.Complete.{ends_well}
use Rattle.apron_run.proofs.Completing.{Well, files_well}
use Rattle.apron_run.proofs.Valid.{HasJournal, unopened_wants}
use Rattle.apron_serve.specs.Board.{AtServe, Service}
use Rattle.apron_serve.specs.Complete.{IsServeComplete}
use Rattle.apron_serve.specs.Orders.{Order, day_shown}
use Rattle.apron_serve.specs.Serve.{ServesDay, ServesAs}
use Rattle.apron_serve.proofs.Endings.{AnyFailed}

module _ {In Out : Type 0} (service : Service In Out) where
  module _ (made : AirportFiles) (history : List Entry) (before after : World In Out) (has : HasJournal made before.disk history)
      (still : ¬ (Rose before.disk.faults after.disk.faults)) (end : End) (fine : status_of end ≢ ListenerFault) where
    -- what was done at a journal that opens
    at_well : (task : Task) (so : End) → status_of so ≢ ListenerFault → AtServe service task made before after so → Well (status_of so)
    at_well task (Attended served.Done) all at = inl refl
    at_well task (Attended served.ListenerFault) all at = absurd (all refl)
    at_well task (Attended served.Missed) all at = inr refl
    at_well task Wanting all at = inr refl
    at_well task (Unworkable why) all at = inr (unopened_wants made before.disk after.disk history has why at.uses still)
    at_well task so all at = absurd at.2

    -- what was done if the plan has the day
    day_well : (connections : ℕ) (day : Option ℕ) → IsSome day → ServesDay service connections made day before after end → Well (status_of end)
    day_well connections (Some day) shown at = at_well (record { connections = connections; day = day }) end fine at
    day_well connections None shown at = absurd cc

  pub complete : (asked : Option Order) (before after : World In Out) (code : ℕ) (serves : ServesAs service asked before after code)
      → code ≡ exit_code (status_of serves.end) → (code ≡ exit_code ListenerFault → AnyFailed before after) → IsServeComplete asked before after code
  complete None before after code serves is failed = tt
  complete (Some order) before after code serves is failed = λ can none.
      let (files, has, (history, told, opens, shown)) = can in
      let mid : World In Out = record after { sink = serves.written } in
      let fine : status_of serves.end ≢ ListenerFault = λ fault. ⊎_elim none.listeners none.screens (failed (is ∙ ap exit_code fault)) in
      ends_well (status_of serves.end) code is (files_well files order.airport order.types before mid serves.end has none.files.shelf
      (λ made. ServesDay service order.connections made (day_shown made.airport order.day))
      (λ shelf same alike. day_well files history (record before { shelf = shelf }) mid (record { told = told; opens = opens }) none.files.disk serves.end fine
      order.connections (day_shown files.airport order.day) shown)
      serves.does)
