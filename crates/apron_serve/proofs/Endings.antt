-- What `serve` ends with.
use Rattle.std.proofs.Common.{◌≡◌, ◌≢◌, ◌⊎◌, ◌<◌, ◌≤◌, ◌∙◌, ℕ, Bool, true, false, List, [], ◌∷◌, length, inl, inr, ⊎_elim, refl, sym, ap, subst, arith, Option, None, Some, Result, Ok, Err}
use Rattle.std.specs.Prelude.{◌==◌, ◌||◌, IfSome, IsSome, MatchResult, not}
use Rattle.std.proofs.lemmas.Bool.Decides.{nat_tests}
use Rattle.std.proofs.lemmas.List.{length-map}
use Rattle.apron_base.specs.Ends.{SourceState}
use Rattle.apron_base.specs.Listener.{ListenerState}
use Rattle.apron_base.specs.Shelf.{ShelfState}
use Rattle.apron_rules.specs.declared.parts.AirportParts.{AirportParts}
use Rattle.desk_workers.specs.Crew.{end_of}
use Rattle.desk_workers.specs.Watched.{fed_sessions}
use Rattle.desk_workers.specs.declared.worker.WorkEnd.{WorkEnd}
use Rattle.desk_workers.specs.declared.worker.WorkEnd.TheVariants as work
use Rattle.screen_server.specs.Walls.{ScreenWorker}
use Rattle.screen_server.specs.declared.shown.Task.{Task}
use Rattle.apron_check.specs.declared.files.AirportFiles.{AirportFiles}
use Rattle.apron_check.specs.declared.faults.FilesFault.{FilesFault}
use Rattle.apron_check.specs.declared.faults.FilesFault.TheVariants as files
use Rattle.apron_run.specs.End.{EndsUntouched, cut_status_of, line_of, status_of}
use Rattle.apron_run.specs.Statuses.{exit_code}
use Rattle.apron_run.specs.World.{World}
use Rattle.apron_run.specs.declared.end.End.{End}
use Rattle.apron_run.specs.declared.end.End.TheVariants.{Attended, Faulty, Memory as Wanting, Unusable as Unworkable, Unasked}
use Rattle.apron_run.specs.declared.end.ServeEnd.{ServeEnd}
use Rattle.apron_run.specs.declared.status.Status.TheVariants.{Done, ListenerFault, Memory, Usage}
use Rattle.apron_run.proofs.Ends.{told_by}
use Rattle.apron_run.proofs.Kept.{not_both, unworkable_used}
use Rattle.apron_serve.specs.Board.{AtServe, Service, served_end}
use Rattle.apron_serve.specs.Orders.{Order, day_shown}
use Rattle.apron_serve.specs.Serve.{ServesDay, ServesOrder, HaveFinished, ServesAs, SomeFailed, has_served, is_attended}
use Rattle.apron_serve.proofs.Finished.{Finished, desks_ended, none_finished, screens_ended}

-- the status is that of serving that was all done, or of serving after which a screen missed the
-- last version, where there are screens
abbrev pub IsDone : ℕ → ℕ → Type 0
IsDone screens code = (code ≡ exit_code Done) ⊎ ((code ≡ exit_code Memory) × (0 < screens))

-- a source that tells nothing, for what holds with any
pub no_source : SourceState
no_source = record { left = None; faults = 0 }

-- a number of an end at which no listener was called, and the words ask for something
abbrev is_early : ℕ → Bool
is_early code = not (code == exit_code Done || code == exit_code ListenerFault || code == exit_code Usage)

fault_early : (fault : FilesFault) → is_early (exit_code (status_of (Faulty fault))) ≡ true
fault_early files.ShelfFault = refl
fault_early files.Memory = refl
fault_early fault = refl

-- a version that a screen missed may end what was served
missed_served : (screens : ℕ) → 0 < screens → has_served screens (exit_code Memory) ≡ true
missed_served screens some = grind (arith, nat_tests)

-- an order whose day the plan lacks names one
names_day : (airport : AirportParts) (named : Option (List ℕ)) → day_shown airport named ≡ None → IsSome named
names_day airport None none = absurd cc
names_day airport (Some digits) none = refl

module _ {In Out : Type 0} (before after : World In Out) where
  -- all listeners have finished this many connections more
  abbrev pub AllFinished : ℕ → Type 0
  AllFinished connections = HaveFinished connections before.listeners after.listeners × HaveFinished connections before.screens after.screens

  -- the count of faults of one of them rose
  abbrev pub AnyFailed : Type 0
  AnyFailed = SomeFailed before.listeners after.listeners ⊎ SomeFailed before.screens after.screens

  -- all listeners are as they were
  abbrev AllKept : Type 0
  AllKept = (after.listeners ≡ before.listeners) × (after.screens ≡ before.screens)

  -- what is known of what was asked by how it ended, and by its number
  pub record Known (asked : Option Order) (end : End) (code : ℕ) : Type 0 where
    pub whole : cut_status_of end ≡ status_of end
    pub done : code ≡ exit_code Done → IfSome asked (λ order. AllFinished order.connections)
    pub finished : IfSome asked (λ order. AllFinished order.connections → IsDone (length before.screens) code)
    pub failed : code ≡ exit_code ListenerFault → AnyFailed
    pub usage : asked ≡ None → code ≡ exit_code Usage
    pub usage_alone : code ≡ exit_code Usage → IfSome asked (λ order. IsSome order.day)
    pub served : is_attended end ≡ true → has_served (length before.screens) code ≡ true

  abbrev Knows : Option Order → End → Type 0
  Knows asked end = Known asked end (exit_code (status_of end))

  module _ (order : Order) (some : 1 ≤ order.connections) (any : 1 ≤ length before.listeners) where
    -- the listeners are as they were
    unserved : (end : End) → cut_status_of end ≡ status_of end → is_attended end ≡ false → exit_code (status_of end) ≢ exit_code Done
        → exit_code (status_of end) ≢ exit_code ListenerFault → (exit_code (status_of end) ≡ exit_code Usage → IsSome order.day)
        → after.listeners ≡ before.listeners → Knows (Some order) end
    unserved end whole none done failed ordered same = record {
      whole = whole;
      done = λ is. absurd (done is);
      finished = λ all. absurd (none_finished order.connections before.listeners some any
          (subst (λ (l : List (ListenerState In Out)). HaveFinished order.connections before.listeners l) same all.0));
      failed = λ is. absurd (failed is);
      usage = λ is. absurd cc;
      usage_alone = ordered;
      served = λ is. not_both (is_attended end) is none;
    }

    early : (end : End) → cut_status_of end ≡ status_of end → is_attended end ≡ false → is_early (exit_code (status_of end)) ≡ true
        → after.listeners ≡ before.listeners → Knows (Some order) end
    early end whole none is same = unserved end whole none (never (exit_code Done) refl) (never (exit_code ListenerFault) refl) (never (exit_code Usage) refl) same
      where
        never : {P : Type 0} (code : ℕ) → is_early code ≡ false → exit_code (status_of end) ≡ code → P
        never code late so = not_both (is_early code) (subst (λ (n : ℕ). is_early n ≡ true) so is) late

    -- desks and screens were served
    attended : (desks looks : WorkEnd) (missed : Bool) → Finished order.connections before.listeners after.listeners desks
        → Finished order.connections before.screens after.screens looks → (missed ≡ true → 0 < length before.screens)
        → Knows (Some order) (Attended (served_end (end_of (desks ∷ looks ∷ [])) missed))
    attended work.Done work.Done false ended shown many = record {
      whole = refl;
      done = λ _. (ended.finished refl, shown.finished refl);
      finished = λ _. inl refl;
      failed = λ is. absurd cc;
      usage = λ is. absurd cc;
      usage_alone = λ is. absurd cc;
      served = λ _. refl;
    }
    attended work.Done work.Done true ended shown many = record {
      whole = refl;
      done = λ is. absurd cc;
      finished = λ _. inr (refl, many refl);
      failed = λ is. absurd cc;
      usage = λ is. absurd cc;
      usage_alone = λ is. absurd cc;
      served = λ _. missed_served (length before.screens) (many refl);
    }
    attended work.Done work.ListenerFault missed ended shown many = record {
      whole = refl;
      done = λ is. absurd cc;
      finished = λ all. let no : work.ListenerFault ≡ work.Done = shown.done all.1 in absurd cc;
      failed = λ _. inr (shown.failed refl);
      usage = λ is. absurd cc;
      usage_alone = λ is. absurd cc;
      served = λ _. refl;
    }
    attended work.ListenerFault looks missed ended shown many = record {
      whole = refl;
      done = λ is. absurd cc;
      finished = λ all. let no : work.ListenerFault ≡ work.Done = ended.done all.0 in absurd cc;
      failed = λ _. inl (ended.failed refl);
      usage = λ is. absurd cc;
      usage_alone = λ is. absurd cc;
      served = λ _. refl;
    }

module _ {In Out : Type 0} (service : Service In Out) (before after : World In Out) where
  -- an order ended so if this holds of each fault of its files and of a day that the plan lacks,
  -- which leave the listeners as they were, and of what may be done at its files
  by_end : (P : End → Type 0) (order : Order) (end : End)
      → ((fault : FilesFault) → AllKept before after → P (Faulty fault))
      → ((files : AirportFiles) → day_shown files.airport order.day ≡ None → AllKept before after → P Unasked)
      → ((files : AirportFiles) (day : ℕ) (shelf : ShelfState) (so : End)
      → AtServe service (record { connections = order.connections; day = day }) files (record before { shelf = shelf }) after so → P so)
      → ServesOrder service (Some order) before after end → P end
  by_end P order end faulty unasked at does = by_found does.found does.at
    where
      by_day : (files : AirportFiles) (day : Option ℕ) → day_shown files.airport order.day ≡ day
          → ServesDay service order.connections files day (record before { shelf = does.shelf }) after end → P end
      by_day files (Some day) is serves = at files day does.shelf end serves
      by_day files None is (ended, untouched) = subst P (sym ended) (unasked files is (untouched.listeners, untouched.screens))

      by_found : (found : Result AirportFiles FilesFault)
          → MatchResult found
          (λ files. ServesDay service order.connections files (day_shown files.airport order.day) (record before { shelf = does.shelf }) after end)
          (λ fault. EndsUntouched (Faulty fault) (record before { shelf = does.shelf }) after end)
          → P end
      by_found (Ok files) serves = by_day files (day_shown files.airport order.day) refl serves
      by_found (Err fault) (ended, untouched) = subst P (sym ended) (faulty fault (untouched.listeners, untouched.screens))

  -- there are as many screens as before
  many_at : (task : Task) (files : AirportFiles) (shelf : ShelfState) (end : End) → AtServe service task files (record before { shelf = shelf }) after end
      → length after.screens ≡ length before.screens
  many_at task files shelf (Attended served) at =
      let shows = at.2.shows.shows in
      (ap length shows.ended ∙ length-map shows.workers (λ (worker : ScreenWorker In Out). worker.after.listener))
      ∙ sym (ap length shows.begun ∙ length-map shows.workers (λ (worker : ScreenWorker In Out). worker.before.listener))
  many_at task files shelf Wanting at = let untouched = at.2 in ap length untouched.screens
  many_at task files shelf (Unworkable why) at = ap length at.screens
  many_at task files shelf end at = absurd at.2

  pub many : (asked : Option Order) (end : End) → ServesOrder service asked before after end → length after.screens ≡ length before.screens
  many None end (ended, untouched) = ap length untouched.screens
  many (Some order) end does = by_end (λ _. length after.screens ≡ length before.screens) order end
      (λ fault kept. ap length kept.1)
      (λ files none kept. ap length kept.1)
      (λ files day shelf so. many_at _ files shelf so) does

  at_known : (order : Order) → 1 ≤ order.connections → 1 ≤ length before.listeners → (files : AirportFiles) (day : ℕ) (shelf : ShelfState) (end : End)
      → AtServe service (record { connections = order.connections; day = day }) files (record before { shelf = shelf }) after end → Knows before after (Some order) end
  at_known order some any files day shelf (Attended served) at =
      let desks = at.2 in
      subst (λ (so : ServeEnd). Knows before after (Some order) (Attended so)) (sym desks.end_is) (attended before after order some any desks.desks desks.looks desks.missed
      (desks_ended service.states (fed_sessions service.feeds) order.connections _ _ desks.desks desks.serves)
      (screens_ended service.states order.connections _ _ desks.looks desks.shows.shows) desks.some)
  at_known order some any files day shelf Wanting at = let untouched = at.2 in early before after order some any Wanting refl refl refl untouched.listeners
  at_known order some any files day shelf (Unworkable why) at =
      early before after order some any (Unworkable why) refl refl (unworkable_used is_early refl refl refl files before.disk after.disk why (let not = at.uses in not.cause)) at.listeners
  at_known order some any files day shelf end at = absurd at.2

  known : (asked : Option Order) (end : End) → IfSome asked (λ order. (1 ≤ order.connections) × (1 ≤ length before.listeners))
      → ServesOrder service asked before after end → Knows before after asked end
  known (Some order) end (some, any) does = by_end (Knows before after (Some order)) order end
      (λ fault kept. early before after order some any (Faulty fault) refl refl (fault_early fault) kept.0)
      (λ files none kept. unserved before after order some any Unasked refl refl (λ is. absurd cc) (λ is. absurd cc) (λ _. names_day files.airport order.day none) kept.0)
      (λ files day shelf so. at_known order some any files day shelf so) does
  known None end valid (ended, untouched) = subst (Knows before after None) (sym ended) (record {
    whole = refl;
    done = λ is. tt;
    finished = tt;
    failed = λ is. absurd cc;
    usage = λ _. refl;
    usage_alone = λ _. tt;
    served = λ is. absurd cc;
  })

-- the number is that of the end's status, and tells this
pub carried : {In Out : Type 0} (service : Service In Out) (before after : World In Out) (asked : Option Order) (code : ℕ)
    → IfSome asked (λ order. (1 ≤ order.connections) × (1 ≤ length before.listeners))
    → (serves : ServesAs service asked before after code)
    → (code ≡ exit_code (status_of serves.end)) × Known before (record after { sink = serves.written }) asked serves.end code
carried service before after asked code valid serves =
    let mid : World _ _ = record after { sink = serves.written } in
    let told : Knows before mid asked serves.end = known service before mid asked serves.end valid serves.does in
    let is : code ≡ exit_code (status_of serves.end) = serves.code_is ∙ ap exit_code (⊎_elim
    (λ (is : serves.status ≡ status_of serves.end). is)
    (λ cut. cut.0 ∙ told.whole)
    (told_by (status_of serves.end) (cut_status_of serves.end) serves.written after.sink serves.status (line_of serves.end) serves.tells)) in
    (is, subst (Known before mid asked serves.end) (sym is) told)
