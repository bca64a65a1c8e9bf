-- How workers ended, by how many connections their listeners finished.
use Rattle.std.proofs.Common.{◌≡◌, ◌∙◌, ◌⊎◌, ◌+◌, ◌≤◌, ℕ, true, List, [], ◌∷◌, length, map, inl, inr, refl, sym, ap, subst, arith}
use Rattle.apron_base.specs.Counts.{Counts, Rose}
use Rattle.apron_base.specs.Histories.{Every}
use Rattle.apron_base.specs.Listener.{ListenerState}
use Rattle.turn_board.proofs.Totals.{every_more}
use Rattle.desk_http.specs.Session.{SessionKind}
use Rattle.desk_workers.specs.Crew.{CrewState, DeskWorker, ServesBoard, WorksAt, end_of}
use Rattle.desk_workers.specs.Work.{EndStates, IsEndAt, Works, is_listener_fault}
use Rattle.desk_workers.specs.declared.worker.WorkEnd.{WorkEnd}
use Rattle.desk_workers.specs.declared.worker.WorkEnd.TheVariants.{Done, ListenerFault}
use Rattle.screen_server.specs.Looks.{HasLook}
use Rattle.screen_server.specs.Walls.{ScreenWorker, ShowsAll, WallsState}
use Rattle.apron_serve.specs.Serve.{HaveFinished, SomeFailed}

-- the first of some workers that were all done, and the others
first_done : (end : WorkEnd) (ends : List WorkEnd) → end_of (end ∷ ends) ≡ Done → (end ≡ Done) × (end_of ends ≡ Done)
first_done Done ends is = (refl, is)
first_done ListenerFault ends is = absurd cc

-- if not all were done the first was not, or one of the others
first_failed : (end : WorkEnd) (ends : List WorkEnd) → end_of (end ∷ ends) ≡ ListenerFault → (end ≡ ListenerFault) ⊎ (end_of ends ≡ ListenerFault)
first_failed Done ends is = inr is
first_failed ListenerFault ends is = inl refl

-- a worker that finished all its connections is done
done_at : (end : WorkEnd) (asked count before after : ℕ) → IsEndAt end asked count → after ≡ before + count → after ≡ before + asked → end ≡ Done
done_at Done asked count before after at is all = refl
done_at ListenerFault asked count before after less is all = absurd (omega arith)

-- two lists of numbers with the same first one and the same others
same_lists : (one other : ℕ) (ones others : List ℕ) → one ≡ other → ones ≡ others → one ∷ ones ≡ other ∷ others
same_lists one other ones others first rest = rw (first, rest) refl

-- a listener before and after a worker that was asked for this many connections, and how that ended
record Ended {In Out : Type 0} (asked : ℕ) (before after : ListenerState In Out) (end : WorkEnd) : Type 0 where
  pub count : ℕ
  pub ended : after.ended ≡ before.ended + count
  pub is : IsEndAt end asked count
  pub faults : Counts (is_listener_fault end) before.faults after.faults

-- what is known of the listeners of workers that were asked for this many connections each, and
-- ended so together
pub record Finished {In Out : Type 0} (asked : ℕ) (olds news : List (ListenerState In Out)) (together : WorkEnd) : Type 0 where
  pub finished : together ≡ Done → HaveFinished asked olds news
  pub done : HaveFinished asked olds news → together ≡ Done
  pub failed : together ≡ ListenerFault → SomeFailed olds news

-- workers, of whatever kind, each with its listener before and after and how it ended
module _ {In Out W : Type 0} (asked : ℕ) (before after : W → ListenerState In Out) (end : W → WorkEnd) where
  abbrev EndedAt : W → Type 0
  EndedAt worker = Ended asked (before worker) (after worker) (end worker)

  -- a worker that is done has finished all that it was asked for
  has_finished : (worker : W) → EndedAt worker → end worker ≡ Done → (after worker).ended ≡ (before worker).ended + asked
  has_finished worker at is =
      let count : at.count ≡ asked = subst (λ (e : WorkEnd). IsEndAt e asked at.count) is at.is in
      at.ended ∙ ap (λ n. (before worker).ended + n) count

  -- the listener of one that is not done has failed
  has_failed : (worker : W) → EndedAt worker → end worker ≡ ListenerFault → Rose (before worker).faults (after worker).faults
  has_failed worker at is =
      let counts : Counts true (before worker).faults (after worker).faults =
      subst (λ (e : WorkEnd). Counts (is_listener_fault e) (before worker).faults (after worker).faults) is at.faults in
      counts.1

  -- workers that are all done have finished all
  all_finished : (workers : List W) → Every EndedAt workers → end_of (map end workers) ≡ Done → HaveFinished asked (map before workers) (map after workers)
  all_finished [] every is = refl
  all_finished (worker ∷ workers) (at, rest) is =
      let both = first_done (end worker) (map end workers) is in
      same_lists (after worker).ended ((before worker).ended + asked) _ _ (has_finished worker at both.0) (all_finished workers rest both.1)

  -- workers that have finished all are all done
  all_done : (workers : List W) → Every EndedAt workers → HaveFinished asked (map before workers) (map after workers) → end_of (map end workers) ≡ Done
  all_done [] every all = refl
  all_done (worker ∷ workers) (at, rest) all =
      let first : (after worker).ended ≡ (before worker).ended + asked = cc in
      let others : HaveFinished asked (map before workers) (map after workers) = cc in
      let is : end worker ≡ Done = done_at (end worker) asked at.count (before worker).ended (after worker).ended at.is at.ended first in
      subst (λ (e : WorkEnd). end_of (e ∷ map end workers) ≡ Done) (sym is) (all_done workers rest others)

  -- a failed one is the first, or among the others
  fails_first : {Others Some : Type 0} (worker : W) → EndedAt worker → (end worker ≡ ListenerFault) ⊎ Others → (Others → Some)
      → Rose (before worker).faults (after worker).faults ⊎ Some
  fails_first worker at (inl is) goes = inl (has_failed worker at is)
  fails_first worker at (inr others) goes = inr (goes others)

  -- if not all are done the count of a listener rose
  some_failed : (workers : List W) → Every EndedAt workers → end_of (map end workers) ≡ ListenerFault → SomeFailed (map before workers) (map after workers)
  some_failed [] every is = absurd cc
  some_failed (worker ∷ workers) (at, rest) is =
      fails_first worker at (first_failed (end worker) (map end workers) is) (λ others. some_failed workers rest others)

  all_ended : (workers : List W) → Every EndedAt workers → (olds news : List (ListenerState In Out)) (together : WorkEnd)
      → olds ≡ map before workers → news ≡ map after workers → together ≡ end_of (map end workers) → Finished asked olds news together
  all_ended workers every olds news together begun ended is = record {
    finished = λ done. rw (begun, ended) (all_finished workers every (sym is ∙ done));
    done = λ all. is ∙ all_done workers every (subst (λ (l : List (ListenerState In Out)). HaveFinished asked (map before workers) l) ended
        (subst (λ (l : List (ListenerState In Out)). HaveFinished asked l news) begun all));
    failed = λ failed. rw (begun, ended) (some_failed workers every (sym is ∙ failed));
  }

-- the workers of desks at a board
pub desks_ended : {In Out Fixed : Type 0} (states : EndStates In Out) (kinds : Fixed → SessionKind) (asked : ℕ) (before after : CrewState In Out Fixed) (end : WorkEnd)
    → ServesBoard states kinds asked before after end
    → Finished asked before.listeners after.listeners end
desks_ended {In = In} {Out = Out} states kinds asked before after end serves =
    all_ended asked (λ (worker : DeskWorker In Out). worker.before.listener) (λ (worker : DeskWorker In Out). worker.after.listener) (λ (worker : DeskWorker In Out). worker.end)
    serves.workers
    (every_more (WorksAt states kinds asked before.board after.board) _ (λ worker at.
    let works = at.works in let finishes = works.serves.finishes in
    record { count = length works.connections; ended = finishes.ended; is = works.count; faults = finishes.faults }) serves.workers serves.work)
    before.listeners after.listeners end serves.begun serves.ended serves.end_is

-- the workers of screens
pub screens_ended : {In Out : Type 0} (states : EndStates In Out) (asked : ℕ) (before after : WallsState In Out) (end : WorkEnd)
    → ShowsAll states asked before after end
    → Finished asked before.listeners after.listeners end
screens_ended {In = In} {Out = Out} states asked before after end shows =
    all_ended asked (λ (worker : ScreenWorker In Out). worker.before.listener) (λ (worker : ScreenWorker In Out). worker.after.listener)
    (λ (worker : ScreenWorker In Out). worker.end) shows.workers
    (every_more (λ (worker : ScreenWorker In Out). Works (HasLook states) asked worker.before worker.after worker.end) _ (λ worker on.
    let finishes = on.serves.finishes in
    record { count = length on.connections; ended = finishes.ended; is = on.count; faults = finishes.faults }) shows.workers shows.work)
    before.listeners after.listeners end shows.begun shows.ended shows.end_is

-- listeners that are as they were have not finished more
pub none_finished : {In Out : Type 0} (asked : ℕ) (listeners : List (ListenerState In Out)) → 1 ≤ asked → 1 ≤ length listeners → ¬ (HaveFinished asked listeners listeners)
none_finished asked [] some any all = absurd (omega arith)
none_finished asked (listener ∷ listeners) some any all = let same : listener.ended ≡ listener.ended + asked = cc in absurd (omega arith)
