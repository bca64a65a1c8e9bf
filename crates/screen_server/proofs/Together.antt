-- The workers of screens, and what each leaves of its screen.
use Rattle.std.proofs.Common.{◌≡◌, ℕ, List, [], ◌∷◌, map, refl, sym, ap, ◌∙◌}
use Rattle.apron_base.specs.Histories.{Every}
use Rattle.apron_base.specs.Listener.{ListenerState}
use Rattle.desk_workers.specs.Together.{WorkAll}
use Rattle.desk_workers.specs.Work.{AreServed, Connection, EndStates, Works}
use Rattle.desk_workers.specs.declared.worker.WorkEnd.{WorkEnd}
use Rattle.desk_workers.proofs.Together.{ends}
use Rattle.screen_feed.specs.Screens.{ScreenState}
use Rattle.screen_server.specs.Looks.{HasLook}
use Rattle.screen_server.specs.Walls.{ScreenWorker, ShowsAll, WallsState, walls_of}

module _ {In Out L : Type 0} (states : EndStates In Out) (state : L → ListenerState In Out) (asked : ℕ) where
  abbrev pub Over : List ScreenState → List L → List ScreenState → List L → WorkEnd → Type 0
  Over = WorkAll (λ (fixed : Unit {0}). HasLook states) (λ (screen : ScreenState). tt) (λ (screen : ScreenState). screen) state asked

  -- the workers of all screens, in order
  pub shows : (screens seen : List ScreenState) (walls shown : List L) (end : WorkEnd) → Over screens walls seen shown end
      → ShowsAll states asked (walls_of state walls screens) (walls_of state shown seen) end
  shows [] [] [] [] end work = record { workers = []; looks = refl; seen = refl; begun = refl; ended = refl; end_is = work; work = tt }
  shows (screen ∷ screens) (left ∷ seen) (wall ∷ walls) (after ∷ shown) end (one, more, (works, same), others, is) =
      let rest = shows screens seen walls shown more others in
      let worker : ScreenWorker In Out = record {
        before = record { listener = state wall; own = screen };
        after = record { listener = state after; own = left };
        end = one;
      } in record {
        workers = worker ∷ rest.workers;
        looks = ap (λ (list : List ScreenState). screen ∷ list) rest.looks;
        seen = ap (λ (list : List ScreenState). left ∷ list) rest.seen;
        begun = ap (λ (list : List (ListenerState In Out)). state wall ∷ list) rest.begun;
        ended = ap (λ (list : List (ListenerState In Out)). state after ∷ list) rest.ended;
        end_is = is ∙ ends one more (map (λ (w : ScreenWorker In Out). w.end) rest.workers) rest.end_is;
        work = (works, rest.work);
      }
  shows [] seen (wall ∷ walls) shown end work = absurd work
  shows [] (left ∷ seen) [] shown end work = absurd work
  shows [] [] [] (after ∷ shown) end work = absurd work
  shows (screen ∷ screens) seen [] shown end work = absurd work
  shows (screen ∷ screens) [] (wall ∷ walls) shown end work = absurd work
  shows (screen ∷ screens) (left ∷ seen) (wall ∷ walls) [] end work = absurd work

module _ {In Out : Type 0} (states : EndStates In Out) (asked : ℕ) where
  looks_pair : (before after : ScreenState) (connections : List (Connection In Out)) → AreServed (HasLook states) before connections after → after.pair ≡ before.pair
  looks_pair before after [] looks = ap (λ (screen : ScreenState). screen.pair) looks
  looks_pair before after (connection ∷ connections) looks = looks_pair looks.0 after connections looks.2 ∙ looks.1.looks.looked.pair

  workers_pairs : (workers : List (ScreenWorker In Out)) → Every (λ (worker : ScreenWorker In Out). Works (HasLook states) asked worker.before worker.after worker.end) workers
      → map (λ (screen : ScreenState). screen.pair) (map (λ (worker : ScreenWorker In Out). worker.after.own) workers)
      ≡ map (λ (screen : ScreenState). screen.pair) (map (λ (worker : ScreenWorker In Out). worker.before.own) workers)
  workers_pairs [] work = refl
  workers_pairs (worker ∷ workers) work =
      let first : worker.after.own.pair ≡ worker.before.own.pair = looks_pair worker.before.own worker.after.own work.0.connections work.0.serves.served in
      let rest = workers_pairs workers work.1 in cc (first, rest)

  -- each screen keeps its pair
  pub shown_pairs : (before after : WallsState In Out) (end : WorkEnd) → ShowsAll states asked before after end
      → map (λ (screen : ScreenState). screen.pair) after.screens ≡ map (λ (screen : ScreenState). screen.pair) before.screens
  shown_pairs before after end shows =
      ap (map (λ (screen : ScreenState). screen.pair)) shows.seen ∙ (workers_pairs shows.workers shows.work ∙ sym (ap (map (λ (screen : ScreenState). screen.pair)) shows.looks))
