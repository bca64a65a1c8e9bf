use Rattle.std.proofs.Common.{◌≡◌, ◌<◌, ◌⊎◌, ◌∙◌, List, [], ◌++◌, None, Some, length, map, refl, sym, arith, ⊎_elim}
use Rattle.std.specs.Prelude.{IfSome, IsSome, is_some}
use Rattle.std.proofs.lemmas.List.{length-map}
use Rattle.desk_workers.specs.Watched.{feed_texts}
use Rattle.apron_base.specs.Ends.{SourceState}
use Rattle.apron_run.specs.Run.{KeptUnless}
use Rattle.apron_run.specs.Statuses.{exit_code}
use Rattle.apron_run.specs.World.{World}
use Rattle.apron_run.specs.declared.status.Status.TheVariants.{Done, ListenerFault, Memory, Usage}
use Rattle.apron_serve.specs.Board.{Service, serve_world}
use Rattle.apron_serve.specs.Complete.{IsServeComplete}
use Rattle.apron_serve.specs.Orders.{Order, order_of}
use Rattle.apron_serve.specs.Serve.{HaveFinished, ServesAs, SomeFailed, has_served}
use Rattle.apron_serve.proofs.Endings.{many, no_source}
use Rattle.apron_serve.proofs.NoScreens.{no_screen_order, of_all}
use Rattle.apron_serve.proofs.program.serve_with.Goals as goal

pub returns : goal.returns
returns g c =
    let L = g.row.L.Denot in
    let service : Service _ _ = record { states = g.L.Workplace.states; feeds = feed_texts g.R.Stated.tells c.args.watches.now } in
    let state = g.L.Workplace.state in
    let words = c.args.words.now in
    let front = c.split_at_mut-none.result.0.now in
    let desks = c.split_at_mut-none.result.1.now in
    let served = c.serve_all.new.listeners in
    let left = c.serve_all.new.screens in
    let code = c.serve_all.result.0 in
    let before : SourceState → List L → List L → World _ _ = λ source listeners screens.
    serve_world state (g.F.Shelf.state c.args.shelf.now) source listeners screens (g.W.Sink.state c.args.sink.now) (g.D.Disk.state c.args.disk) in
    let after : SourceState → List L → List L → World _ _ = λ source listeners screens.
    serve_world state (g.F.Shelf.state c.serve_all.new.shelf) source listeners screens (g.W.Sink.state c.serve_all.new.sink) (g.D.Disk.state c.serve_all.result.1) in
    let ensures = c.serve_all.ensures in
    let none : length front ≡ 0 = c.split_at_mut-none.ensures.front_len in
    let serves = ensures.headline no_source in
    let as_many : length (map state left) ≡ length (map state front) = many service (before no_source desks front) (record (after no_source served left) { sink = serves.written }) _ serves.end serves.does in
    let empty : length left ≡ 0 = sym (length-map left state) ∙ (as_many ∙ (length-map front state ∙ none)) in
    let all : (P : List L → List L → List L → List L → Type 0) → P desks front served left → P c.args.listeners.now [] (left ++ served) [] =
    λ P holds. of_all P c.args.listeners.now front desks left served c.split_at_mut-none.ensures.value none empty holds in
    let done = all (λ olds screens news left. (order : Order) → order_of words (length olds) (length screens) ≡ Some order → code ≡ exit_code Done
    → HaveFinished order.connections (map state olds) (map state news) × HaveFinished order.connections (map state screens) (map state left)) ensures.done in
    let finished = all (λ olds screens news left. (order : Order) → order_of words (length olds) (length screens) ≡ Some order
    → HaveFinished order.connections (map state olds) (map state news) → HaveFinished order.connections (map state screens) (map state left)
    → (code ≡ exit_code Done) ⊎ ((code ≡ exit_code Memory) × (0 < length screens))) ensures.finished in
    let failed = all (λ olds screens news left. code ≡ exit_code ListenerFault
    → SomeFailed (map state olds) (map state news) ⊎ SomeFailed (map state screens) (map state left)) ensures.failed in
    let usage = all (λ olds screens news left. order_of words (length olds) (length screens) ≡ None → code ≡ exit_code Usage) ensures.usage in
    let usage_alone = all (λ olds screens news left. code ≡ exit_code Usage
    → IfSome (order_of words (length olds) (length screens)) (λ order. IsSome order.day)) ensures.usage_alone in
    record {
      headline = all (λ olds screens news left. (source : SourceState)
          → ServesAs service (order_of words (length olds) (length screens)) (before source olds screens) (after source news left) code) ensures.headline;
      done = λ order is. (
        (λ zero. (done order is zero).0),
        (λ have. ⊎_elim (λ zero. zero) (λ memory. absurd (let no : 0 < 0 = memory.1 in omega (arith, no))) (finished order is have refl)),
      );
      failed = λ is. ⊎_elim (λ some. some) (λ none. absurd none) (failed is);
      usage = ((λ is. no_screen_order words (length c.args.listeners.now) (usage_alone is)), usage);
      complete = all (λ olds screens news left. (source : SourceState)
          → IsServeComplete (order_of words (length olds) (length screens)) (before source olds screens) (after source news left) code) ensures.complete;
      shelf_kept = all (λ olds screens news left. KeptUnless (is_some (order_of words (length olds) (length screens))) c.args.shelf.now c.serve_all.new.shelf)
          ensures.shelf_kept;
      listeners_kept = all (λ olds screens news left. KeptUnless (has_served (length screens) code) olds news) ensures.listeners_kept;
      disk_kept = ensures.disk_kept;
    }
