use Rattle.std.proofs.Common.{◌≡◌, ◌∙◌, ℕ, Bool, List, Option, None, Some, Result, Ok, Err, map, refl, sym, ap, subst}
use Rattle.apron_base.specs.Ends.{SinkState}
use Rattle.apron_base.specs.Shelf.{ShelfState}
use Rattle.apron_rules.specs.declared.parts.AirportParts.{AirportParts}
use Rattle.desk_workers.specs.Watched.{feed_texts}
use Rattle.apron_check.specs.Files.{FindsFiles}
use Rattle.apron_check.specs.declared.files.AirportFiles.{AirportFiles}
use Rattle.apron_check.specs.declared.faults.FilesFault.{FilesFault}
use Rattle.apron_run.specs.Run.{KeptUnless}
use Rattle.apron_run.specs.World.{World}
use Rattle.apron_run.specs.declared.end.End.TheVariants.{Unasked}
use Rattle.apron_run.proofs.Kept.{untouched_same}
use Rattle.apron_serve.specs.Board.{Service, serve_world}
use Rattle.apron_serve.specs.Orders.{day_shown}
use Rattle.apron_serve.specs.OrdersShown.{order_shown}
use Rattle.apron_serve.specs.Serve.{ServesDay}
use Rattle.apron_serve.proofs.Endings.{no_source}
use Rattle.apron_serve.proofs.Keeping.{comes}
use Rattle.apron_serve.proofs.program.serve_order.Goals as goal

-- the files of these texts, by the words
of_words : (before after : ShelfState) (found : Result AirportFiles FilesFault) (one airport two types : List ℕ) → one ≡ airport → two ≡ types
    → FindsFiles before after one two found → FindsFiles before after airport types found
of_words before after found one airport two types is are finds =
    subst (λ (name : List ℕ). FindsFiles before after name types found) is (subst (λ (name : List ℕ). FindsFiles before after one name found) are finds)

pub returns-in-Err-clause-does : goal.returns-in-Err-clause-does
returns-in-Err-clause-does g c =
    let read = g.F.Shelf.state c.airport_of.new.shelf in
    let order = order_shown c.in-Some.order in
    rw c.in-Some.is (λ source sink. record {
      found = Err c.in-Err.fault;
      shelf = read;
      finds = of_words (g.F.Shelf.state c.args.shelf.now) read (Err c.in-Err.fault) c.text.result.now order.airport c.text-2.result.now order.types
          c.text.ensures.text c.text-2.ensures.text c.in-Err.ensures.finds;
      at = (refl, untouched_same (serve_world g.L.Workplace.state read source c.args.listeners.now c.args.screens.now sink (g.D.Disk.state c.args.disk)));
    })

pub returns-in-Some-shown_day-clause-does : goal.returns-in-Some-shown_day-clause-does
returns-in-Some-shown_day-clause-does g c =
    let service : Service _ _ = record { states = g.L.Workplace.states; feeds = feed_texts g.R.Stated.tells c.args.watches.now } in
    let state = g.L.Workplace.state in
    let read = g.F.Shelf.state c.airport_of.new.shelf in
    let order = order_shown c.in-Some.order in
    let files = c.in-Ok.files in
    let end = c.serve_journal.result.0 in
    let day : Some c.in-Some-shown_day.day ≡ day_shown files.airport order.day =
    sym c.in-Some-shown_day.is ∙ c.shown_day.ensures.is files.airport (ap (λ (parts : AirportParts). parts.days) (sym c.parts.ensures.value)) in
    rw c.in-Some.is (λ source sink. record {
      found = Ok files;
      shelf = read;
      finds = of_words (g.F.Shelf.state c.args.shelf.now) read (Ok files) c.text.result.now order.airport c.text-2.result.now order.types c.text.ensures.text c.text-2.ensures.text c.in-Ok.ensures.finds;
      at = subst (λ (named : Option ℕ). ServesDay service order.connections files named
          (serve_world state read source c.args.listeners.now c.args.screens.now sink (g.D.Disk.state c.args.disk))
          (serve_world state read source c.serve_journal.new.listeners c.serve_journal.new.screens sink (g.D.Disk.state c.serve_journal.result.1)) end) day (c.serve_journal.ensures.serves read source sink);
    })

pub returns-in-Some-shown_day-clause-disk_kept : goal.returns-in-Some-shown_day-clause-disk_kept
returns-in-Some-shown_day-clause-disk_kept g c =
    let sink : SinkState = record { told = None; faults = 0 } in
    subst (λ (b : Bool). KeptUnless b c.args.disk c.serve_journal.result.1)
    (sym (comes _ _ c.in-Ok.files _ _ c.serve_journal.result.0 (c.serve_journal.ensures.serves (g.F.Shelf.state c.args.shelf.now) no_source sink))) tt

pub returns-clause-does : goal.returns-clause-does
returns-clause-does g c =
    let service : Service _ _ = record { states = g.L.Workplace.states; feeds = feed_texts g.R.Stated.tells c.args.watches.now } in
    let read = g.F.Shelf.state c.airport_of.new.shelf in
    let order = order_shown c.in-Some.order in
    let files = c.in-Ok.files in
    let none : None ≡ day_shown files.airport order.day =
    sym c.in-None-shown_day.is ∙ c.shown_day.ensures.is files.airport (ap (λ (parts : AirportParts). parts.days) (sym c.parts.ensures.value)) in
    rw c.in-Some.is (λ source sink.
    let world : World _ _ = serve_world g.L.Workplace.state read source c.args.listeners.now c.args.screens.now sink (g.D.Disk.state c.args.disk) in
    record {
      found = Ok files;
      shelf = read;
      finds = of_words (g.F.Shelf.state c.args.shelf.now) read (Ok files) c.text.result.now order.airport c.text-2.result.now order.types c.text.ensures.text c.text-2.ensures.text c.in-Ok.ensures.finds;
      at = subst (λ (named : Option ℕ). ServesDay service order.connections files named world world Unasked) none (refl, untouched_same world);
    })
