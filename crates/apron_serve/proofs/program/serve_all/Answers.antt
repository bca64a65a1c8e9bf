use Rattle.std.proofs.Common.{◌≡◌, ◌≤◌, ℕ, true, Option, None, Some, length, map, sym, subst}
use Rattle.std.proofs.lemmas.List.{length-map}
use Rattle.std.specs.Prelude.{IfSome, is_some, not}
use Rattle.std.specs.Option.{option_map}
use Rattle.apron_base.specs.Ends.{SourceState}
use Rattle.desk_workers.specs.Watched.{feed_texts}
use Rattle.apron_run.specs.Run.{KeptUnless}
use Rattle.apron_run.specs.World.{World}
use Rattle.apron_serve.specs.Board.{Service, serve_world}
use Rattle.apron_serve.specs.Orders.{Order, most_listeners, order_of}
use Rattle.apron_serve.specs.OrdersShown.{order_shown}
use Rattle.apron_serve.specs.Serve.{ServesAs, ServesOrder, has_served, serve_ends_before_journal, is_attended}
use Rattle.apron_serve.specs.declared.words.Order.{Order as Read}
use Rattle.apron_serve.proofs.Completing.{complete}
use Rattle.apron_serve.proofs.Endings.{AllFinished, IsDone, carried, no_source}
use Rattle.apron_serve.proofs.Keeping.{kept_also}
use Rattle.apron_serve.proofs.program.serve_all.Goals as goal

-- an order has connections and listeners
valid : (read : Option Read) (asked : Option Order) (listeners many : ℕ) → option_map order_shown read ≡ asked → IfSome read (λ order. (1 ≤ listeners) × (listeners ≤ most_listeners))
    → IfSome read (λ order. 1 ≤ order.connections) → many ≡ listeners → IfSome asked (λ order. (1 ≤ order.connections) × (1 ≤ many))
valid (Some order) asked listeners many is few some same = subst (λ (a : Option Order). IfSome a (λ order. (1 ≤ order.connections) × (1 ≤ many))) is
    (some, subst (λ (n : ℕ). 1 ≤ n) (sym same) few.0)
valid None asked listeners many is few some same = subst (λ (a : Option Order). IfSome a (λ order. (1 ≤ order.connections) × (1 ≤ many))) is tt

pub returns : goal.returns
returns g c =
    let state = g.L.Workplace.state in
    let service : Service _ _ = record { states = g.L.Workplace.states; feeds = feed_texts g.R.Stated.tells c.args.watches.now } in
    let asked : Option Order = order_of c.args.words.now (length c.args.listeners.now) (length c.args.screens.now) in
    let done = c.serve_order-end in
    let end = done.result.0 in
    let code : ℕ = c.code.result in
    let sink = g.W.Sink.state c.args.sink.now in
    let before : SourceState → World _ _ = λ source. serve_world state (g.F.Shelf.state c.args.shelf.now) source c.args.listeners.now c.args.screens.now sink (g.D.Disk.state c.args.disk) in
    let after : SourceState → World _ _ = λ source.
    serve_world state (g.F.Shelf.state done.new.shelf) source done.new.listeners done.new.screens (g.W.Sink.state c.tell_end.new.sink) (g.D.Disk.state done.result.1) in
    let serves : (source : SourceState) → ServesAs service asked (before source) (after source) code = λ source. record {
      status = c.tell_end.result;
      code_is = c.code.ensures.value;
      written = sink;
      end = end;
      does = subst (λ (a : Option Order). ServesOrder service a (before source) (record (after source) { sink = sink }) end) c.order_of-order.ensures.order (done.ensures.does source sink);
      tells = c.tell_end.ensures.tells;
    } in
    let (is, all) = carried service (before no_source) (after no_source) asked code
    (valid c.order_of-order.result asked _ (length (map state c.args.listeners.now)) c.order_of-order.ensures.order c.order_of-order.ensures.few c.order_of-order.ensures.some (length-map c.args.listeners.now state))
    (serves no_source) in
    let may : is_attended end ≡ true → has_served (length c.args.screens.now) code ≡ true =
    λ so. subst (λ (n : ℕ). has_served n code ≡ true) (length-map c.args.screens.now state) (all.served so) in
    record {
      headline = serves;
      done = λ order same zero. subst (λ (a : Option Order). IfSome a (λ order. AllFinished (before no_source) (after no_source) order.connections)) same (all.done zero);
      finished = λ order same listeners screens. subst (λ (n : ℕ). IsDone n code) (length-map c.args.screens.now state)
          (subst (λ (a : Option Order). IfSome a (λ order. AllFinished (before no_source) (after no_source) order.connections → IsDone (length (map state c.args.screens.now)) code)) same all.finished (listeners, screens));
      failed = all.failed;
      usage = all.usage;
      usage_alone = all.usage_alone;
      complete = λ source. complete service asked (before source) (after source) code (serves source) is all.failed;
      shelf_kept = subst (λ (a : Option Order). KeptUnless (is_some a) c.args.shelf.now done.new.shelf) c.order_of-order.ensures.order done.ensures.shelf_kept;
      listeners_kept = kept_also (is_attended end) (has_served (length c.args.screens.now) code) c.args.listeners.now done.new.listeners may done.ensures.listeners_kept;
      screens_kept = kept_also (is_attended end) (has_served (length c.args.screens.now) code) c.args.screens.now done.new.screens may done.ensures.screens_kept;
      disk_kept = subst (λ (n : ℕ). KeptUnless (not (serve_ends_before_journal n)) c.args.disk done.result.1) (sym is) done.ensures.disk_kept;
    }
