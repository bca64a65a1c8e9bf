use Rattle.std.proofs.Common.{◌≡◌, ◌∙◌, false, List, length, ap, refl, sym, subst}
use Rattle.std.specs.Prelude.{◌↔◌}
use Rattle.std.specs.Vec.{with_items}
use Rattle.std.proofs.lemmas.List.{with_items_is}
use Rattle.std.proofs.lemmas.Slice.Zip.{AllZip-long}
use Rattle.apron_base.specs.Histories.{Every}
use Rattle.plan_core.specs.PlanState.{PlanState}
use Rattle.history_core.specs.Board.{BoardHeld}
use Rattle.history_core.specs.History.{IsLegal, call_of, replay}
use Rattle.history_core.proofs.Replay.{replay-airport}
use Rattle.screen_feed.specs.Screens.{WriterState}
use Rattle.watch_list.specs.declared.watch_asks.WatchFixed.{WatchFixed}
use Rattle.apron_base.specs.Machine.{Acts}
use Rattle.shown_board.specs.Halls.{HallHeld, IsShown, IsWriterOf, ShowsVersion, hall_state, pairs_of}
use Rattle.shown_board.proofs.Writers.{can_show_now, goes_on, hall_acts, same_pairs, shown_now}
use Rattle.shown_board.proofs.hall.Hall.ask.Goals as goal

pub of-charts-requires : goal.of-charts-requires
of-charts-requires g c =
    let board = c.board-board.result.now in record {
      airport = c.airport.ensures.value ∙ sym (ap (λ (plan : PlanState). plan.airport) c.plan.ensures.replay ∙ replay-airport board.airport board.history);
    }

pub show_on_all-missed-requires : goal.show_on_all-missed-requires
show_on_all-missed-requires g c =
    let before = c.self.inside.board.board in
    let after = c.act-acted.new.self.board in
    let acts = c.act-acted.ensures.acts in
    let same : after.airport ≡ before.airport = ap (λ (fixed : WatchFixed g.row.R.Denot). fixed.airport) acts.fixed in
    let legal : IsLegal after.airport after.history =
    subst (λ (held : BoardHeld g.row.K.Denot). IsLegal held.airport held.history) c.board-board.ensures.value c.history-history.ensures.legal in
    let is : c.of-charts.result ≡ replay after.airport after.history =
    c.of-charts.ensures.plan ∙ (c.plan.ensures.replay ∙ ap (λ (held : BoardHeld g.row.K.Denot). replay held.airport held.history) c.board-board.ensures.value) in record {
      writers = can_show_now before.airport after.airport before.history after.history c.of-charts.result same
          (goes_on c.args.call c.act-acted.result before.history after.history acts.history) legal is
          c.self.inside.writers.items c.as_mut_slice.result.now c.as_mut_slice.ensures.value c.self.invariant.writers;
    }

pub invariant_of-self : goal.invariant_of-self
invariant_of-self g c =
    let before = c.self.inside.board.board in
    let after = c.act-acted.new.self.board in
    let acts = c.act-acted.ensures.acts in
    let same : after.airport ≡ before.airport = ap (λ (fixed : WatchFixed g.row.R.Denot). fixed.airport) acts.fixed in
    let legal : IsLegal after.airport after.history =
    subst (λ (held : BoardHeld g.row.K.Denot). IsLegal held.airport held.history) c.board-board.ensures.value c.history-history.ensures.legal in
    let is : c.of-charts.result ≡ replay after.airport after.history =
    c.of-charts.ensures.plan ∙ (c.plan.ensures.replay ∙ ap (λ (held : BoardHeld g.row.K.Denot). replay held.airport held.history) c.board-board.ensures.value) in
    let left = c.show_on_all-missed.new.writers in
    let long : length left ≡ c.self.inside.writers.len =
    AllZip-long (IsShown c.of-charts.result) c.as_mut_slice.result.now left c.show_on_all-missed.ensures.shown ∙ c.as_mut_slice.ensures.len in
    let items = sym (with_items_is c.self.inside.writers left long) in record {
      writers = subst (Every (IsWriterOf after.airport after.history)) items
          (shown_now before.airport after.airport before.history after.history c.of-charts.result same
          (goes_on c.args.call c.act-acted.result before.history after.history acts.history) legal is
          c.self.inside.writers.items c.as_mut_slice.result.now left c.as_mut_slice.ensures.value c.self.invariant.writers c.show_on_all-missed.ensures.shown);
      missed = subst (λ (list : List WriterState). (c.show_on_all-missed.result ≡ false) ↔ Every (ShowsVersion (replay after.airport after.history).version) list) items
          (subst (λ (plan : PlanState). (c.show_on_all-missed.result ≡ false) ↔ Every (ShowsVersion plan.version) left) is c.show_on_all-missed.ensures.missed);
    }

pub returns-clause-acts : goal.returns-clause-acts
returns-clause-acts g c =
    let writers = c.self.inside.writers in
    let left = c.show_on_all-missed.new.writers in
    let long : length left ≡ writers.len =
    AllZip-long (IsShown c.of-charts.result) c.as_mut_slice.result.now left c.show_on_all-missed.ensures.shown ∙ c.as_mut_slice.ensures.len in
    let pairs = ap pairs_of (with_items_is writers left long)
    ∙ (same_pairs c.of-charts.result c.as_mut_slice.result.now left c.show_on_all-missed.ensures.shown ∙ ap pairs_of c.as_mut_slice.ensures.value) in
    let before : HallHeld g.row.K.Denot g.row.R.Denot = record { board = c.self.inside.board; writers = writers.items; missed = c.self.inside.missed; begun = c.self.inside.begun } in
    let after : HallHeld g.row.K.Denot g.row.R.Denot = record {
      board = c.act-acted.new.self;
      writers = (with_items writers left).items;
      missed = c.show_on_all-missed.result;
      begun = c.self.inside.begun;
    } in
    subst (λ (hall : HallHeld g.row.K.Denot g.row.R.Denot). Acts call_of (hall_state g.K.Keeper.state hall) (hall_state g.K.Keeper.state after) c.args.call c.act-acted.result)
    c.self.view_is (hall_acts g.K.Keeper.state before after c.args.call c.act-acted.result c.act-acted.ensures.acts pairs refl)
