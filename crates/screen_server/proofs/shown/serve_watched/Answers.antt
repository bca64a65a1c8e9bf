use Rattle.std.proofs.Common.{◌∙◌, map, ap, subst, sym}
use Rattle.std.proofs.lemmas.Result.{IfErr-weaker, IfOk-weaker}
use Rattle.apron_base.specs.Histories.{Every}
use Rattle.screen_feed.specs.Screens.{ScreenState}
use Rattle.shown_board.specs.Halls.{pairs_of}
use Rattle.screen_server.specs.Looks.{IsNewScreen}
use Rattle.screen_server.specs.Shown.{Opened}
use Rattle.screen_server.proofs.Boards.{board_served}
use Rattle.screen_server.proofs.Screens.{screens_left}
use Rattle.screen_server.proofs.shown.serve_watched.Goals as goal

pub returns-clause-serves : goal.returns-clause-serves
returns-clause-serves g c =
    let opened = c.args.board.board in
    let watches = c.args.board.watches in
    board_served g.W.Workplace.states c.args.task.connections g.K.Keeper.state g.R.Stated.tells opened watches
    c.new-hall.result c.serve_hall.result.1
    (map g.W.Workplace.state c.args.listeners.now) (map g.W.Workplace.state c.serve_hall.new.listeners) c.serve_hall.result.0
    (c.new-hall.ensures.board ∙ ap (λ next. record { board = opened; watches = watches; next = next }) c.requires.next)
    c.serve_hall.ensures.serves

pub serve_hall-requires-clause-pairs : goal.serve_hall-requires-clause-pairs
serve_hall-requires-clause-pairs g c κs within =
    ap pairs_of c.new-hall.ensures.writers ∙ (c.writers_of-writers.ensures.pairs ∙ ap (map (λ (screen : ScreenState). screen.pair)) (sym c.as_mut_slice.ensures.value))

pub returns-clause-shows : goal.returns-clause-shows
returns-clause-shows g c =
    let opened : Opened = record { airport = c.args.airport.now; history = c.args.board.board.history } in
    let screens = c.as_mut_slice.result.now in
    screens_left g.W.Workplace.states opened c.args.task (map g.W.Workplace.state c.args.walls.now) (map g.W.Workplace.state c.serve_hall.new.walls) screens c.serve_hall.new.screens
    c.new-hall.result c.serve_hall.result.1
    (subst (Every (IsNewScreen opened.airport opened.history c.args.task.day)) (sym c.as_mut_slice.ensures.value) c.writers_of-writers.ensures.screens)
    (ap (λ held. held.board.airport) c.new-hall.ensures.board ∙ sym c.requires.airport)
    g.K.Keeper.state g.R.Stated.tells (map g.W.Workplace.state c.args.listeners.now) (map g.W.Workplace.state c.serve_hall.new.listeners)
    c.serve_hall.result.0 c.serve_hall.ensures.serves c.serve_hall.ensures.shows c.serve_hall.ensures.fronts

pub returns-clause-writers : goal.returns-clause-writers
returns-clause-writers g c = c.serve_hall.ensures.writers

pub returns-clause-begun : goal.returns-clause-begun
returns-clause-begun g c = IfOk-weaker c.serve_hall.result.0 _ _ (λ _ same. same ∙ c.new-hall.ensures.begun) c.serve_hall.ensures.begun

pub returns-clause-refused : goal.returns-clause-refused
returns-clause-refused g c =
    IfErr-weaker c.serve_hall.result.0 _ _ (λ _ same. (
      same.0,
      same.1,
      ap (λ h. h.board.board) same.2 ∙ ap (λ w. w.board) c.new-hall.ensures.board,
    )) c.serve_hall.ensures.refused
