use Rattle.std.proofs.Common.{List, subst}
use Rattle.std.specs.List.{AllZip}
use Rattle.apron_base.specs.Histories.{Every}
use Rattle.screen_feed.specs.Screens.{ScreenState, WriterState}
use Rattle.screen_feed.specs.Sheets.{AreAmong}
use Rattle.shown_board.specs.Halls.{HallHeld, SeesFronts}
use Rattle.shown_board.proofs.Writers.{see_fronts}
use Rattle.shown_board.proofs.hall.Hall.knows.Goals as goal

pub returns-clause-fronts : goal.returns-clause-fronts
returns-clause-fronts g c =
    let board = c.self.inside.board.board in
    let screens = c.args.screens.now in
    subst (λ (hall : HallHeld g.row.K.Denot g.row.R.Denot). Every (SeesFronts hall.board.board.airport hall.board.board.history) screens) c.self.view_is
    (see_fronts board.airport board.history c.self.inside.writers.items screens c.self.invariant.writers
    (subst (λ (list : List WriterState). AllZip (λ (writer : WriterState) (screen : ScreenState). AreAmong screen.seen writer.tried) list screens)
    c.as_mut_slice.ensures.value c.know_all.ensures.tried))
