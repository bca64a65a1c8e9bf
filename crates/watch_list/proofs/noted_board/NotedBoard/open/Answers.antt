use Rattle.std.proofs.Common.{◌∙◌, ap, sym}
use Rattle.apron_rules.specs.declared.parts.AirportParts.{AirportParts}
use Rattle.watch_list.specs.HistoryNotes.{notes_of}
use Rattle.watch_list.proofs.noted_board.NotedBoard.open.Goals as goal

pub of-requires : goal.of-requires
of-requires g c =
    let board = c.board.result in
    record {
      notes = c.in-Ok.ensures.notes
          ∙ sym (ap (λ (a : AirportParts). notes_of a board.history) c.board.ensures.opened.airport_is
          ∙ ap (notes_of c.in-Ok.opening.airport) c.board.ensures.history);
    }
