use Rattle.std.proofs.Common.{refl, subst}
use Rattle.history_core.specs.Board.{BoardHeld}
use Rattle.history_core.specs.History.{IsLegal}
use Rattle.shown_board.proofs.Writers.{new_show, new_writers}
use Rattle.shown_board.proofs.hall.Hall.new.Goals as goal

pub invariant_of-result : goal.invariant_of-result
invariant_of-result g c =
    let board = c.args.board.board in
    let writers = c.args.writers.items in
    let legal : IsLegal board.airport board.history = subst (λ (held : BoardHeld g.row.K.Denot). IsLegal held.airport held.history) c.board.ensures.value c.history-history.ensures.legal in record {
      writers = new_writers board.airport board.history writers legal c.requires.writers;
      missed = ((λ _. new_show board.airport board.history writers c.requires.writers), (λ _. refl));
    }
