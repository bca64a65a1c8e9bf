use Rattle.history_core.proofs.board.Board.history.Goals as goal

pub returns-clause-legal : goal.returns-clause-legal
returns-clause-legal g c = rw (← c.self.view_is) c.self.invariant.legal
