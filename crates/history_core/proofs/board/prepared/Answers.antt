use Rattle.std.proofs.Common.{sym, subst}
use Rattle.desk_asks.specs.Commands.{IsCommandOf}
use Rattle.history_core.proofs.board.prepared.Goals as goal

pub returns-clause-text : goal.returns-clause-text
returns-clause-text c =
    let airport = c.args.airport.now in
    (c.in_ok-text.ensures.entry airport (subst (IsCommandOf airport) (sym c.in_ok-copy.ensures.same) c.requires.valid), c.in_ok-text.ensures.text)
