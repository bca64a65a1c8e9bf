use Rattle.std.proofs.Common.{arith}
use Rattle.turn_board.proofs.Moves.{ends}
use Rattle.turn_board.proofs.steps.end_call.Goals as goal

pub fetch_add-requires : goal.fetch_add-requires
fetch_add-requires g c =
    let over = c.requires.over.1 in (
      c.requires.table.1,
      (let a = c.requires.table.0.0 in omega arith),
      ends _ _ _ _ _ c.args.place.now.me c.requires.over.0 over.stage over.paid over.share over.held over.history over.next over.start.0 over.start.1 over.start.2 over.left over.at_risk,
    )
