use Rattle.std.proofs.Common.{arith, cond, ap, ◌∙◌}
use Rattle.turn_board.proofs.Moves.{counts_entry}
use Rattle.turn_board.proofs.steps.count_entry.Goals as goal

pub fetch_add-requires : goal.fetch_add-requires
fetch_add-requires g c = (
  c.requires.table.1,
  (let a = c.requires.table.0.0 in omega arith),
  counts_entry _ _ _ _ _ c.args.place.now.me c.requires.acted.0 (c.requires.acted.2 ∙ ap (λ z. cond z 1 0) c.if-added.true) c.requires.acted.1,
)
