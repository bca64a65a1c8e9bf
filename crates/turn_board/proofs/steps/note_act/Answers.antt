use Rattle.std.proofs.Common.{arith, ◌∙◌}
use Rattle.atomic_table.specs.Seated.{TableId}
use Rattle.turn_board.proofs.Moves.{notes_acted}
use Rattle.turn_board.proofs.steps.note_act.Goals as goal

pub load-requires : goal.load-requires
load-requires g c = (
  ◌∙◌ {A = TableId} c.exchange-left.ensures.0 c.requires.table.1,
  (let a = c.requires.table.0.0 in omega arith),
  notes_acted _ _ _ _ _ c.args.place.now.me c.exchange-left.new.seat.me c.args.machine c.requires.acted c.requires.at_risk c.exchange-left.ensures.3,
)
