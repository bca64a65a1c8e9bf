use Rattle.std.proofs.Common.{arith, sym, ap, ◌∙◌}
use Rattle.turn_board.proofs.Moves.{looks}
use Rattle.turn_board.proofs.Seats.{joins, meets}
use Rattle.turn_board.proofs.board.TurnBoard.meet.Goals as goal

pub join_seat-requires : goal.join_seat-requires
join_seat-requires g c = (
  ap (λ s. s.table) c.seat.view_is ∙ (c.requires.seat.table ∙ sym (ap (λ b. b.table) c.self.view_is)),
  ap (λ s. s.table) c.other.view_is ∙ (c.requires.other.table ∙ sym (ap (λ b. b.table) c.self.view_is)),
  c.other.invariant.0,
  (let a = c.self.invariant.0 in omega arith),
  joins _ _ _ _ _ _ _ c.seat.invariant.1 c.other.invariant.1 c.seat.invariant.2,
)

pub load-requires : goal.load-requires
load-requires g c = (
  c.join_seat.ensures.0 ∙ (ap (λ s. s.table) c.seat.view_is ∙ (c.requires.seat.table ∙ sym (ap (λ b. b.table) c.self.view_is))),
  (let a = c.self.invariant.0 in omega arith),
  looks _ _ _ _ _ _,
)

pub returns-clause-meets : goal.returns-clause-meets
returns-clause-meets g c = meets g.M.Machine.number g.M.Machine.state (g.M.Machine.state c.self.inside.table.shared.key.value) c.args.seat.now c.args.other _ _ _ c.seat.inside.place.me.0 c.other.inside.place.me.0
    c.join_seat.new.seat.me.0 c.load.new.seat.me.0 c.seat.view_is c.other.view_is (ap (λ m. m.0) c.join_seat.ensures.2) (ap (λ m. m.0) c.load.ensures.2.0) c.load.ensures.2.1 c.load.ensures.2.2 c.load.ensures.2.3
