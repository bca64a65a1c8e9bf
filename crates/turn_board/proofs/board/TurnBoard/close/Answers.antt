use Rattle.std.proofs.Common.{arith, ap}
use Rattle.std.specs.Option.{is_some}
use Rattle.turn_board.proofs.Ends.{closes_as, closes_with}
use Rattle.turn_board.proofs.board.TurnBoard.close.Goals as goal

pub machine_of-requires : goal.machine_of-requires
machine_of-requires g c =
    let left = closes_with g.M.Machine.number g.M.Machine.state (g.M.Machine.state c.self.inside.table.shared.key.value) c.self.inside.table.shared.table_id c.self.inside.table.shared.table_id _ _ _ _ c.take-slot.result
    (let a = ap (λ s. s.share) c.seat.view_is in let b = c.requires.share in omega arith) c.seat.invariant.1 c.close_with-closed.ensures.values.2 c.take-slot.ensures.value in
    record { some = ap is_some left.1 }

pub returns : goal.returns
returns g c = record {
  closes = closes_as g.M.Machine.number g.M.Machine.state (g.M.Machine.state c.self.inside.table.shared.key.value) c.self.inside.table.shared.table_id c.seat.inside.place.table_id _ _ _ _ c.take-slot.result _
      c.args.self c.args.seat c.self.view_is c.seat.view_is (let a = ap (λ s. s.share) c.seat.view_is in let b = c.requires.share in omega arith) c.seat.invariant.1 c.close_with-closed.ensures.values.2 c.take-slot.ensures.value
      c.machine_of.ensures.is;
}
