use Rattle.std.proofs.Common.{arith, sym, ap, ◌∙◌}
use Rattle.turn_board.proofs.Seats.{splits}
use Rattle.turn_board.proofs.board.TurnBoard.split.Goals as goal

pub split_seat-place-requires : goal.split_seat-place-requires
split_seat-place-requires g c = (
  ap (λ s. s.table) c.seat.view_is ∙ (c.requires.sits.table ∙ sym (ap (λ b. b.table) c.self.view_is)),
  (let a = c.self.invariant.0 in omega arith),
  splits _ _ _ _ _ (let a = ap (λ s. s.share) c.seat.view_is in let b = c.requires.share in omega arith),
)
