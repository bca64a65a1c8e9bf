use Rattle.std.proofs.Common.{◌≡◌}
use Rattle.turn_board.specs.Board.{Sits}
use Rattle.bench.proofs.turns.seats.ask_often.Given as goal

-- the seat stays at its board, and keeps its share
abbrev pub invariant-loop-asked : goal.invariant-loop-asked
invariant-loop-asked g l = Sits l.board l.seat × (l.seat.share ≡ l.fn.seat.share)
