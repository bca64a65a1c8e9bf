use Rattle.std.proofs.Common.{◌≡◌, ◌+◌, ◌≤◌, length}
use Rattle.std.specs.Prelude.{vec_capacity, vec_len}
use Rattle.apron_base.specs.Histories.{Every}
use Rattle.desk_workers.specs.Seats.{ServedState}
use Rattle.desk_workers.specs.Together.{AreCutFrom}
use Rattle.turn_board.specs.Board.{Sits}
use Rattle.desk_workers.proofs.crew.cut_ports.Given as goal

-- the ports so far were cut, and as many shares are gone
abbrev pub invariant-loop-cut : goal.invariant-loop-cut
invariant-loop-cut g l = record {
  sits : Sits l.board l.seat;
  airport : l.airport ≡ g.M.DeskMachine.airport l.board.start.fixed;
  cut : AreCutFrom l.fn.seat l.ports.items l.seat;
  board : Every (λ (port : ServedState g.row.M-Fixed.Denot). port.board ≡ l.board) l.ports.items;
  count : length l.ports.items ≡ l._cut;
  len : vec_len l.ports ≡ l._cut;
  room : l.count ≤ vec_capacity l.ports;
  share : l.seat.share + l._cut ≡ l.fn.seat.share;
}
