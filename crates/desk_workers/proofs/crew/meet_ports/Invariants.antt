use Rattle.std.proofs.Common.{◌≡◌}
use Rattle.std.specs.Prelude.{vec_len}
use Rattle.apron_base.specs.Histories.{Every}
use Rattle.desk_workers.specs.Seats.{ServedState}
use Rattle.desk_workers.specs.Together.{MeetsAll}
use Rattle.turn_board.specs.Board.{SeatState, Sits}
use Rattle.desk_asks.specs.declared.asks.Entry.{Entry}
use Rattle.desk_workers.proofs.crew.meet_ports.Given as goal

-- to meet those that are left is to meet all
abbrev pub invariant-loop-port : goal.invariant-loop-port
invariant-loop-port g l = record {
  sits : Sits l.board l.seat;
  board : Every (λ (port : ServedState g.row.M-Fixed.Denot). port.board ≡ l.board) l.ports.items;
  meets : (after : SeatState Entry g.row.M-Fixed.Denot) → MeetsAll l.seat l.ports.items after → MeetsAll l.fn.seat l.fn.ports.items after;
}

abbrev pub decreases-loop-port : goal.decreases-loop-port
decreases-loop-port g l = vec_len l.ports
