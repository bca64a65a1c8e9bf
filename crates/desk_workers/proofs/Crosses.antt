-- What crosses threads of a board, of its seats and of their ports.
use denote.Param.Send.{IsSend, IsSync, sendable}
use denote.RattleType.{RattleType}
use denote.Ref.{NamedLft}
use Rattle.std.proofs.Crossing.{crosses}
use Rattle.std.proofs.MapsCrossing as maps
use Rattle.apron_base.specs.declared.keeper.Keeper as keepers
use Rattle.apron_base.specs.declared.machine.Machine as machines
use Rattle.apron_rules.specs.contracts.airport.Airport as Airport
use Rattle.desk_asks.specs.declared.asks.Entry.{Entry}
use Rattle.history_core.proofs.Crosses.{board_send}
use Rattle.turn_board.proofs.Crosses as turns
use Rattle.turn_board.specs.contracts.board.Seat as Seat
use Rattle.turn_board.specs.contracts.board.TurnBoard as TurnBoard
use Rattle.watch_list.specs.declared.watch_asks.WatchAsk.{WatchAsk}
use Rattle.desk_workers.specs.declared.machine.DeskMachine as desks
use Rattle.desk_workers.specs.contracts.seat_port.SeatPort as SeatPort
use Rattle.desk_workers.specs.contracts.served.Served as Served

-- a board may be shared, and a seat may go to another thread, if the machine may
pub turns_sync : (M A E F : RattleType) (g : machines.Ghosts M.Denot A.Denot E.Denot F.Denot) → IsSend M → IsSync (TurnBoard.the_row M A E F g)
turns_sync M A E F g machine_send = search (turns.crosses, sendable, crosses) depth 60 fits 20000

pub seat_send : (M A E F : RattleType) (g : machines.Ghosts M.Denot A.Denot E.Denot F.Denot) → IsSend M → IsSend (Seat.the_row M A E F g)
seat_send M A E F g machine_send = search (turns.crosses, sendable, crosses) depth 60 fits 20000

pub airport_sync : IsSync Airport.the_row
airport_sync = search (sendable, crosses, maps.crosses) depth 60 fits 20000

-- so that a worker in a thread can have a port
pub port_send : (σ : NamedLft) (R M F : RattleType) (d : desks.Ghosts M.Denot F.Denot) (g : machines.Ghosts M.Denot WatchAsk Entry F.Denot)
    → IsSync R → IsSend M → IsSend (SeatPort.the_row σ R M F d g)
port_send σ R M F d g runtime_sync machine_send = search (airport_sync, turns_sync, seat_send, sendable, crosses) depth 60 fits 20000

pub served_send : (σ κ : NamedLft) (R K : RattleType) (k : keepers.Ghosts K.Denot) → IsSync R → IsSend K → IsSend (Served.the_row σ κ R K k)
served_send σ κ R K k runtime_sync keeper_send = search (airport_sync, turns_sync, seat_send, board_send, sendable, crosses) depth 60 fits 20000
