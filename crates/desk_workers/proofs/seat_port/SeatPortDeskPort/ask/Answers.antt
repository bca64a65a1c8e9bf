use Rattle.std.proofs.Common.{subst}
use Rattle.desk_http.specs.Ports.{ShowsAsk}
use Rattle.desk_workers.specs.Seats.{SeatTurn, ServedState, port_of}
use Rattle.desk_workers.proofs.Asking.{seat_shows}
use Rattle.desk_workers.proofs.seat_port.SeatPortDeskPort.ask.Goals as goal

pub returns-clause-shows : goal.returns-clause-shows
returns-clause-shows g c =
    let board = c.self.inside.board.now in
    let after = c.ask_copy.new.seat in
    subst (λ (served : ServedState g.row.M-Fixed.Denot). ShowsAsk SeatTurn (g.M.DeskMachine.airport served.board.start.fixed) (port_of served) c.args.ask.now c.ask_copy.result (port_of (record { board = board; seat = after })))
    c.self.view_is
    (seat_shows g.M.Machine.state g.M.DeskMachine.airport board c.self.inside.seat after c.args.ask.now c.ask_copy.result c.self.invariant.0 c.ask_copy.ensures.asks)
