use Rattle.std.proofs.Common.{subst}
use Rattle.apron_rules.specs.declared.parts.AirportParts.{AirportParts}
use Rattle.history_core.specs.Board.{machine_state}
use Rattle.desk_http.specs.Ports.{ShowsAsk}
use Rattle.desk_workers.specs.Seats.{SeatTurn, ServedState, port_of}
use Rattle.desk_workers.proofs.Asking.{seat_shows}
use Rattle.desk_workers.proofs.served.ServedDeskPort.ask.Goals as goal

pub returns-clause-shows : goal.returns-clause-shows
returns-clause-shows g c =
    let board = c.self.inside.board.now in
    let after = c.ask.new.seat in
    subst (λ (served : ServedState AirportParts). ShowsAsk SeatTurn served.board.start.fixed (port_of served) c.args.ask.now c.ask.result (port_of (record { board = board; seat = after })))
    c.self.view_is
    (seat_shows (machine_state g.K.Keeper.state) (λ airport. airport) board c.self.inside.seat after c.args.ask.now c.ask.result c.self.invariant.0
    (record { spent = c.ask.ensures.spent; unasked = c.ask.ensures.unasked; answered = c.ask.ensures.answered }))
