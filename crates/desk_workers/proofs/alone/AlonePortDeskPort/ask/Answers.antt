use Rattle.std.proofs.Common.{subst}
use Rattle.desk_http.specs.Alone.{AloneAsks, port_over}
use Rattle.desk_http.specs.Ports.{ShowsAsk}
use Rattle.desk_workers.specs.Alone.{AloneMachine}
use Rattle.desk_workers.proofs.alone.AlonePortDeskPort.ask.Goals as goal

pub returns-clause-shows : goal.returns-clause-shows
returns-clause-shows g c =
    let inside = c.self.inside in
    subst (λ (a : AloneMachine g.row.M.Denot). ShowsAsk AloneAsks (g.M.DeskMachine.airport (g.M.Machine.state a.machine).fixed) (port_over a.first (g.M.Machine.state a.machine)) c.args.ask.now
    c.ask_next.result (port_over inside.first (g.M.Machine.state c.ask_next.new.machine)))
    c.self.view_is (c.ask_next.ensures.shows inside.first c.self.invariant.0)
