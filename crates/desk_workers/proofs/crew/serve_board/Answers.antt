use Rattle.std.proofs.Common.{map}
use Rattle.desk_http.specs.Session.{SessionKind}
use Rattle.desk_workers.specs.Feeds.{seat_sessions}
use Rattle.desk_workers.proofs.Together.{serves}
use Rattle.desk_workers.proofs.crew.serve_board.Goals as goal

pub returns-in-Ok-new-clause-serves : goal.returns-in-Ok-new-clause-serves
returns-in-Ok-new-clause-serves g c =
    let kinds : g.row.M-Fixed.Denot → SessionKind = λ fixed. seat_sessions (g.M.DeskMachine.feed_text fixed) (g.M.DeskMachine.airport fixed) in
    let olds = map g.W.Workplace.state c.args.listeners.now in
    let news = map g.W.Workplace.state c.work_in_turns-ends.new.listeners in
    let end = c.work_in_turns-ends.result.0 in
    serves g.W.Workplace.states kinds c.args.connections (g.M.Machine.state c.args.board) (g.M.Machine.state c.close_turns.result) c.in-Ok-new.turns c.in-Ok-new.seat c.work_in_turns-ends.new.seat olds news end
    c.in-Ok-new.ensures.ok c.work_in_turns-ends.ensures.works c.close_turns.ensures.closes c.close_turns.ensures.legal
