use Rattle.std.proofs.Common.{rules}
use Rattle.desk_workers.specs.Together.{WorkAll, WorkEach}
use Rattle.desk_workers.proofs.Together.{no_work, of_front}
use Rattle.desk_workers.proofs.crew.+fn-work_all-work_beside+work_all.Goals as goal

pub returns-then-is_empty-clause-works : goal.returns-then-is_empty-clause-works
returns-then-is_empty-clause-works g t c =
    no_work (g.K.ConnectionHandler.serves g.W.Workplace.states) g.K.ConnectionHandler.fixed g.K.ConnectionHandler.state g.W.Workplace.state c.args.connections c.args.owns.now c.args.listeners.now c.requires.each (search rules)

pub returns-clause-works : goal.returns-clause-works
returns-clause-works g t c =
    let front = c.split_at_mut-own.result.0.now in
    let others = c.split_at_mut-own.result.1.now in
    let first = c.split_at_mut-first.result.0.now in
    let rest = c.split_at_mut-first.result.1.now in
    let each : WorkEach (g.K.ConnectionHandler.serves g.W.Workplace.states) g.K.ConnectionHandler.fixed g.K.ConnectionHandler.state g.W.Workplace.state c.args.connections front first c.work_beside-one.new.owns c.work_beside-one.new.listeners c.work_beside-one.result.0 = search rules in
    let work : WorkAll (g.K.ConnectionHandler.serves g.W.Workplace.states) g.K.ConnectionHandler.fixed g.K.ConnectionHandler.state g.W.Workplace.state c.args.connections others rest c.others-1.given.0 c.rest-1.given.0 c.work_beside-one.result.1.0 = search rules in
    rw (c.split_at_mut-own.ensures.value, c.split_at_mut-first.ensures.value)
    (of_front (g.K.ConnectionHandler.serves g.W.Workplace.states) g.K.ConnectionHandler.fixed g.K.ConnectionHandler.state g.W.Workplace.state c.args.connections front c.work_beside-one.new.owns others c.others-1.given.0 first c.work_beside-one.new.listeners rest c.rest-1.given.0
    c.work_beside-one.result.0 c.work_beside-one.result.1.0 c.first_end.result (search rules) (search rules) each work c.first_end.ensures.is)
