use Rattle.std.proofs.Common.{rules, subst}
use Rattle.desk_workers.specs.Watched.{feed_texts}
use Rattle.apron_run.specs.Desk.{AtDesk}
use Rattle.apron_run.specs.World.{run_world}
use Rattle.apron_run.proofs.desk.serve_desk.Goals as goal

pub returns-clause-does : goal.returns-clause-does
returns-clause-does g c = λ shelf.
    let source = g.S.Source.state in
    let sink = g.W.Sink.state in
    let disk = g.D.Disk.state in
    let met = c.serve_on-end in
    subst (λ d. AtDesk (feed_texts g.R.Stated.tells c.args.watches.now) c.args.files.now (run_world shelf (source c.args.source.now) (sink c.args.sink.now) (disk c.args.disk.now))
    (run_world shelf (source met.new.source) (sink met.new.sink) (disk d)) met.result.0) (search rules) (met.ensures.does shelf)
