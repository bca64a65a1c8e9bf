use Rattle.std.proofs.Common.{◌≡◌, ◌∙◌, ℕ, List, ap, ap₂, refl, subst, sym}
use Rattle.apron_run.specs.Journal.{KeepsHistory}
use Rattle.apron_run.specs.Opened.{journal_tells}
use Rattle.apron_run.specs.Survival.{Survives}
use Rattle.apron_run.specs.World.{RunWorld, run_world}
use Rattle.apron_run.proofs.Disks.{disk_used}
use Rattle.apron_run.proofs.Serving.{desk_serves, opened_from, unopened_from}
use Rattle.apron_run.proofs.desk.serve_session.Goals as goal

pub returns-clause-does : goal.returns-clause-does
returns-clause-does g c = λ shelf.
    let before : RunWorld = run_world shelf (g.S.Source.state c.args.source.now) (g.W.Sink.state c.args.sink.now) g.N.OfFiles.begun in
    let after : RunWorld = run_world shelf (g.S.Source.state c.session_fed-outcome.new.source) (g.W.Sink.state c.session_fed-outcome.new.sink) (g.D.Disk.state c.close_board.result) in
    let done = c.session_fed-outcome.new.port in
    let opened = c.in-Ok.watched in
    let made : opened ≡ record { board = opened.board; watches = c.args.watches.now; next = opened.board.next } =
    ap₂ (λ watches next. record { board = opened.board; watches = watches; next = next }) c.in-Ok.ensures.watches c.in-Ok.ensures.next in
    let left = done.machine.board in
    let back = c.into_board-board.ensures.value ∙ ap (λ m. m.board) c.into_machine.ensures.machine in
    let from = opened_from (journal_tells g.D.Disk.state) c.args.files.now g.N.OfFiles.begun (g.D.Disk.state c.args.disk) opened.board c.requires.begun c.in-Ok.ensures.opened in (
      opened.board.history,
      from.opens,
      (
        refl {a = shelf},
        desk_serves (journal_tells g.D.Disk.state) g.R.Stated.tells c.args.watches.now c.args.files.now before after opened.board c.new-desk.result done
            c.session_fed-outcome.result from
            (c.new-desk.ensures.machine ∙ made)
            (c.new-desk.ensures.first ∙ c.in-Ok.ensures.next) c.session_fed-outcome.ensures.of c.session_fed-outcome.ensures.fixed
            (ap (λ d. (g.D.Disk.state d).faults) (c.close_board.ensures.disk ∙ ap (λ b. b.keeper.disk) back))
            (subst (λ (digests : List ℕ). KeepsHistory (record { airport = left.airport; digests = digests }) left.history left.at_risk after.disk) (sym c.requires.digests)
            (subst (λ b. KeepsHistory (record { airport = b.airport; digests = g.N.OfFiles.digests }) b.history b.at_risk after.disk) back c.close_board.ensures.keeps))
            (subst (λ (digests : List ℕ). Survives digests left.history left.at_risk g.N.OfFiles.begun (g.D.Disk.state c.close_board.result)) (sym c.requires.digests)
            (subst (λ b. Survives g.N.OfFiles.digests b.history b.at_risk g.N.OfFiles.begun (g.D.Disk.state c.close_board.result)) back c.close_board.ensures.survives)),
      ),
    )

pub returns-in-Err-clause-does : goal.returns-in-Err-clause-does
returns-in-Err-clause-does g c = λ shelf.
    let left = g.D.Disk.state c.in-Err.disk in
    disk_used (run_world shelf (g.S.Source.state c.args.source.now) (g.W.Sink.state c.args.sink.now) g.N.OfFiles.begun) left
    (unopened_from c.args.files.now g.N.OfFiles.begun (g.D.Disk.state c.args.disk) left c.requires.begun c.in-Err.why c.in-Err.ensures.refused)
