use Rattle.std.proofs.Common.{subst}
use Rattle.desk_workers.specs.Watched.{FeedTexts, feed_texts}
use Rattle.apron_run.specs.Run.{DoesAsked}
use Rattle.apron_run.specs.Words.{Subcommand}
use Rattle.apron_run.specs.World.{RunWorld, run_world}
use Rattle.apron_run.specs.declared.end.End.TheVariants.{Faulty}
use Rattle.apron_run.proofs.Kept.{fault_does}
use Rattle.apron_run.proofs.program.run_words.Goals as goal

pub returns-in-Err-clause-does : goal.returns-in-Err-clause-does
returns-in-Err-clause-does g c =
    let feeds : FeedTexts = feed_texts g.R.Stated.tells c.args.watches.now in
    let words = c.in-AtFiles in
    let read = g.F.Shelf.state c.airport_of.new.shelf in
    let before : RunWorld = run_world (g.F.Shelf.state c.args.shelf.now) (g.S.Source.state c.args.source.now) (g.W.Sink.state c.args.sink.now) (g.D.Disk.state c.args.disk.now) in
    subst (λ (asked : Subcommand). DoesAsked feeds asked before (record before { shelf = read }) (Faulty c.in-Err.fault)) words.ensures.asked
    (fault_does feeds words.airport.now words.types.now words.asked before read c.in-Err.fault c.in-Err.ensures.finds)
