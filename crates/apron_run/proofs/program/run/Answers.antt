use Rattle.std.proofs.Common.{◌≡◌, List, [], subst}
use Rattle.watch_list.specs.Watches.{shows}
use Rattle.watch_list.specs.declared.note.Shown.{Shown}
use Rattle.watch_list.specs.declared.watch.Watched.{Watched}
use Rattle.desk_workers.specs.Watched.{FeedTexts, feed_texts}
use Rattle.apron_run.specs.Run.{RunsAs}
use Rattle.apron_run.specs.Words.{subcommand_of}
use Rattle.apron_run.specs.World.{RunWorld, run_world}
use Rattle.apron_run.proofs.program.run.Goals as goal

-- what is true of feeds of no watch
of_none : (P : FeedTexts → Type 0) (watches : List (Watched Shown)) → watches ≡ [] → P (feed_texts shows watches) → P (feed_texts shows [])
of_none P watches none is = subst (λ (ws : List (Watched Shown)). P (feed_texts shows ws)) none is

pub returns-clause-headline : goal.returns-clause-headline
returns-clause-headline g c =
    let before : RunWorld = run_world (g.F.Shelf.state c.args.shelf.now) (g.S.Source.state c.args.source.now) (g.W.Sink.state c.args.sink.now) (g.D.Disk.state c.args.disk.now) in
    let after : RunWorld = run_world (g.F.Shelf.state c.run_with.new.shelf) (g.S.Source.state c.run_with.new.source) (g.W.Sink.state c.run_with.new.sink)
    (g.D.Disk.state c.run_with.new.disk) in
    of_none (λ feeds. RunsAs feeds (subcommand_of c.args.words.now) before after c.run_with.result) c.none-watches.result c.none-watches.ensures.none c.run_with.ensures.headline
