use Rattle.std.proofs.Common.{ℕ}
use Rattle.desk_workers.specs.Watched.{FeedTexts, feed_texts}
use Rattle.apron_run.specs.Run.{RunsAs}
use Rattle.apron_run.specs.Words.{Subcommand, subcommand_of, uses_disk, uses_shelf, uses_source}
use Rattle.apron_run.specs.World.{RunWorld, run_world}
use Rattle.apron_run.proofs.Causing.{faults_have_cause, kept, kept_by, usage, usage_alone}
use Rattle.apron_run.proofs.Complete.{run_complete}
use Rattle.apron_run.proofs.Kept.{disk_alike, source_alike}
use Rattle.apron_run.proofs.program.run_with.Goals as goal

pub returns : goal.returns
returns g c =
    let done = c.run_words-end in
    let before : RunWorld = run_world (g.F.Shelf.state c.args.shelf.now) (g.S.Source.state c.args.source.now) (g.W.Sink.state c.args.sink.now) (g.D.Disk.state c.args.disk.now) in
    let after : RunWorld = run_world (g.F.Shelf.state done.new.shelf) (g.S.Source.state done.new.source) (g.W.Sink.state c.tell_end.new.sink) (g.D.Disk.state done.new.disk) in
    let feeds : FeedTexts = feed_texts g.R.Stated.tells c.args.watches.now in
    let asked : Subcommand = subcommand_of c.args.words.now in
    let code : ℕ = c.code.result in
    let runs : RunsAs feeds asked before after code = record {
      status = c.tell_end.result;
      code_is = c.code.ensures.value;
      written = g.W.Sink.state done.new.sink;
      end = done.result;
      does = done.ensures.does;
      tells = c.tell_end.ensures.tells;
    } in
    record {
      headline = runs;
      complete = run_complete feeds asked before after code runs;
      faults = faults_have_cause feeds asked before after code runs;
      usage = usage feeds asked before after code runs;
      usage_alone = usage_alone feeds asked before after code runs;
      shelf_kept = kept_by (uses_shelf asked) c.args.shelf.now done.new.shelf done.ensures.shelf_kept;
      source_kept = kept feeds asked before after code runs (uses_source asked) c.args.source.now done.new.source (source_alike asked) done.ensures.source_kept;
      disk_kept = kept feeds asked before after code runs (uses_disk asked) c.args.disk.now done.new.disk (disk_alike asked) done.ensures.disk_kept;
    }
