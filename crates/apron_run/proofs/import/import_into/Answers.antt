use Rattle.std.proofs.Common.{ℕ, List, refl, sym, ap, subst}
use Rattle.apron_run.specs.Import.{ImportsSeason}
use Rattle.apron_run.specs.Journal.{KeepsHistory}
use Rattle.apron_run.specs.Opened.{journal_tells}
use Rattle.apron_run.specs.Survival.{Survives}
use Rattle.apron_run.specs.World.{RunWorld, run_world}
use Rattle.apron_run.proofs.Disks.{disk_used}
use Rattle.apron_run.proofs.Importing.{season_imported}
use Rattle.apron_run.proofs.Serving.{opened_from, unopened_from}
use Rattle.apron_run.proofs.import.import_into.Goals as goal

pub returns : goal.returns
returns g c = record {
  does = λ source sink.
      let before : RunWorld = run_world (g.F.Shelf.state c.args.shelf.now) source sink g.N.OfFiles.begun in
      let after : RunWorld = run_world (g.F.Shelf.state c.add_season-imported.new.shelf) source sink (g.D.Disk.state c.close_board.result) in
      let left = c.add_season-imported.new.board in
      let from = opened_from (journal_tells g.D.Disk.state) c.args.files.now g.N.OfFiles.begun (g.D.Disk.state c.args.disk) c.in-Ok.board c.requires.begun c.in-Ok.ensures.opened in
      let imports : ImportsSeason c.text.result.now c.args.files.now c.in-Ok.board.history before after c.add_season-imported.result =
      season_imported (journal_tells g.D.Disk.state) c.args.files.now c.text.result.now before after c.in-Ok.board left
      c.add_season-imported.result from
      c.add_season-imported.ensures.adds c.add_season-imported.ensures.airport
      (sym (ap (λ d. (g.D.Disk.state d).faults) c.close_board.ensures.disk))
      (subst (λ (digests : List ℕ). KeepsHistory (record { airport = left.airport; digests = digests }) left.history left.at_risk after.disk)
      (sym c.requires.digests) c.close_board.ensures.keeps)
      (subst (λ (digests : List ℕ). Survives digests left.history left.at_risk before.disk after.disk)
      (sym c.requires.digests) c.close_board.ensures.survives) in (
        c.in-Ok.board.history,
        from.opens,
        (
          refl,
          refl,
          subst (λ (season : List ℕ). ImportsSeason season c.args.files.now c.in-Ok.board.history before after c.add_season-imported.result) c.text.ensures.text imports,
        ),
      );
}

pub returns-in-Err : goal.returns-in-Err
returns-in-Err g c = record {
  does = λ source sink.
      let left = g.D.Disk.state c.in-Err.disk in
      disk_used (run_world (g.F.Shelf.state c.args.shelf.now) source sink g.N.OfFiles.begun) left
      (unopened_from c.args.files.now g.N.OfFiles.begun (g.D.Disk.state c.args.disk) left c.requires.begun c.in-Err.why c.in-Err.ensures.refused);
}
