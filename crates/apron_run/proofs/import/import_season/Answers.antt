use Rattle.std.proofs.Common.{rules, subst}
use Rattle.apron_run.specs.Import.{AtSeason}
use Rattle.apron_run.specs.World.{run_world}
use Rattle.apron_run.proofs.import.import_season.Goals as goal

pub returns : goal.returns
returns g c = record {
  does = λ source sink.
      let shelf = g.F.Shelf.state in
      let disk = g.D.Disk.state in
      let met = c.import_on-end in
      subst (λ d. AtSeason c.args.season.now c.args.files.now (run_world (shelf c.args.shelf.now) source sink (disk c.args.disk.now))
      (run_world (shelf met.new.shelf) source sink (disk d)) met.result.0) (search rules) (met.ensures.does source sink);
}
