use Rattle.std.proofs.Common.{rules, subst}
use Rattle.apron_run.specs.Upgrade.{AtUpgrade}
use Rattle.apron_run.specs.World.{run_world}
use Rattle.apron_run.proofs.upgrade.upgrade_journal.Goals as goal

pub returns : goal.returns
returns g c = record {
  does = λ shelf source sink.
      let disk = g.D.Disk.state in
      let met = c.upgrade_on-end in
      subst (λ d. AtUpgrade c.args.files.now (run_world shelf source sink (disk c.args.disk.now)) (run_world shelf source sink (disk d)) met.result.0)
      (search rules) (met.ensures.does shelf source sink);
}
