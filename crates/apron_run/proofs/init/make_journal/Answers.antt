use Rattle.std.proofs.Common.{refl}
use Rattle.apron_run.specs.World.{run_world}
use Rattle.apron_run.proofs.Disks.{disk_used, is_made, is_refused}
use Rattle.apron_run.proofs.init.make_journal.Goals as goal

pub returns-in-Ok : goal.returns-in-Ok
returns-in-Ok g c = record {
  does = λ shelf source sink. (
    refl,
    disk_used (run_world shelf source sink (g.D.Disk.state c.args.disk.now)) (g.D.Disk.state c.init.new.disk)
        (is_made c.args.files.now.digests (g.D.Disk.state c.args.disk.now) (g.D.Disk.state c.init.new.disk) c.in-Ok.ensures.empty c.in-Ok.ensures.made
        c.init.ensures.tells (g.met.D.Disk.reads c.init.new.disk) c.in-Ok.ensures.counts),
  );
}

pub returns-in-Err : goal.returns-in-Err
returns-in-Err g c = record {
  does = λ shelf source sink.
      is_refused c.args.files.now shelf source sink (g.D.Disk.state c.args.disk.now) (g.D.Disk.state c.init.new.disk) c.in-Err.fault
      c.in-Err.ensures.refused c.init.ensures.spares;
}
