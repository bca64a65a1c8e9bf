use Rattle.std.proofs.Common.{sym, subst}
use Rattle.journal_disk.specs.Gates.{IsRecord, IsWhole}
use Rattle.journal_disk.proofs.Moments.{since_now, since_goes}
use Rattle.journal_disk.proofs.Torn.{torn_gate, written_gate}
use Rattle.journal_disk.proofs.Tells.{on_ok}
use Rattle.journal_disk.proofs.gates.set_gate.Goals as goal

pub returns-clause-crash : goal.returns-clause-crash
returns-clause-crash g c = λ entry front long whole.
    let before = g.D.Disk.state c.args.disk.now in
    since_goes before before (g.D.Disk.state c.write_safely.new.disk) _ (IsWhole entry front) (since_now before (IsWhole entry front) whole) c.write_safely.ensures.crash (λ from image left torn. torn_gate front c.args.place long entry from image (whole from left) torn)

pub returns-clause-set : goal.returns-clause-set
returns-clause-set g c = on_ok c.write_safely.result c.write_safely.ensures.safe (λ safe entry front long whole bytes is image left.
    let was = whole bytes (g.met.D.Disk.reads c.args.disk.now bytes is) in
    subst (IsRecord c.args.gate entry front) (sym (safe bytes is image left)) (written_gate front c.args.place long c.args.gate entry bytes was))
