use Rattle.std.proofs.Common.{arith, ◌∷◌, []}
use Rattle.journal_disk.specs.Disk.{with_piece_at}
use Rattle.journal_disk.specs.Header.{behind_section}
use Rattle.journal_disk.specs.Switch.{new_section}
use Rattle.journal_disk.proofs.Moments.{passes_both}
use Rattle.journal_disk.proofs.Switching.{switching, writing}
use Rattle.journal_disk.proofs.Tells.{between_any, on_ok}
use Rattle.journal_disk.proofs.Writes.{then_inside, then_safe, written_length}
use Rattle.journal_disk.proofs.sections.switch_sections.Goals as goal

pub returns-in_err-write_section-clause-crash : goal.returns-in_err-write_section-clause-crash
returns-in_err-write_section-clause-crash g c = λ bytes is safe.
    writing c.args.size c.args.entries.now bytes (c.requires.inside bytes is) (g.D.Disk.state c.args.disk.now) safe (g.D.Disk.state c.write_section.new.disk) c.write_section.ensures.crash

pub write_safely-requires : goal.write_safely-requires
write_safely-requires g c =
    let first = behind_section c.args.size in
    let section = new_section c.args.entries.now in
    record {
      inside = then_inside 5 (50 ∷ []) (g.D.Disk.state c.args.disk.now).contents (g.D.Disk.state c.write_section.new.disk) (with_piece_at first section) c.write_section.ensures.tells (g.met.D.Disk.reads c.write_section.new.disk) c.in_ok-write_section.ensures.safe
          (λ bytes is. omega (arith, written_length first section bytes (c.requires.inside bytes is)));
    }

pub returns-clause-continues : goal.returns-clause-continues
returns-clause-continues g c = record {
  tells = between_any _ _ _ c.write_section.ensures.tells c.write_safely.ensures.tells;
  clock = passes_both _ _ _ c.write_section.ensures.crash.clock c.write_safely.ensures.crash.clock;
}

pub returns-clause-crash : goal.returns-clause-crash
returns-clause-crash g c = λ bytes is safe.
    switching c.args.size c.args.entries.now bytes (c.requires.inside bytes is) (g.D.Disk.state c.args.disk.now) safe (g.D.Disk.state c.write_section.new.disk) c.write_section.ensures.crash
    (c.in_ok-write_section.ensures.safe bytes is) (g.D.Disk.state c.write_safely.new.disk) c.write_safely.ensures.crash

pub returns-clause-switched : goal.returns-clause-switched
returns-clause-switched g c =
    let first = behind_section c.args.size in
    let section = new_section c.args.entries.now in
    on_ok c.write_safely.result c.write_safely.ensures.safe (λ safe.
    then_safe 5 (50 ∷ []) (g.D.Disk.state c.args.disk.now).contents (g.D.Disk.state c.write_section.new.disk) (with_piece_at first section) c.write_section.ensures.tells (g.met.D.Disk.reads c.write_section.new.disk) c.in_ok-write_section.ensures.safe (g.D.Disk.state c.write_safely.new.disk) safe)
