use Rattle.std.proofs.Common.{arith}
use Rattle.journal_disk.specs.Disk.{Torn}
use Rattle.journal_disk.specs.Entries.{records}
use Rattle.journal_disk.specs.Switch.{KeepsTo}
use Rattle.journal_disk.proofs.Moments.{goes_both, goes_like}
use Rattle.journal_disk.proofs.Tells.{on_ok}
use Rattle.journal_disk.proofs.Writes.{keeps_both, keeps_torn, section_safe, put_inside}
use Rattle.journal_disk.proofs.sections.write_section.Goals as goal

pub write_safely-requires : goal.write_safely-requires
write_safely-requires g c = record { inside = put_inside c.args.at c.in_ok-end.end (records c.args.entries.now) _ _ c.in_ok-end.ensures.end c.requires.inside c.in_ok-end.ensures.put }

pub returns-clause-crash : goal.returns-clause-crash
returns-clause-crash g c =
    goes_both (KeepsTo c.args.at) (keeps_both c.args.at) _ _ _ c.put_records.ensures.crash
    (goes_like (Torn c.in_ok-end.end 1) (KeepsTo c.args.at) (keeps_torn c.args.at c.in_ok-end.end 1 (omega (arith, c.in_ok-end.ensures.end))) _ _ c.write_safely.ensures.crash)

pub returns-clause-safe : goal.returns-clause-safe
returns-clause-safe g c = on_ok c.write_safely.result c.write_safely.ensures.safe (λ safe. section_safe c.args.at c.in_ok-end.end (records c.args.entries.now) _ _ (g.D.Disk.state c.write_safely.new.disk) c.in_ok-end.ensures.end c.requires.inside c.in_ok-end.ensures.put safe)
