use Rattle.std.proofs.Common.{◌≡◌, ◌+◌, ◌-◌, ◌*◌, ◌^◌, ◌<◌, length, take, false}
use Rattle.std.specs.Option.{option_map}
use Rattle.apron_base.specs.Counts.{Counts}
use Rattle.journal_disk.specs.Disk.{Goes, TellsAlike, with_piece_at}
use Rattle.journal_disk.specs.Entries.{records}
use Rattle.journal_disk.specs.Limits.{most_record}
use Rattle.journal_disk.specs.Switch.{KeepsTo}
use Rattle.journal_disk.proofs.sections.put_records.Given as goal

-- the records of the entries so far are there
abbrev pub invariant-loop-entry : goal.invariant-loop-entry
invariant-loop-entry g l = record {
  tells : TellsAlike (g.D.Disk.state l.fn.disk) (g.D.Disk.state l.disk);
  crash : Goes (KeepsTo l.at) (g.D.Disk.state l.fn.disk) (g.D.Disk.state l.disk);
  put : (g.D.Disk.state l.disk).contents ≡ option_map (with_piece_at l.at (records (take l.entry-index l.entries))) (g.D.Disk.state l.fn.disk).contents;
  end : l.end ≡ l.at + length (records (take l.entry-index l.entries));
  room : l.end + most_record * (length l.entries - l.entry-index) < 2 ^ 32;
  counts : Counts false (g.D.Disk.state l.fn.disk).faults (g.D.Disk.state l.disk).faults;
}
