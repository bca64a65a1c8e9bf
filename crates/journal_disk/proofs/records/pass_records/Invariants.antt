use Rattle.std.proofs.Common.{◌≡◌, ◌-◌, ◌≤◌, length}
use Rattle.journal_disk.specs.Entries.{entries_from, section_length}
use Rattle.journal_disk.specs.Limits.{most_entries}
use Rattle.journal_disk.proofs.RecordTexts.{plus_length}
use Rattle.journal_disk.proofs.records.pass_records.Given as goal

abbrev pub invariant-loop-after : goal.invariant-loop-after
invariant-loop-after l = record {
  few : l.number ≤ most_entries;
  inside : length l.rest ≤ length l.text;
  read : section_length (entries_from most_entries l.text) ≡ plus_length (length l.text - length l.rest) (section_length (entries_from (most_entries - l.number) l.rest));
}

abbrev pub decreases-loop-after : goal.decreases-loop-after
decreases-loop-after l = length l.rest
