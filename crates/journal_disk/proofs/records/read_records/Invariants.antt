use Rattle.std.proofs.Common.{◌≡◌, ◌+◌, ◌-◌, ◌≤◌, length}
use Rattle.journal_disk.specs.Entries.{entries_from, records}
use Rattle.journal_disk.specs.Limits.{most_entries}
use Rattle.journal_disk.proofs.RecordTexts.{after_entries}
use Rattle.journal_disk.proofs.records.read_records.Given as goal

abbrev pub invariant-loop-entries : goal.invariant-loop-entries
invariant-loop-entries l = record {
  few : length l.entries.items ≤ most_entries;
  read : entries_from most_entries l.text ≡ after_entries l.entries.items (entries_from (most_entries - length l.entries.items) l.rest);
  length : length l.text ≡ length (records l.entries.items) + length l.rest;
}

abbrev pub decreases-loop-entries : goal.decreases-loop-entries
decreases-loop-entries l = length l.rest
