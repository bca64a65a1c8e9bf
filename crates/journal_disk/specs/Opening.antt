-- What reading a journal's records gives.
use Rattle.std.specs.Prelude.{◌≡◌, ◌+◌, ◌-◌, ◌<◌, ◌≤◌, ℕ, List, [], length, take, drop, true, false, Option, None, Some, Ok}
use Rattle.apron_base.specs.Histories.{Every}
use Rattle.journal_disk.specs.Entries.{before_rest, entries_from, records, IsEntry}
use Rattle.journal_disk.specs.Gates.{IsClosed}
use Rattle.journal_disk.specs.Header.{behind_section}
use Rattle.journal_disk.specs.Limits.{most_entries, most_first, record_frame}
use Rattle.journal_disk.specs.Sections.{IsHeaderAndOldSection}

-- a text that was read: the records of these entries, of this length, and then a closed gate
pub record IsReadJournal (text : List ℕ) (entries : List (List ℕ)) (size : ℕ) : Type 0 where
  pub sizes : Every IsEntry entries
  pub few : length entries ≤ most_entries
  pub closed : IsClosed (records entries) text
  pub size_is : size ≡ length (records entries)

-- a section that was passed over: some records, of this length, and then a closed gate
abbrev pub IsPassed : List ℕ → ℕ → Type 0
IsPassed text size = (old : List (List ℕ)) × IsReadJournal text old size

-- the new section of a journal of format 2 that was read: the header and the old section come
-- before its first gate, and it has these entries
pub record IsNewSection (text : List ℕ) (first : ℕ) (entries : List (List ℕ)) (size : ℕ) : Type 0 where
  pub front : IsHeaderAndOldSection true (take first text)
  pub inside : first ≤ length text
  pub early : first ≤ most_first
  pub read : IsReadJournal (drop first text) entries size

-- the old section of a journal of format 1 that was read: it has these entries, whose records have
-- this many bytes
pub record IsOldSection (text : List ℕ) (entries : List (List ℕ)) (size : ℕ) : Type 0 where
  pub front : IsHeaderAndOldSection false (take (behind_section size) text)
  pub same : front.old ≡ entries
  pub inside : behind_section size ≤ length text
  pub few : length entries ≤ most_entries
  pub sizes : Every IsEntry entries
  pub size_is : size ≡ length (records entries)

-- after this many entries were read: nothing more counts, or this entry comes, and then the rest
abbrev pub NextIs : ℕ → List ℕ → Option (List ℕ × List ℕ) → Type 0
NextIs number text None = entries_from (most_entries - number) text ≡ Ok []
NextIs number text (Some (entry, rest)) =
    (number < most_entries)
    × (entries_from (most_entries - number) text
    ≡ before_rest entry (entries_from (most_entries - (number + 1)) rest))
    × (length text ≡ record_frame + length entry + length rest)
