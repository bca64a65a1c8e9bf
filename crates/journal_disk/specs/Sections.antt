-- What is before the first gate of a journal's new section; in format 1 the new section may be
-- missing.
use Rattle.std.specs.Prelude.{◌≡◌, ◌≤◌, ℕ, List, [], ◌∷◌, ◌++◌, length, Bool, true}
use Rattle.std.proofs.Common.{◌≢◌}
use Rattle.apron_base.specs.Histories.{Every}
use Rattle.journal_disk.specs.Entries.{open_gate, records, IsEntry}
use Rattle.journal_disk.specs.Header.{has_magic, is_new}
use Rattle.journal_disk.specs.Limits.{first_gate, most_entries}

-- the header of a journal, of format 2 or not, the records of the old section and the gate that
-- ends it
pub record IsHeaderAndOldSection (new : Bool) (front : List ℕ) : Type 0 where
  pub header : List ℕ
  pub old : List (List ℕ)
  pub gate : ℕ
  pub text : front ≡ header ++ (records old ++ gate ∷ [])
  pub long : length header ≡ first_gate
  pub magic : has_magic header ≡ true
  pub format : is_new header ≡ new
  pub sizes : Every IsEntry old
  pub few : length old ≤ most_entries
  pub shut : gate ≢ open_gate
