-- What a switch from format 1 to format 2 writes, and what a crash in it leaves.
use Rattle.std.specs.Prelude.{◌≡◌, ◌⊎◌, ◌≤◌, ◌*◌, ℕ, List, [], ◌∷◌, ◌++◌, length, take, Some, Ok}
use Rattle.journal_disk.specs.Disk.{DiskState, EachImageSince, IfExposed, IsSafe, with_piece_at}
use Rattle.journal_disk.specs.Entries.{closed_gate, records}
use Rattle.journal_disk.specs.Header.{behind_section, digests_in, new_format, old_opening_of, opening_of}
use Rattle.journal_disk.specs.Limits.{format_place, most_entries, most_record}
use Rattle.journal_disk.specs.Opening.{IsOldSection}

-- a journal of format 1 as contracts see it: its disk, its entries, and how many bytes their
-- records have
pub record OldHeld (D : Type 0) : Type 0 where
  pub disk : D
  pub entries : List (List ℕ)
  pub size : ℕ

-- what it keeps in its type: its numbers are within their limits, the size is that of the records
-- of its entries, and if the disk exposes what it reads as, a crash leaves exactly that, and it is
-- the journal of these entries
pub record IsOldKept (entries : List (List ℕ)) (size : ℕ) (disk : DiskState) : Type 0 where
  pub few : length entries ≤ most_entries
  pub within : size ≤ most_record * length entries
  pub size_is : size ≡ length (records entries)
  pub safe : IfExposed disk (λ bytes. IsSafe bytes disk)
  pub section : IfExposed disk (λ bytes. IsOldSection bytes entries size)

-- nothing before this place was written
pub record KeepsTo (at : ℕ) (old new : List ℕ) : Type 0 where
  pub before : take at new ≡ take at old
  pub no_shorter : length old ≤ length new

-- a new section of these entries
abbrev pub new_section : List (List ℕ) → List ℕ
new_section entries = records entries ++ closed_gate ∷ []

-- the bytes with another format byte
abbrev pub with_format : ℕ → List ℕ → List ℕ
with_format format bytes = with_piece_at format_place (format ∷ []) bytes

-- the bytes with a new section of these entries after an old section of this length, in format 2
abbrev pub after_switch : ℕ → List (List ℕ) → List ℕ → List ℕ
after_switch size entries bytes =
    with_format new_format (with_piece_at (behind_section size) (new_section entries) bytes)

-- either nothing before the new section was written, or the new section is there, and some format
-- byte
abbrev pub IsSwitching : ℕ → List (List ℕ) → List ℕ → List ℕ → Type 0
IsSwitching size entries bytes image =
    KeepsTo (behind_section size) bytes image
    ⊎ ((format : ℕ) × (more : List ℕ)
    × (image
    ≡ with_format format (with_piece_at (behind_section size) (new_section entries) bytes) ++ more))

-- an image that has the header and the old section of these bytes, except for the format byte, and
-- is a journal of format 1 with the old entries, or one of format 2 with the new ones
pub record IsEither (size : ℕ) (old new : List (List ℕ)) (bytes image : List ℕ) : Type 0 where
  pub keeps : (format : ℕ)
      × (take (behind_section size) image ≡ with_format format (take (behind_section size) bytes))
  pub opens : (old_opening_of (digests_in bytes) image ≡ Ok (Some old))
      ⊎ (opening_of (digests_in bytes) image ≡ Ok new)

-- a crash at any moment of a switch leaves the old entries in format 1 or the new ones in format 2,
-- and no other byte of the header or of the old section is written
abbrev pub SwitchesSafely
    : ℕ → List (List ℕ) → List (List ℕ) → DiskState → DiskState → Type 0
SwitchesSafely size old new before now =
    IfExposed before (λ bytes. EachImageSince before now (IsEither size old new bytes))

-- a switch was done: a crash leaves the bytes with the new section, which are a journal of format 2
-- with its entries
pub record HasSwitched (size : ℕ) (entries : List (List ℕ)) (bytes : List ℕ)
    (disk : DiskState) : Type 0 where
  pub safe : IsSafe (after_switch size entries bytes) disk
  pub opens : opening_of (digests_in bytes) (after_switch size entries bytes) ≡ Ok entries
