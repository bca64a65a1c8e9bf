-- The header of a journal, and what opening a journal gives. The header is the word APRNJ, the
-- format byte, carriage return and line feed, and two digests. The old section comes after it, and
-- in format 2 the new section after that.
use Rattle.std.specs.Prelude.{◌+◌, ℕ, List, [], ◌∷◌, ◌++◌, length, take, drop, get_or, Bool, Option, None, Some, Result, Ok, Err, not, ◌||◌, ◌&&◌, ◌==◌, nat_eq, nat_lt, if◌then◌else◌}
use Rattle.std.specs.List.{starts_with}
use Rattle.std.specs.Str.{bytes_eq}
use Rattle.journal_disk.specs.declared.fault.JournalFault.{JournalFault}
use Rattle.journal_disk.specs.declared.fault.JournalFault.TheVariants.{NotAJournal, OtherAirport, OldFormat, BadRecord}
use Rattle.journal_disk.specs.Entries.{closed_gate, entries_of, section_length}
use Rattle.journal_disk.specs.Limits.{digests_length, first_gate, format_place, line_place, magic_length}

-- the word that a journal begins with: APRNJ
abbrev pub magic : List ℕ
magic = 65 ∷ 80 ∷ 82 ∷ 78 ∷ 74 ∷ []

-- the format byte of a journal of format 2; any other byte means format 1
abbrev pub new_format : ℕ
new_format = 50

-- what follows that byte: carriage return, line feed
abbrev pub line_end : List ℕ
line_end = 13 ∷ 10 ∷ []

-- the header of a journal of format 2, of the files of these digests
abbrev pub header : List ℕ → List ℕ
header digests = magic ++ new_format ∷ (line_end ++ digests)

-- a journal of format 2 with no entry: no record in either section
abbrev pub empty_journal : List ℕ → List ℕ
empty_journal digests = header digests ++ closed_gate ∷ closed_gate ∷ []

-- the two digests of a header
abbrev pub digests_in : List ℕ → List ℕ
digests_in bytes = take digests_length (drop magic_length bytes)

-- the bytes begin as a journal of some format does
abbrev pub has_magic : List ℕ → Bool
has_magic bytes = starts_with nat_eq bytes magic
    && starts_with nat_eq (drop line_place bytes) line_end

-- the format byte is that of format 2
abbrev pub is_new : List ℕ → Bool
is_new bytes = get_or bytes format_place 0 == new_format

-- the entries, or the fault that the record of this number isn't whole
abbrev pub or_bad_record : Result (List (List ℕ)) ℕ → Result (List (List ℕ)) JournalFault
or_bad_record (Ok entries) = Ok entries
or_bad_record (Err number) = Err (BadRecord number)

-- where the first gate of the new section is, if the records of the old section have this many
-- bytes: just after the gate that ends the old section
abbrev pub behind_section : ℕ → ℕ
behind_section size = first_gate + size + 1

-- the entries of the new section after an old section of this length, or the fault that a record of
-- the old section isn't whole
abbrev pub entries_past : Option ℕ → List ℕ → Result (List (List ℕ)) JournalFault
entries_past (Some size) bytes = or_bad_record (entries_of (behind_section size) bytes)
entries_past None bytes = Err (BadRecord 0)

-- the entries of format 2: the old section is walked and passed over, and those of the new section
-- count
abbrev pub new_entries : List ℕ → Result (List (List ℕ)) JournalFault
new_entries bytes = entries_past (section_length (entries_of first_gate bytes)) bytes

-- the entries of format 1: those of the old section
abbrev pub old_entries : List ℕ → Result (List (List ℕ)) JournalFault
old_entries bytes = or_bad_record (entries_of first_gate bytes)

-- why the bytes have no header of a journal of the files of these digests; none if they have one,
-- of either format
abbrev pub header_fault : List ℕ → List ℕ → Option JournalFault
header_fault digests bytes =
    if nat_lt (length bytes) (first_gate + 1) || not (has_magic bytes) then Some NotAJournal
    else if not (bytes_eq (digests_in bytes) digests)
    then Some (OtherAirport (digests_in bytes) digests)
    else None

-- this, unless a fault comes before it
abbrev pub unless
    : {A : Type 0} → Option JournalFault → Result A JournalFault → Result A JournalFault
unless None read = read
unless (Some fault) read = Err fault

-- the entries of a journal of format 2 of the files of these digests, or why it doesn't open
abbrev pub opening_of : List ℕ → List ℕ → Result (List (List ℕ)) JournalFault
opening_of digests bytes =
    unless (header_fault digests bytes) (if is_new bytes then new_entries bytes else Err OldFormat)

-- these entries, as those of a journal of format 1
abbrev pub as_old : Result (List (List ℕ)) JournalFault
    → Result (Option (List (List ℕ))) JournalFault
as_old (Ok entries) = Ok (Some entries)
as_old (Err fault) = Err fault

-- what looking for a journal of format 1 of the files of these digests gives: its entries, or none
-- if it is of format 2, whatever its records are
abbrev pub old_opening_of : List ℕ → List ℕ → Result (Option (List (List ℕ))) JournalFault
old_opening_of digests bytes =
    unless (header_fault digests bytes)
    (if is_new bytes then Ok None else as_old (old_entries bytes))
