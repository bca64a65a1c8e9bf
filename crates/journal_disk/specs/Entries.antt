-- The records of a journal: an open gate (the byte 1), the entry's length in two bytes, the low one
-- first, and the entry. Any other gate ends the records.
use Rattle.std.specs.Prelude.{◌≤◌, ◌+◌, ◌-◌, ◌*◌, ◌/◌, ◌%◌, ℕ, zero, suc, List, [], ◌∷◌, ◌++◌, length, take, drop, Option, None, Some, Result, Ok, Err, ◌&&◌, ◌==◌, nat_le, nat_lt, if◌then◌else◌}
use Rattle.journal_disk.specs.Limits.{most_entries, most_bytes}

-- the gate that a record follows
abbrev pub open_gate : ℕ
open_gate = 1

-- the gate that is written after the last record; any gate but the open one means the same
abbrev pub closed_gate : ℕ
closed_gate = 0

-- a list of bytes that an entry can be
abbrev pub IsEntry : List ℕ → Type 0
IsEntry entry = (1 ≤ length entry) × (length entry ≤ most_bytes)

-- the entry after an open gate, and what comes after it, from the next gate on; none if the entry
-- isn't whole
abbrev pub behind_gate : List ℕ → Option (List ℕ × List ℕ)
behind_gate [] = None
behind_gate (low ∷ []) = None
behind_gate (low ∷ high ∷ rest) =
    let size = low + 256 * high in
    if nat_le 1 size && nat_le size most_bytes && nat_lt size (length rest)
    then Some (take size rest, drop size rest) else None

-- this entry and then those of the rest
abbrev pub before_rest : List ℕ → Result (List (List ℕ)) ℕ → Result (List (List ℕ)) ℕ
before_rest entry (Ok entries) = Ok (entry ∷ entries)
before_rest entry (Err number) = Err number

-- the record of this number, if it is whole, and then the rest
abbrev pub with_record : ℕ → Option (List ℕ × List ℕ) → (List ℕ → Result (List (List ℕ)) ℕ)
    → Result (List (List ℕ)) ℕ
with_record number None rest_of = Err number
with_record number (Some (entry, rest)) rest_of = before_rest entry (rest_of rest)

-- the entries from a gate on, if there may be this many more, or the number of the first record
-- that isn't whole
unfoldable pub entries_from : ℕ → List ℕ → Result (List (List ℕ)) ℕ
entries_from left [] = Err (most_entries + 1 - left)
entries_from zero (gate ∷ rest) = if gate == open_gate then Err (most_entries + 1) else Ok []
entries_from (suc left) (gate ∷ rest) =
    if gate == open_gate
    then with_record (most_entries - left) (behind_gate rest) (entries_from left)
    else Ok []

-- the entries of a text whose first gate is at this place, or the number of the first record that
-- isn't whole
abbrev pub entries_of : ℕ → List ℕ → Result (List (List ℕ)) ℕ
entries_of first bytes = entries_from most_entries (drop first bytes)

-- an entry with its length before it
abbrev pub with_length : List ℕ → List ℕ
with_length entry = length entry % 256 ∷ length entry / 256 ∷ entry

-- the records of these entries
abbrev pub records : List (List ℕ) → List ℕ
records [] = []
records (entry ∷ entries) = open_gate ∷ (with_length entry ++ records entries)

-- how long the record of the last of these entries is; 0 if there is none
abbrev pub last_record : List (List ℕ) → ℕ
last_record entries = length (records (drop (length entries - 1) entries))

-- how long the records of a section are; none if one of them isn't whole
abbrev pub section_length : Result (List (List ℕ)) ℕ → Option ℕ
section_length (Ok entries) = Some (length (records entries))
section_length (Err number) = None
