-- The limits of a journal, and how long its parts are.
use Rattle.std.specs.Prelude.{ℕ, ◌+◌, ◌*◌}

-- how many entries a journal can have
abbrev pub most_entries : ℕ
most_entries = 200000

-- how many bytes an entry can have
abbrev pub most_bytes : ℕ
most_bytes = 1024

-- how long a record is besides its entry: its gate and the entry's length
abbrev pub record_frame : ℕ
record_frame = 3

-- how long a record can be
abbrev pub most_record : ℕ
most_record = 1027

-- where the format byte is: after the word that a journal begins with
abbrev pub format_place : ℕ
format_place = 5

-- where the line's end is: after the format byte
abbrev pub line_place : ℕ
line_place = 6

-- where the digests are: after the line's end
abbrev pub magic_length : ℕ
magic_length = 8

-- how long the two digests after it are together
abbrev pub digests_length : ℕ
digests_length = 64

-- where the first gate of the old section is: after the header, which is all of these
abbrev pub first_gate : ℕ
first_gate = 72

-- the farthest place at which the first gate of the new section can be
abbrev pub most_first : ℕ
most_first = first_gate + most_record * most_entries + 1
