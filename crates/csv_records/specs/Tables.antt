-- Tables: rows one after the other, and records behind a header.
use Rattle.std.specs.Prelude.{ℕ, ◌+◌, Bool, List, [], ◌∷◌, length, bytes_eq, Option, ok_or, Result, Ok, Err}
use Rattle.std.specs.Cmp.Lexicographic.{pointwise}
use Rattle.apron_base.specs.ResultChain.{◌>>=◌}
use Rattle.csv.specs.Reading.{default_config, records_from, strip_bom}
use Rattle.csv.specs.declared.parser.State.{State}
use Rattle.csv.specs.declared.parser.State.TheVariants as st

-- what each of these says, the first of them as the k-th, or the first fault
unfoldable pub each_from : {A X E : Type 0} → (ℕ → X → Result A E) → ℕ → List X
    → Result (List A) E
each_from says k [] = Ok []
each_from says k (x ∷ rest) = do
  first ← says k x
  more ← each_from says (k + 1) rest
  Ok (first ∷ more)

-- the fields are these, one by one
abbrev pub are_fields : List (List ℕ) → List (List ℕ) → Bool
are_fields = pointwise bytes_eq

-- the rows that these records give, the first of them as the k-th, or the number of the first that
-- gives none
abbrev pub rows_from : {A : Type 0} → (List (List ℕ) → Option A) → ℕ → List (List (List ℕ))
    → Result (List A) ℕ
rows_from row_of k records = each_from (λ k fields. ok_or (row_of fields) k) k records

-- the rows of a table: its first record, the header, says how the records after it are read; it is
-- refused if it is no header
unfoldable pub table_of : {A : Type 0} → (List (List ℕ) → Option (List (List ℕ) → Option A))
    → List (List (List ℕ)) → Result (List A) ℕ
table_of rows_after [] = Err 1
table_of rows_after (header ∷ records) = do
  row_of ← ok_or (rows_after header) 1
  rows_from row_of 2 records

-- The table of a text, or the number of its first record that is refused, counted from 1 with the
-- header. Records are read as csv reads them by default: a byte order mark is removed, lines may
-- end with CR LF, fields may be quoted, and an empty line is no record.
abbrev pub table_in : {A : Type 0} → (List (List ℕ) → Option (List (List ℕ) → Option A)) → List ℕ
    → Result (List A) ℕ
table_in rows_after text =
    table_of rows_after
    (records_from default_config (length text + 1) st.StartRecord (strip_bom text))

-- the table of at most this many records, from a state of the reader and the bytes that are left
abbrev pub table_left : {A : Type 0} → (List (List ℕ) → Option (List (List ℕ) → Option A)) → ℕ
    → State → List ℕ → Result (List A) ℕ
table_left rows_after turns s left = table_of rows_after (records_from default_config turns s left)

-- the rows of at most this many records, the first of them the k-th, from such a state
abbrev pub rows_left : {A : Type 0} → (List (List ℕ) → Option A) → ℕ → ℕ → State → List ℕ
    → Result (List A) ℕ
rows_left row_of k turns s left = rows_from row_of k (records_from default_config turns s left)
