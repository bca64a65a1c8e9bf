-- The rows of a type file, and the headers before them.
use Rattle.std.specs.Prelude.{ℕ, List, [], ◌∷◌, ◌++◌, codes, Option, Some, None, if◌then◌else◌}
use Rattle.apron_base.specs.Digits.{number_of}
use Rattle.apron_base.specs.OptionChain.{◌>>=◌}
use Rattle.csv_records.specs.Tables.{are_fields}
use Rattle.apron_rules.specs.declared.parts.TypeRow.{TypeRow}
use Rattle.airport_files.specs.Forms.{is_short_name, text_if}

-- the name of a type: 2 to 4 capitals or digits
abbrev pub type_name : List ℕ → Option (List ℕ)
type_name text = text_if (is_short_name 2 4) text

-- the number of 1 to 9 digits
abbrev pub number_named : List ℕ → Option ℕ
number_named text = number_of text 9

-- the type of a record of three fields, whose wing tips don't fold
abbrev pub plain_type : List (List ℕ) → Option TypeRow
plain_type (name ∷ span ∷ least ∷ []) = do
  name ← type_name name
  span ← number_named span
  least ← number_named least
  Some (record { name = name; span = span; least = least; parked = span; fold = 0 })
plain_type _ = None

-- the type of a record of five fields
abbrev pub folding_type : List (List ℕ) → Option TypeRow
folding_type (name ∷ span ∷ least ∷ parked ∷ fold ∷ []) = do
  plain ← plain_type (name ∷ span ∷ least ∷ [])
  parked ← number_named parked
  fold ← number_named fold
  Some (record plain { parked = parked; fold = fold })
folding_type _ = None

-- the columns of a file whose types don't fold their wing tips
abbrev pub plain_columns : List (List ℕ)
plain_columns = codes "type" ∷ codes "span" ∷ codes "least" ∷ []

-- the columns of a file whose types may fold them
abbrev pub folding_columns : List (List ℕ)
folding_columns = plain_columns ++ codes "parked" ∷ codes "fold" ∷ []

-- behind a header of these or those columns each record gives a type
abbrev pub types_after : List (List ℕ) → Option (List (List ℕ) → Option TypeRow)
types_after header =
    if are_fields header plain_columns then Some plain_type
    else (if are_fields header folding_columns then Some folding_type else None)
