-- A record of a type file as it is read, field by field at its place; it gives the same type.
use Rattle.std.specs.Prelude.{ℕ, ◌&&◌, ◌==◌, not, Bool, false, List, length, codes, Option, Some, None, if◌then◌else◌}
use Rattle.std.specs.Str.{bytes_eq}
use Rattle.apron_base.specs.OptionChain.{◌>>=◌}
use Rattle.csv.specs.Records.{field_at}
use Rattle.apron_rules.specs.declared.parts.TypeRow.{TypeRow}
use Rattle.airport_files.specs.declared.type_rows.Columns.{Columns}
use Rattle.airport_files.specs.declared.type_rows.Columns.TheVariants.{Folding, Plain}
use Rattle.airport_files.specs.Types.{folding_type, number_named, plain_type, type_name}

-- there is a field, and it is this word
abbrev pub field_is : List ℕ → Option (List ℕ) → Bool
field_is word None = false
field_is word (Some field) = bytes_eq field word

-- the field of this place is this word
abbrev pub is_field : List (List ℕ) → ℕ → List ℕ → Bool
is_field fields i word = field_is word (field_at fields i)

-- the first three fields name the columns that each file has
abbrev pub has_plain_columns : List (List ℕ) → Bool
has_plain_columns fields =
    is_field fields 0 (codes "type")
    && is_field fields 1 (codes "span")
    && is_field fields 2 (codes "least")

-- the two fields after them name the columns of a file whose types may fold their wing tips
abbrev pub has_folding_columns : List (List ℕ) → Bool
has_folding_columns fields = is_field fields 3 (codes "parked") && is_field fields 4 (codes "fold")

-- the columns that a header names: the first three, or all five
abbrev pub columns_of : List (List ℕ) → Option Columns
columns_of fields =
    if not (has_plain_columns fields) then None
    else (if length fields == 3 then Some Plain
    else (if (length fields == 5) && has_folding_columns fields then Some Folding else None))

-- the name of a type, of capitals and digits, in the field of this place
abbrev pub name_in : List (List ℕ) → ℕ → Option (List ℕ)
name_in fields i = field_at fields i >>= type_name

-- the number whose digits are the field of this place
abbrev pub number_in : List (List ℕ) → ℕ → Option ℕ
number_in fields i = field_at fields i >>= number_named

-- the type of the first three fields, whose wing tips don't fold
abbrev pub plain_row : List (List ℕ) → Option TypeRow
plain_row fields = do
  name ← name_in fields 0
  span ← number_in fields 1
  least ← number_in fields 2
  Some (record { name = name; span = span; least = least; parked = span; fold = 0 })

-- the type of five fields
abbrev pub folding_row : List (List ℕ) → Option TypeRow
folding_row fields = do
  plain ← plain_row fields
  parked ← number_in fields 3
  fold ← number_in fields 4
  Some (record plain { parked = parked; fold = fold })

-- the type of a record with these columns, as it is read
abbrev pub row_of : Columns → List (List ℕ) → Option TypeRow
row_of Plain fields = if length fields == 3 then plain_row fields else None
row_of Folding fields = if length fields == 5 then folding_row fields else None

-- the type of a record with these columns
abbrev pub type_of : Columns → List (List ℕ) → Option TypeRow
type_of Plain fields = plain_type fields
type_of Folding fields = folding_type fields
