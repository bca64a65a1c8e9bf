-- What the fields of a head say.
use Rattle.std.specs.Prelude.{ℕ, List, [], ◌∷◌, map, Bool, bytes_eq, if◌then◌else◌, Option, Some, None}
use Rattle.std.specs.Char.{to_ascii_lowercase}
use Rattle.apron_base.specs.Digits.{most_digits, number_of}
use Rattle.httparse.specs.Grammar.{RequestHead}
use Rattle.httparse.specs.Spans.{name_and_value}
use Rattle.http_framing.specs.declared.fields.FieldNumber.{FieldNumber}
use Rattle.http_framing.specs.declared.fields.FieldNumber.TheVariants.{Absent, Written, Wrong}
use Rattle.http_framing.specs.declared.fields.FieldText.{FieldText}
use Rattle.http_framing.specs.declared.fields.FieldText.TheVariants as found

-- two texts are the same except for the case of their letters
unfoldable pub is_same_name : List ℕ → List ℕ → Bool
is_same_name text name = bytes_eq (map to_ascii_lowercase text) (map to_ascii_lowercase name)

-- a field's name, and its value without the white space around it
abbrev pub HeaderField : Type 0
HeaderField = List ℕ × List ℕ

-- the values of the fields of that name, in order
abbrev pub values_of : List ℕ → List HeaderField → List (List ℕ)
values_of name [] = []
values_of name (field ∷ fields) =
    if is_same_name field.0 name then field.1 ∷ values_of name fields else values_of name fields

-- the fields of a head as pairs
abbrev pub pairs : RequestHead → List HeaderField
pairs head = map name_and_value head.fields

-- what the fields of one name say: there is none, the only one has this value, or there are two or
-- more
pub data TextSaid : Type 0 where
  absent : TextSaid
  written : List ℕ → TextSaid
  twice : TextSaid

-- what the fields of a name with these values say
abbrev pub text_among : List (List ℕ) → TextSaid
text_among [] = absent
text_among (value ∷ []) = written value
text_among (first ∷ second ∷ values) = twice

-- what the fields of this name say
abbrev pub text_field : List ℕ → List HeaderField → TextSaid
text_field name fields = text_among (values_of name fields)

-- what is found of the fields of one name
abbrev pub text_shown : FieldText → TextSaid
text_shown found.Absent = absent
text_shown (found.Written value) = written value.now
text_shown found.Twice = twice

-- the number that a value writes, or that it writes none
abbrev pub number_written : Option ℕ → FieldNumber
number_written None = Wrong
number_written (Some number) = Written number

-- the number that fields with this text write
abbrev pub number_said : TextSaid → FieldNumber
number_said absent = Absent
number_said (written value) = number_written (number_of value most_digits)
number_said twice = Wrong

-- the number that the only field of this name writes
abbrev pub number_field : List ℕ → List HeaderField → FieldNumber
number_field name fields = number_said (text_field name fields)
