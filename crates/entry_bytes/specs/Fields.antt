-- The fields that entries are made of, one after the other.
use Rattle.std.specs.Prelude.{◌<◌, ◌^◌, ℕ, Bool, List, ◌∷◌, length, IsTrue}
use Rattle.std.specs.Int.{Width, byte_len, to_le_bytes}
use Rattle.apron_base.specs.Name.{is_name}
use Rattle.apron_rules.specs.declared.parts.AirportParts.{AirportParts}

-- a field: a number of this width; one that an airport may refuse, and whether it is in its form
-- there; a name; or another text
pub data Field : Type 0 where
  number_field : Width → ℕ → Field
  limited_field : Width → ℕ → (AirportParts → Bool) → Field
  name_field : List ℕ → Field
  text_field : List ℕ → Field

-- the bytes of a field: a number, its lowest byte first; or how many bytes a text has, and these
abbrev pub field_bytes : Field → List ℕ
field_bytes (number_field width number) = to_le_bytes width number
field_bytes (limited_field width number has_form) = to_le_bytes width number
field_bytes (name_field name) = length name ∷ name
field_bytes (text_field text) = length text ∷ text

-- the number fits its width, and the name is one; a definition has to say so, since here numbers
-- and texts range over all of them
abbrev pub Fits : Field → Type 0
Fits (number_field width number) = number < 256 ^ byte_len width
Fits (limited_field width number has_form) = number < 256 ^ byte_len width
Fits (name_field name) = IsTrue (is_name name)
Fits (text_field text) = Unit {0}
