-- The forms of values in an airport file, and what a key holds in a form.
use Rattle.std.specs.Prelude.{ℕ, ℤ, pos, negsuc, ◌+◌, ◌^◌, ◌&&◌, ◌||◌, ◌==◌, nat_lt, nat_le, Bool, List, [], ◌∷◌, length, find, slice_index, Option, Some, None, option_and_then, option_map, if◌then◌else◌}
use Rattle.std.specs.Char.{is_ascii_digit, is_ascii_uppercase}
use Rattle.std.specs.List.{list_all}
use Rattle.toml.specs.Data.{Data, Items, as_array, as_integer, as_str, item, no_items}
use Rattle.apron_base.specs.Letter.{letter_rank, letter_table}
use Rattle.apron_base.specs.OptionChain.{◌>>=◌}
use Rattle.apron_base.specs.declared.letter.Letter.{Letter}
use Rattle.apron_dates.specs.Dates.{read_date}
use Rattle.apron_dates.specs.declared.day.Date.{Date}
use Rattle.apron_rules.specs.Names.{is_station}

-- a capital or a digit
abbrev pub is_short_byte : ℕ → Bool
is_short_byte b = is_ascii_uppercase b || is_ascii_digit b

-- at least `least` and at most `most` capitals or digits
abbrev pub is_short_name : ℕ → ℕ → List ℕ → Bool
is_short_name least most text =
    nat_le least (length text) && nat_le (length text) most && list_all is_short_byte text

-- the text, if it passes the test
abbrev pub text_if : (List ℕ → Bool) → List ℕ → Option (List ℕ)
text_if test text = if test text then Some text else None

-- the name of a frontage or a stand: 1 to 6 capitals or digits
abbrev pub name_of : Data → Option (List ℕ)
name_of d = option_and_then (text_if (is_short_name 1 6)) (as_str d)

-- three capitals
abbrev pub station_of : Data → Option (List ℕ)
station_of d = option_and_then (text_if is_station) (as_str d)

-- a date YYYY-MM-DD
abbrev pub date_of : Data → Option Date
date_of d = option_and_then read_date (as_str d)

-- the code letter of a byte, from A on in their order
abbrev pub letter_of_byte : ℕ → Option Letter
letter_of_byte b =
    option_map (λ row. row.letter) (find (λ row. b == 65 + letter_rank row.letter) letter_table)

-- the code letter that a text names
abbrev pub letter_named : List ℕ → Option Letter
letter_named text = if length text == 1 then letter_of_byte (slice_index text 0) else None

-- one of the texts A to F
abbrev pub letter_of : Data → Option Letter
letter_of d = option_and_then letter_named (as_str d)

-- a whole number that 32 bits hold
abbrev pub in_u32 : ℤ → Option ℕ
in_u32 (pos n) = if nat_lt n (2 ^ 32) then Some n else None
in_u32 (negsuc n) = None

-- a whole number from 0 to 4294967295
abbrev pub toml_number : Data → Option ℕ
toml_number d = option_and_then in_u32 (as_integer d)

-- the values of these items in a form, if each of them is of it
abbrev pub items_in : {A : Type 0} → (Data → Option A) → Items → Option (List A)
items_in form no_items = Some []
items_in form (item d ds) = do
  first ← form d
  rest ← items_in form ds
  Some (first ∷ rest)

-- an array of values of one form
abbrev pub array_of : {A : Type 0} → (Data → Option A) → Data → Option (List A)
array_of form d = option_and_then (items_in form) (as_array d)
