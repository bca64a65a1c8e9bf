-- Numbers that are written in digits.
use Rattle.std.specs.Prelude.{◌&&◌, nat_le, ℕ, Bool, List, length, Option, Some, None, if◌then◌else◌}
use Rattle.std.specs.Char.{is_ascii_digit}
use Rattle.std.specs.List.{list_all}
use Rattle.std.specs.Str.Parse.{digits_value}

-- the most digits that a number is read from
abbrev pub most_digits : ℕ
most_digits = 10

-- one digit or more, and at most this many
abbrev pub are_digits : List ℕ → ℕ → Bool
are_digits text most =
    nat_le 1 (length text) && nat_le (length text) most && list_all is_ascii_digit text

-- the number that a text of at most this many digits writes; none for other texts
unfoldable pub number_of : List ℕ → ℕ → Option ℕ
number_of text most = if are_digits text most then Some (digits_value 10 text) else None
