-- Capitals and digits, and texts of fixed forms made of them.
use Rattle.std.specs.Prelude.{ℕ, ◌+◌, ◌-◌, ◌*◌, ◌==◌, Bool, ◌&&◌, nat_le, List, length, take, drop, slice_index, Option, Some, None, position, if◌then◌else◌}
use Rattle.std.specs.List.{list_all}

-- a capital
abbrev pub is_capital : ℕ → Bool
is_capital b = nat_le 65 b && nat_le b 90

-- a digit
abbrev pub is_digit : ℕ → Bool
is_digit b = nat_le 48 b && nat_le b 57

-- three capitals
abbrev pub is_station : List ℕ → Bool
is_station text = length text == 3 && list_all is_capital text

-- the number that a text of two digits writes
abbrev pub two_digits : List ℕ → Option ℕ
two_digits text =
    if length text == 2 && list_all is_digit text
    then Some (10 * (slice_index text 0 - 48) + (slice_index text 1 - 48))
    else None

-- the text before a place and the text after it, if there is a place
abbrev pub parted_at : List ℕ → Option ℕ → Option (List ℕ × List ℕ)
parted_at text None = None
parted_at text (Some at) = Some (take at text, drop (at + 1) text)

-- the text before the first such byte and the text after it, if there is one
abbrev pub split_once : ℕ → List ℕ → Option (List ℕ × List ℕ)
split_once byte text = parted_at text (position (λ b. b == byte) text)
