-- The text of a flight: its airline, its number and its suffix.
use Rattle.std.specs.Prelude.{ℕ, ◌-◌, ◌==◌, Bool, ◌&&◌, ◌||◌, List, length, take, drop, slice_index, Option, Some, None, if◌then◌else◌}
use Rattle.std.specs.List.{list_all, list_any}
use Rattle.std.specs.Str.Parse.{digits_value}
use Rattle.apron_base.specs.Digits.{are_digits}
use Rattle.mvt_grammar.specs.Bytes.{is_capital, is_digit}
use Rattle.mvt_grammar.specs.declared.message.Flight.{Flight}

-- a capital or a digit
abbrev pub is_airline_byte : ℕ → Bool
is_airline_byte b = is_capital b || is_digit b

-- three capitals; or two capitals or digits, at least one of them a capital
abbrev pub is_airline : List ℕ → Bool
is_airline text = (length text == 3 && list_all is_capital text)
    || (length text == 2 && list_all is_airline_byte text && list_any is_capital text)

-- the airline has three bytes if the third is a capital, and two otherwise
abbrev pub airline_len : List ℕ → ℕ
airline_len text = if is_capital (slice_index text 2) then 3 else 2

-- one to four digits
abbrev pub is_number : List ℕ → Bool
is_number text = are_digits text 4

-- the flight of an airline, a number and a suffix
abbrev pub flight_with : List ℕ → List ℕ → Option ℕ → Option Flight
flight_with airline number suffix =
    if is_airline airline && is_number number
    then Some (record { airline = airline; number = digits_value 10 number; suffix = suffix })
    else None

-- the last byte of what follows the airline is the suffix if it is a capital
abbrev pub flight_after : List ℕ → List ℕ → Option Flight
flight_after airline text =
    let last = slice_index text (length text - 1) in
    if is_capital last then flight_with airline (take (length text - 1) text) (Some last)
    else flight_with airline text None

-- the flight that a text writes
abbrev pub flight_of : List ℕ → Option Flight
flight_of text = flight_after (take (airline_len text) text) (drop (airline_len text) text)
