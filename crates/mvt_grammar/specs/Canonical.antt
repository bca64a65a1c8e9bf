-- The canonical text of a message.
use Rattle.std.specs.Prelude.{ℕ, ◌+◌, ◌/◌, ◌%◌, nat_lt, List, [], ◌∷◌, ◌++◌, codes, Option, Some, None, option_to_list, if◌then◌else◌}
use Rattle.std.specs.List.{flat_map, join_with_byte}
use Rattle.mvt_grammar.specs.declared.message.Clock.{Clock}
use Rattle.mvt_grammar.specs.declared.message.Flight.{Flight}
use Rattle.mvt_grammar.specs.declared.message.Mvt.{Mvt}

-- a number below 10 as a digit
abbrev pub digit : ℕ → ℕ
digit n = 48 + n

-- a number below 100 as two digits
abbrev pub two_text : ℕ → List ℕ
two_text n = digit (n / 10) ∷ digit (n % 10) ∷ []

-- a number below 10,000 without leading zeros
abbrev pub number_text : ℕ → List ℕ
number_text n =
    if nat_lt n 10 then digit n ∷ []
    else if nat_lt n 100 then two_text n
    else if nat_lt n 1000 then digit (n / 100) ∷ two_text (n % 100)
    else two_text (n / 100) ++ two_text (n % 100)

abbrev pub flight_text : Flight → List ℕ
flight_text flight = flight.airline ++ number_text flight.number ++ option_to_list flight.suffix

abbrev pub day_text : Option ℕ → List ℕ
day_text None = []
day_text (Some day) = two_text day

abbrev pub clock_text : Clock → List ℕ
clock_text clock =
    day_text clock.day ++ two_text (clock.minute / 60) ++ two_text (clock.minute % 60)

abbrev pub second_text : Option Clock → List ℕ
second_text None = []
second_text (Some clock) = 47 ∷ clock_text clock

abbrev pub times_text : Clock × Option Clock → List ℕ
times_text times = clock_text times.0 ++ second_text times.1

-- the words of an element with one or two times
abbrev pub times_words : List ℕ → Option (Clock × Option Clock) → List (List ℕ)
times_words pair None = []
times_words pair (Some times) = (pair ++ times_text times) ∷ []

-- the words of the estimate of arrival
abbrev pub ea_words : Option (Clock × List ℕ) → List (List ℕ)
ea_words None = []
ea_words (Some estimate) = (codes "EA" ++ clock_text estimate.0) ∷ estimate.1 ∷ []

-- the words of the estimate of departure
abbrev pub ed_words : Option Clock → List (List ℕ)
ed_words None = []
ed_words (Some clock) = (codes "ED" ++ clock_text clock) ∷ []

-- the words of the elements, in the order AD, AA, EA, ED
abbrev pub element_words : Mvt → List (List ℕ)
element_words message =
    times_words (codes "AD") message.ad
    ++ (times_words (codes "AA") message.aa ++ (ea_words message.ea ++ ed_words message.ed))

-- the element line, if there is an element
abbrev pub element_lines : List (List ℕ) → List (List ℕ)
element_lines [] = []
element_lines (word ∷ words) = join_with_byte 32 (word ∷ words) ∷ []

-- the flight line
abbrev pub heading_text : Mvt → List ℕ
heading_text message =
    flight_text message.flight ++ (47 ∷ two_text message.day) ++ (46 ∷ message.registration)
    ++ (46 ∷ message.station)

-- the canonical text: the line MVT, the flight line and the element line, each with LF
abbrev pub canonical : Mvt → List ℕ
canonical message =
    flat_map (λ line. line ++ 10 ∷ [])
    (codes "MVT" ∷ heading_text message ∷ element_lines (element_words message))
