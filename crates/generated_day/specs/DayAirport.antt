-- The airport of a generated day.
use Rattle.std.specs.Prelude.{ℕ, ◌*◌, List, [], ◌∷◌, codes, map, None}
use Rattle.std.specs.List.{range_with_len}
use Rattle.apron_base.specs.declared.letter.Letter.TheVariants.{E}
use Rattle.apron_rules.specs.declared.parts.AirportParts.{AirportParts}
use Rattle.apron_rules.specs.declared.parts.StandRow.{StandRow}
use Rattle.apron_rules.specs.declared.parts.TypeRow.{TypeRow}
use Rattle.mvt_grammar.specs.Canonical.{two_text}

-- the stand of this number, counted from 1: G01, G02 and so on, 41 metres apart
abbrev pub day_stand : ℕ → StandRow
day_stand number = record {
  name = 71 ∷ two_text number;
  frontage = codes "G";
  centre = 4100 * number;
  letter = E;
  buffer = 10;
  half_of = None;
}

-- how many stands there are
abbrev pub count_stands : ℕ
count_stands = 60

-- the stands
abbrev pub day_stands : List StandRow
day_stands = map day_stand (range_with_len 1 count_stands)

-- a type of this name, wing span and least minutes, whose wing tips do not fold
abbrev pub day_type : List ℕ → ℕ → ℕ → TypeRow
day_type name span least =
    record { name = name; span = span; least = least; parked = span; fold = 0 }

-- the types
abbrev pub day_types : List TypeRow
day_types =
    day_type (codes "A320") 3580 40 ∷ day_type (codes "B738") 3579 40
    ∷ day_type (codes "B77W") 6480 60 ∷ day_type (codes "AT76") 2705 25
    ∷ day_type (codes "B190") 1767 20 ∷ day_type (codes "A388") 7975 90
    ∷ day_type (codes "X360") 3600 40 ∷ []

-- two days from the 27th of March 2026 on, at sixty stands of letter E on one frontage
unfoldable pub day_airport : AirportParts
day_airport = record {
  station = codes "APR";
  first = record { year = 2026; month = 3; day = 27 };
  days = 2;
  taxi_in = 5;
  tow = 20;
  frontages = record { name = codes "G"; objects = [] } ∷ [];
  stands = day_stands;
  pairs = [];
  types = day_types;
}
