-- An airport, as replies give it.
use Rattle.std.specs.Prelude.{ℕ, List, [], ◌∷◌, ◌++◌, ◌+◌, codes, decimal, map}
use Rattle.serde_json.specs.Data.{Data, string, array, object, member, no_members}
use Rattle.serde_json.specs.View.{items_of}
use Rattle.apron_base.specs.declared.letter.Letter.{Letter}
use Rattle.apron_base.specs.Letter.{letter_for, letter_rank}
use Rattle.apron_dates.specs.declared.day.Date.{Date}
use Rattle.mvt_grammar.specs.Canonical.{two_text}
use Rattle.apron_rules.specs.declared.parts.AirportParts.{AirportParts}
use Rattle.apron_rules.specs.declared.parts.Frontage.{Frontage}
use Rattle.apron_rules.specs.declared.parts.PairRow.{PairRow}
use Rattle.apron_rules.specs.declared.parts.StandRow.{StandRow}
use Rattle.apron_rules.specs.declared.parts.TypeRow.{TypeRow}
use Rattle.desk_words.specs.PartObjects.{or_null, whole}

-- a code letter, A to F
abbrev pub letter_data : Letter → Data
letter_data letter = string ((65 + letter_rank letter) ∷ [])

-- YYYY-MM-DD
abbrev pub date_text : Date → List ℕ
date_text date =
    decimal date.year ++ codes "-" ++ two_text date.month ++ codes "-" ++ two_text date.day

-- {"name":F,"objects":[X, ..]}
abbrev pub frontage_data : Frontage → Data
frontage_data frontage =
    object (member (codes "name") (string frontage.name)
    (member (codes "objects") (array (items_of (map whole frontage.objects))) no_members))

-- {"a":STAND,"b":STAND,"la":LETTER,"lb":LETTER}
abbrev pub pair_data : PairRow → Data
pair_data pair =
    object (member (codes "a") (string pair.a)
    (member (codes "b") (string pair.b)
    (member (codes "la") (letter_data pair.la)
    (member (codes "lb") (letter_data pair.lb) no_members))))

-- {"buffer":M,"centre":X,"frontage":F,"half_of":STAND or null,"letter":LETTER,"name":STAND}
abbrev pub stand_row_data : StandRow → Data
stand_row_data stand =
    object (member (codes "buffer") (whole stand.buffer)
    (member (codes "centre") (whole stand.centre)
    (member (codes "frontage") (string stand.frontage)
    (member (codes "half_of") (or_null string stand.half_of)
    (member (codes "letter") (letter_data stand.letter)
    (member (codes "name") (string stand.name) no_members))))))

-- {"fold":M,"least":M,"letter":LETTER,"name":TYPE,"parked":X,"span":X}, with the letter of the full
-- span
abbrev pub type_row_data : TypeRow → Data
type_row_data kind =
    object (member (codes "fold") (whole kind.fold)
    (member (codes "least") (whole kind.least)
    (member (codes "letter") (or_null letter_data (letter_for kind.span))
    (member (codes "name") (string kind.name)
    (member (codes "parked") (whole kind.parked)
    (member (codes "span") (whole kind.span) no_members))))))

-- the airport of a plan of this version: each list in the order of its file
abbrev pub airport_data : AirportParts → ℕ → Data
airport_data airport version =
    object (member (codes "days") (whole airport.days)
    (member (codes "first_day") (string (date_text airport.first))
    (member (codes "frontages") (array (items_of (map frontage_data airport.frontages)))
    (member (codes "pairs") (array (items_of (map pair_data airport.pairs)))
    (member (codes "stands") (array (items_of (map stand_row_data airport.stands)))
    (member (codes "station") (string airport.station)
    (member (codes "taxi_in") (whole airport.taxi_in)
    (member (codes "tow") (whole airport.tow)
    (member (codes "types") (array (items_of (map type_row_data airport.types)))
    (member (codes "version") (whole version) no_members))))))))))
