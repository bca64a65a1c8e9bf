-- What holds between reading and the canonical text.
use Rattle.std.specs.Prelude.{◌≡◌, ◌≤◌, ℕ, List, length, Some, Ok}
use Rattle.mvt_grammar.specs.Canonical.{flight_text, canonical}
use Rattle.mvt_grammar.specs.Flights.{flight_of}
use Rattle.mvt_grammar.specs.Readable.{IsFlight, IsReadable}
use Rattle.mvt_grammar.specs.Reading.{read_mvt_of}
use Rattle.mvt_grammar.specs.declared.message.Flight.{Flight}
use Rattle.mvt_grammar.specs.declared.message.Mvt.{Mvt}

-- what a text is read as is readable
abbrev pub ReadingGivesReadable : Type 0
ReadingGivesReadable =
    (text : List ℕ) (message : Mvt) → read_mvt_of text ≡ Ok message → IsReadable message

-- the canonical text of a readable message is read as that message
abbrev pub CanonicalIsReadBack : Type 0
CanonicalIsReadBack =
    (message : Mvt) → IsReadable message → read_mvt_of (canonical message) ≡ Ok message

-- two readable messages with the same canonical text are equal
abbrev pub CanonicalTellsApart : Type 0
CanonicalTellsApart = (a b : Mvt) → IsReadable a → IsReadable b → canonical a ≡ canonical b → a ≡ b

-- a canonical text has at most 85 bytes
abbrev pub CanonicalIsShort : Type 0
CanonicalIsShort = (message : Mvt) → IsReadable message → length (canonical message) ≤ 85

-- the text of a flight in its form is read as that flight
abbrev pub FlightIsReadBack : Type 0
FlightIsReadBack =
    (flight : Flight) → IsFlight flight → flight_of (flight_text flight) ≡ Some flight
