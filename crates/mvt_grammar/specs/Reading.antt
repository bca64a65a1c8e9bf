-- Which message a text is, or its first fault from left to right.
use Rattle.std.specs.Prelude.{ℕ, zero, suc, nat_le, nat_lt, Bool, ◌&&◌, List, [], ◌∷◌, length, codes, Option, Some, None, is_some, Result, Ok, Err, if◌then◌else◌}
use Rattle.std.specs.List.{flat_map}
use Rattle.std.specs.Str.{bytes_eq}
use Rattle.apron_base.specs.Name.{is_name}
use Rattle.mvt_grammar.specs.Bytes.{is_station, split_once}
use Rattle.apron_base.specs.OptionChain.{◌>>=◌}
use Rattle.mvt_grammar.specs.Clocks.{read_day}
use Rattle.mvt_grammar.specs.Flights.{flight_of}
use Rattle.mvt_grammar.specs.Pieces.{Piece, piece, is_empty, lines_of}
use Rattle.mvt_grammar.specs.Words.{marks_of_line}
use Rattle.mvt_grammar.specs.declared.message.Flight.{Flight}
use Rattle.mvt_grammar.specs.declared.message.Mvt.{Mvt}
use Rattle.mvt_grammar.specs.declared.message.MvtFault.{MvtFault}
use Rattle.mvt_grammar.specs.declared.message.MvtFault.TheVariants.{TooLong, NoIdentifier, BadFlightLine, BadElement, Twice}
use Rattle.mvt_grammar.specs.declared.words.Element.{Element}
use Rattle.mvt_grammar.specs.declared.words.Element.TheVariants.{Ad, Aa, Ea, Ed}
use Rattle.mvt_grammar.specs.declared.words.Mark.{Mark}
use Rattle.mvt_grammar.specs.declared.words.Mark.TheVariants.{Found, Bad, End}

infixl 10 ◌>>-◌
-- what comes of the value, or the fault
abbrev pub ◌>>-◌ : {A B : Type 0} → Result A MvtFault → (A → Result B MvtFault) → Result B MvtFault
(Ok x) >>- f = f x
(Err fault) >>- f = Err fault

-- 1 to 10 capitals, digits or dashes
abbrev pub is_registration : List ℕ → Bool
is_registration text = is_name text && nat_le (length text) 10

-- a message without elements
abbrev pub message_head : Flight → ℕ → List ℕ → List ℕ → Mvt
message_head flight day registration station = record {
  flight = flight;
  day = day;
  registration = registration;
  station = station;
  ad = None;
  aa = None;
  ea = None;
  ed = None;
}

-- the message without elements that the flight line FLIGHT/DD.REGISTRATION.STATION gives
abbrev pub heading_of : List ℕ → Option Mvt
heading_of line = do
  slash ← split_once 47 line
  dot ← split_once 46 slash.1
  dots ← split_once 46 dot.1
  flight ← flight_of slash.0
  day ← read_day dot.0
  if is_registration dots.0 && is_station dots.1 then Some (message_head flight day dots.0 dots.1)
      else None

abbrev pub is_identifier : Piece → Bool
is_identifier line = bytes_eq line.text (codes "MVT")

-- the lines after the first line MVT, which is looked for in this many lines
abbrev pub after_identifier : ℕ → List Piece → Result (List Piece) MvtFault
after_identifier zero lines = Err NoIdentifier
after_identifier (suc more) [] = Err NoIdentifier
after_identifier (suc more) (line ∷ lines) =
    if is_identifier line then Ok lines else after_identifier more lines

abbrev pub with_heading : Option Mvt → List Piece → Result (Mvt × List Piece) MvtFault
with_heading None lines = Err BadFlightLine
with_heading (Some message) lines = Ok (message, lines)

-- the message that the first line that is not empty gives, and the lines after it
abbrev pub after_heading : List Piece → Result (Mvt × List Piece) MvtFault
after_heading [] = Err BadFlightLine
after_heading (line ∷ lines) =
    if is_empty line.text then after_heading lines else with_heading (heading_of line.text) lines

-- whether the message has this element already
abbrev pub has_element : Mvt → Element → Bool
has_element message (Ad times) = is_some message.ad
has_element message (Aa times) = is_some message.aa
has_element message (Ea clock station) = is_some message.ea
has_element message (Ed clock) = is_some message.ed

abbrev pub with_element : Mvt → Element → Mvt
with_element message (Ad times) = record message { ad = Some times }
with_element message (Aa times) = record message { aa = Some times }
with_element message (Ea clock station) = record message { ea = Some (clock, station) }
with_element message (Ed clock) = record message { ed = Some clock }

-- the message with the elements of the marks, up to the end of the reading or the first fault
abbrev pub with_marks : Mvt → List Mark → Result Mvt MvtFault
with_marks message [] = Ok message
with_marks message (End ∷ marks) = Ok message
with_marks message (Bad at ∷ marks) = Err (BadElement at)
with_marks message (Found at element ∷ marks) =
    if has_element message element then Err (Twice at)
    else with_marks (with_element message element) marks

-- what the lines of a text are read as
abbrev pub read_lines : List Piece → Result Mvt MvtFault
read_lines lines =
    after_identifier 21 lines
    >>- λ rest. after_heading rest
    >>- λ opened. with_marks opened.0 (flat_map marks_of_line opened.1)

-- what a text is read as
abbrev pub read_mvt_of : List ℕ → Result Mvt MvtFault
read_mvt_of text =
    if nat_lt 4000 (length text) then Err TooLong else read_lines (lines_of (piece 0 text))
