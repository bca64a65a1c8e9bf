-- How the code reads entries. No public clause cites it.
use Rattle.std.specs.Prelude.{ℕ, ◌==◌, ◌&&◌, ◌||◌, ◌^◌, nat_le, nat_lt, Bool, List, length, Option, Some, None, Result, Ok, Err, bytes_eq, if◌then◌else◌}
use Rattle.std.specs.Int.{w16, w32, w64}
use Rattle.mvt_grammar.specs.Bytes.{is_capital}
use Rattle.mvt_grammar.specs.Canonical.{canonical}
use Rattle.mvt_grammar.specs.Flights.{is_airline}
use Rattle.mvt_grammar.specs.Reading.{read_mvt_of}
use Rattle.mvt_grammar.specs.declared.message.Mvt.{Mvt}
use Rattle.mvt_grammar.specs.declared.message.MvtFault.{MvtFault}
use Rattle.apron_base.specs.declared.numbers.VisitNo.{VisitNo}
use Rattle.apron_rules.specs.declared.parts.AirportParts.{AirportParts}
use Rattle.visit_book.specs.Edits.{most_edits}
use Rattle.visit_book.specs.WellFormed.{greatest_class, plan_end}
use Rattle.visit_book.specs.declared.drafts.Draft.{Draft}
use Rattle.visit_book.specs.declared.edits.Edit.{Edit}
use Rattle.visit_book.specs.declared.edits.Edit.TheVariants.{Put, Lift, Cut, Join}
use Rattle.visit_book.specs.declared.reports.Event.{Event}
use Rattle.visit_book.specs.declared.reports.Event.TheVariants.{On, Off}
use Rattle.visit_book.specs.declared.visits.Key.{Key}
use Rattle.visit_book.specs.declared.visits.NewVisit.{NewVisit}
use Rattle.desk_asks.specs.declared.asks.Command.{Command}
use Rattle.desk_asks.specs.declared.asks.Command.TheVariants.{AddVisit, Commit, Message, Report, Cancel}
use Rattle.desk_asks.specs.declared.asks.DeskMessage.{DeskMessage}
use Rattle.desk_asks.specs.declared.asks.DeskReport.{DeskReport}
use Rattle.desk_asks.specs.declared.asks.Entry.{Entry}
use Rattle.entry_bytes.specs.declared.faults.EntryFault.{EntryFault}
use Rattle.entry_bytes.specs.declared.faults.EntryFault.TheVariants.{BadField, BadKind, TrailingBytes}
use Rattle.entry_bytes.specs.Former.{no_desk}
use Rattle.entry_bytes.specs.NewVisits.{is_off_of}
use Rattle.entry_bytes.specs.Readings.{RestOfEntry, Reading, ◌>>=◌, byte, give, meaning_of_field, name, number, parse_many, such_that, by_tag, text}

-- no suffix, or a capital
abbrev pub is_suffix_byte : ℕ → Bool
is_suffix_byte byte = byte == 0 || is_capital byte

-- the suffix of a byte
abbrev pub suffix_of : ℕ → Option ℕ
suffix_of byte = if byte == 0 then None else Some byte

-- a key of a day of the airport's plan, or of the day before
unfoldable pub parse_key : AirportParts → Reading Key
parse_key airport = do
  airline ← such_that is_airline text
  number ← such_that (λ number. nat_lt number 10000) (number w16)
  suffix ← such_that is_suffix_byte byte
  day ← such_that (λ day. nat_le day airport.days) byte
  give (record {
    flight = record { airline = airline; number = number; suffix = suffix_of suffix };
    day = day;
  })

-- what a tag says of a key
abbrev pub optional_key_of : AirportParts → ℕ → Option (Reading (Option Key))
optional_key_of airport tag =
    if tag == 0 then Some (give None)
    else (if tag == 1 then Some (parse_key airport >>= λ key. give (Some key))
    else None)

-- no key, or one
unfoldable pub parse_optional_key : AirportParts → Reading (Option Key)
parse_optional_key airport = by_tag BadField (optional_key_of airport)

-- a visit that can be added at the airport
unfoldable pub parse_new_visit : AirportParts → Reading NewVisit
parse_new_visit airport = do
  name ← name
  kind ← such_that (λ kind. nat_lt kind (length airport.types)) (number w16)
  class ← such_that (λ class. nat_le class greatest_class) byte
  on ← such_that (λ on. nat_lt on (plan_end airport)) (number w32)
  off ← such_that (is_off_of airport kind on) (number w32)
  arr ← parse_optional_key airport
  dep ← parse_optional_key airport
  give (record {
    name = name;
    kind = record { 0 = kind };
    class = class;
    on = on;
    off = off;
    arr = arr;
    dep = dep;
  })

-- what comes after the tag of a put, on a stand of the airport
unfoldable pub parse_put : AirportParts → Reading Edit
parse_put airport = do
  visit ← number w32
  part ← byte
  stand ← such_that (λ stand. nat_lt stand (length airport.stands)) (number w16)
  give (Put (record { 0 = visit }) part (record { 0 = stand }))

-- what comes after the tag of a lift
unfoldable pub parse_lift : Reading Edit
parse_lift = do
  visit ← number w32
  part ← byte
  give (Lift (record { 0 = visit }) part)

-- what comes after the tag of a cut
unfoldable pub parse_cut : Reading Edit
parse_cut = do
  visit ← number w32
  part ← byte
  at ← number w32
  give (Cut (record { 0 = visit }) part at)

-- what comes after the tag of a join
unfoldable pub parse_join : Reading Edit
parse_join = do
  visit ← number w32
  part ← byte
  give (Join (record { 0 = visit }) part)

-- the edit of a tag
abbrev pub parse_edit_of_tag : AirportParts → ℕ → Option (Reading Edit)
parse_edit_of_tag airport tag =
    if tag == 1 then Some (parse_put airport)
    else (if tag == 2 then Some parse_lift
    else (if tag == 3 then Some parse_cut
    else (if tag == 4 then Some parse_join
    else None)))

-- an edit at the airport
unfoldable pub parse_edit : AirportParts → Reading Edit
parse_edit airport = by_tag BadField (parse_edit_of_tag airport)

-- 1 to 64 edits
unfoldable pub parse_edits : AirportParts → Reading (List Edit)
parse_edits airport = do
  count ← such_that (λ count. nat_le 1 count && nat_le count most_edits) byte
  parse_many count (parse_edit airport)

-- the draft of a commit at the airport
unfoldable pub parse_commit : AirportParts → Reading Draft
parse_commit airport = do
  desk ← name
  draft ← number w32
  base ← number w32
  edits ← parse_edits airport
  give (record { desk = desk; number = draft; base = base; edits = edits })

-- the message that a text is read as, if the text is its canonical one
abbrev pub if_canonical : List ℕ → Result Mvt MvtFault → Option Mvt
if_canonical bytes (Ok message) = if bytes_eq bytes (canonical message) then Some message else None
if_canonical bytes (Err fault) = None

-- the message of a canonical text
abbrev pub canonical_message : List ℕ → Option Mvt
canonical_message bytes = if_canonical bytes (read_mvt_of bytes)

-- a message by its canonical text
unfoldable pub parse_message : Reading Mvt
parse_message = meaning_of_field canonical_message text

-- what comes after the tag of a part that came on block, on a stand of the airport
unfoldable pub parse_on : AirportParts → Reading Event
parse_on airport = do
  part ← byte
  stand ← such_that (λ stand. nat_lt stand (length airport.stands)) (number w16)
  minute ← number w32
  give (On part (record { 0 = stand }) minute)

-- what comes after the tag of a visit that went off block
unfoldable pub parse_off : Reading Event
parse_off = do
  minute ← number w32
  give (Off minute)

-- the event of a tag
abbrev pub event_of : AirportParts → ℕ → Option (Reading Event)
event_of airport tag =
    if tag == 1 then Some (parse_on airport)
    else (if tag == 2 then Some parse_off
    else None)

-- an event at the airport
unfoldable pub parse_event : AirportParts → Reading Event
parse_event airport = by_tag BadField (event_of airport)

-- a report of this desk at the airport
unfoldable pub parse_report : AirportParts → List ℕ → Reading DeskReport
parse_report airport desk = do
  visit ← number w32
  event ← parse_event airport
  give (record { desk = desk; visit = record { 0 = visit }; event = event })

-- the visit that a cancel names, which can be any
unfoldable pub parse_cancel : Reading VisitNo
parse_cancel = do
  visit ← number w32
  give (record { 0 = visit })

-- a message that a desk passed on
unfoldable pub parse_desk_message : Reading DeskMessage
parse_desk_message = do
  desk ← name
  message ← parse_message
  give (record { desk = desk; message = message })

-- a report of a desk at the airport
unfoldable pub parse_desk_report : AirportParts → Reading DeskReport
parse_desk_report airport = do
  desk ← name
  parse_report airport desk

-- the command of a kind
abbrev pub parse_of_kind : AirportParts → ℕ → Option (Reading Command)
parse_of_kind airport kind =
    if kind == 1 then Some (parse_new_visit airport >>= λ new. give (AddVisit new))
    else (if kind == 2 then Some (parse_commit airport >>= λ draft. give (Commit draft))
    else (if kind == 5 then Some (parse_cancel >>= λ visit. give (Cancel visit))
    else (if kind == 6 then Some (parse_desk_message >>= λ passed. give (Message passed))
    else (if kind == 7 then Some (parse_desk_report airport >>= λ report. give (Report report))
    else None))))

-- what each kind of command is read by, if there is such a kind
abbrev pub Kinds : Type 0
Kinds = ℕ → Option (Reading Command)

-- the command of a kind that exists
unfoldable pub parse_command : Kinds → Reading Command
parse_command kinds = by_tag (λ at. BadKind) kinds

-- a call number, which is below 2^62
abbrev pub parse_call : Reading ℕ
parse_call = such_that (λ call. nat_lt call (2 ^ 62)) (number w64)

-- an entry with a command of one of these kinds
unfoldable pub parse_entry : Kinds → Reading Entry
parse_entry kinds = do
  call ← parse_call
  command ← parse_command kinds
  give (record { call = call; command = command })

-- nothing may be left over
abbrev pub with_none_left : Result (Entry × RestOfEntry) EntryFault → Result Entry EntryFault
with_none_left (Ok read) =
    if length read.1.bytes == 0 then Ok read.0 else Err (TrailingBytes read.1.at)
with_none_left (Err fault) = Err fault

-- the entry that all of the bytes together spell, with these kinds of commands
abbrev pub read_with : Kinds → List ℕ → Result Entry EntryFault
read_with kinds bytes = with_none_left (parse_entry kinds (record { at = 0; bytes = bytes }))

-- the entry that the bytes spell for an airport, or the first fault from left to right, at its field
unfoldable pub decode_entry : AirportParts → List ℕ → Result Entry EntryFault
decode_entry airport bytes = read_with (parse_of_kind airport) bytes

-- the message, passed on by the desk `-`
abbrev pub with_no_desk : Mvt → DeskMessage
with_no_desk message = record { desk = no_desk; message = message }

-- the command of a kind, as it was
abbrev pub parse_former_of_kind : AirportParts → ℕ → Option (Reading Command)
parse_former_of_kind airport kind =
    if kind == 1 then Some (parse_new_visit airport >>= λ new. give (AddVisit new))
    else (if kind == 2 then Some (parse_commit airport >>= λ draft. give (Commit draft))
    else (if kind == 3 then Some (parse_message >>= λ text. give (Message (with_no_desk text)))
    else (if kind == 4 then Some (parse_report airport no_desk >>= λ report. give (Report report))
    else (if kind == 5 then Some (parse_cancel >>= λ visit. give (Cancel visit))
    else None))))

-- the entry that the bytes spelt for an airport, or the first fault from left to right
unfoldable pub decode_former_entry : AirportParts → List ℕ → Result Entry EntryFault
decode_former_entry airport bytes = read_with (parse_former_of_kind airport) bytes
