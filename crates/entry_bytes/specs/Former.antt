-- Entries as they were spelt before messages and reports named their desk. Only a journal that is
-- upgraded has such entries.
use Rattle.std.specs.Prelude.{◌≡◌, ◌≢◌, ℕ, List, [], ◌∷◌, codes}
use Rattle.std.specs.Int.{w8, w64}
use Rattle.std.specs.List.{flat_map}
use Rattle.mvt_grammar.specs.Canonical.{canonical}
use Rattle.apron_rules.specs.declared.parts.AirportParts.{AirportParts}
use Rattle.desk_asks.specs.declared.asks.Command.{Command}
use Rattle.desk_asks.specs.declared.asks.Command.TheVariants.{Message, Report}
use Rattle.desk_asks.specs.declared.asks.Entry.{Entry}
use Rattle.entry_bytes.specs.Entries.{IsEntryOf, command_fields, entry_text}
use Rattle.entry_bytes.specs.Fields.{Field, number_field, text_field, field_bytes}
use Rattle.entry_bytes.specs.Reports.{report_fields}

-- the name that stands in for the desk of a message or report that named none
abbrev pub no_desk : List ℕ
no_desk = codes "-"

-- the command existed then: a message or a report is of no desk
abbrev pub NamesNoDesk : Command → Type 0
NamesNoDesk (Message passed) = passed.desk ≡ no_desk
NamesNoDesk (Report report) = report.desk ≡ no_desk
NamesNoDesk command = Unit {0}

-- the kind and the fields of a command, as they were
abbrev pub former_command_fields : Command → List Field
former_command_fields (Message passed) = number_field w8 3 ∷ text_field (canonical passed.message) ∷ []
former_command_fields (Report report) = number_field w8 4 ∷ report_fields report
former_command_fields command = command_fields command

-- the call number, and the command
abbrev pub former_fields : Entry → List Field
former_fields entry = number_field w64 entry.call ∷ former_command_fields entry.command

-- the one spelling that an entry had
abbrev pub former_text : Entry → List ℕ
former_text entry = flat_map field_bytes (former_fields entry)

-- an entry of the airport that existed then
abbrev pub WasEntryOf : AirportParts → Entry → Type 0
WasEntryOf airport entry = IsEntryOf airport entry × NamesNoDesk entry.command

-- the bytes were those of an entry of the airport, whose bytes are now these
abbrev pub ConvertsEntry : AirportParts → List ℕ → List ℕ → Type 0
ConvertsEntry airport old new = (entry : Entry)
    × WasEntryOf airport entry
    × (old ≡ former_text entry)
    × (new ≡ entry_text entry)

-- the bytes were those of no entry of the airport
abbrev pub SpeltNone : AirportParts → List ℕ → Type 0
SpeltNone airport bytes = (entry : Entry) → WasEntryOf airport entry → bytes ≢ former_text entry
