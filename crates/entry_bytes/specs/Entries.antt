-- An entry as bytes: its call number, the kind of its command, and the command's fields.
use Rattle.std.specs.Prelude.{◌≡◌, ◌≢◌, ◌<◌, ◌^◌, ℕ, List, [], ◌∷◌}
use Rattle.std.specs.Int.{w8, w32, w64}
use Rattle.std.specs.List.{flat_map}
use Rattle.apron_base.specs.Histories.{Every}
use Rattle.mvt_grammar.specs.Canonical.{canonical}
use Rattle.apron_rules.specs.declared.parts.AirportParts.{AirportParts}
use Rattle.desk_asks.specs.Commands.{IsCommandOf}
use Rattle.desk_asks.specs.declared.asks.Command.{Command}
use Rattle.desk_asks.specs.declared.asks.Command.TheVariants.{AddVisit, Commit, Message, Report, Cancel}
use Rattle.desk_asks.specs.declared.asks.Entry.{Entry}
use Rattle.entry_bytes.specs.Commits.{commit_fields}
use Rattle.entry_bytes.specs.Fields.{Field, Fits, name_field, number_field, text_field, field_bytes}
use Rattle.entry_bytes.specs.NewVisits.{new_visit_fields}
use Rattle.entry_bytes.specs.Reports.{report_fields}

-- the kind and the fields of a command
abbrev pub command_fields : Command → List Field
command_fields (AddVisit new) = number_field w8 1 ∷ new_visit_fields new
command_fields (Commit draft) = number_field w8 2 ∷ commit_fields draft
command_fields (Cancel visit) = number_field w8 5 ∷ number_field w32 visit.0 ∷ []
command_fields (Message passed) =
    number_field w8 6 ∷ name_field passed.desk ∷ text_field (canonical passed.message) ∷ []
command_fields (Report report) = number_field w8 7 ∷ name_field report.desk ∷ report_fields report

-- the call number, and the command
abbrev pub entry_fields : Entry → List Field
entry_fields entry = number_field w64 entry.call ∷ command_fields entry.command

-- the one spelling of an entry
abbrev pub entry_text : Entry → List ℕ
entry_text entry = flat_map field_bytes (entry_fields entry)

-- an entry that has bytes, and can be read at the airport
pub record IsEntryOf (airport : AirportParts) (entry : Entry) : Type 0 where
  pub call : entry.call < 2 ^ 62
  pub fits : Every Fits (command_fields entry.command)
  pub command : IsCommandOf airport entry.command

-- the bytes are those of this entry of the airport
abbrev pub SpellsEntry : AirportParts → List ℕ → Entry → Type 0
SpellsEntry airport bytes entry = IsEntryOf airport entry × (bytes ≡ entry_text entry)

-- the bytes are those of no entry of the airport
abbrev pub SpellsNone : AirportParts → List ℕ → Type 0
SpellsNone airport bytes = (entry : Entry) → IsEntryOf airport entry → bytes ≢ entry_text entry
