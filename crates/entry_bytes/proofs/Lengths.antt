-- How long entries are.
use Rattle.std.proofs.Common.{ℕ, ◌*◌, ◌≤◌, List, [], ◌∷◌, length, Option, Some, None, ap, length-append, arith}
use Rattle.std.specs.List.{flat_map}
use Rattle.std.specs.Prelude.{IfSome, IsTrue}
use Rattle.apron_base.specs.Histories.{Every}
use Rattle.apron_base.specs.Name.{is_name}
use Rattle.apron_base.proofs.NameTests.{name_decides}
use Rattle.mvt_grammar.specs.Canonical.{canonical}
use Rattle.mvt_grammar.specs.Readable.{IsReadable}
use Rattle.mvt_grammar.specs.declared.message.Mvt.{Mvt}
use Rattle.visit_book.specs.NewVisits.{HasFlight, IsNewVisit}
use Rattle.visit_book.specs.declared.drafts.Draft.{Draft}
use Rattle.visit_book.specs.declared.edits.Edit.{Edit}
use Rattle.visit_book.specs.declared.edits.Edit.TheVariants.{Put, Lift, Cut, Join}
use Rattle.visit_book.specs.declared.reports.Event.{Event}
use Rattle.visit_book.specs.declared.reports.Event.TheVariants.{On, Off}
use Rattle.visit_book.specs.declared.visits.Key.{Key}
use Rattle.visit_book.specs.declared.visits.NewVisit.{NewVisit}
use Rattle.desk_asks.specs.declared.asks.Command.{Command}
use Rattle.desk_asks.specs.declared.asks.Command.TheVariants.{AddVisit, Commit, Message, Report, Cancel}
use Rattle.desk_asks.specs.declared.asks.DeskReport.{DeskReport}
use Rattle.desk_asks.specs.declared.asks.Entry.{Entry}
use Rattle.desk_asks.specs.Commands.{IsCommand}
use Rattle.entry_bytes.specs.Commits.{commit_fields, edit_fields}
use Rattle.entry_bytes.specs.Entries.{command_fields, entry_fields}
use Rattle.entry_bytes.specs.Fields.{Fits, text_field}
use Rattle.entry_bytes.specs.Keys.{key_fields, optional_key_fields}
use Rattle.entry_bytes.specs.Laws.{most_bytes}
use Rattle.entry_bytes.specs.NewVisits.{new_visit_fields}
use Rattle.entry_bytes.specs.Reports.{event_fields, report_fields}
use Rattle.entry_bytes.proofs.KeysSpelt.{length-airline}
use Rattle.entry_bytes.proofs.MessagesSpelt.{canonical-short}
use Rattle.entry_bytes.proofs.Spells.{tail_of, texts, texts-append}

length-name : (name : List ℕ) → IsTrue (is_name name) → length name ≤ 12
length-name name h = let is = (name_decides name).0 h in let few = is.few in few

length-key : (key : Key) → HasFlight key → length (texts (key_fields key)) ≤ 8
length-key key h = let airline = length-airline key.flight.airline h.airline in omega (arith, length-append key.flight.airline (texts (tail_of (key_fields key))))

length-optional_key : (key : Option Key) → IfSome key HasFlight → length (texts (optional_key_fields key)) ≤ 9
length-optional_key None h = omega arith
length-optional_key (Some key) h = let one = length-key key h in omega arith

length-new_visit : (new : NewVisit) → Every Fits (new_visit_fields new) → IsNewVisit new → length (texts (new_visit_fields new)) ≤ 42
length-new_visit new f h =
    let few = length-name new.name f.0 in
    let arr = length-optional_key new.arr h.arr in
    let dep = length-optional_key new.dep h.dep in
    let keys = ap length (texts-append (optional_key_fields new.arr) (optional_key_fields new.dep)) in
    omega (arith, keys, length-append (texts (optional_key_fields new.arr)) (texts (optional_key_fields new.dep)), length-append new.name (texts (tail_of (new_visit_fields new))))

length-edit : (edit : Edit) → length (texts (edit_fields edit)) ≤ 10
length-edit (Put visit part stand) = omega arith
length-edit (Lift visit part) = omega arith
length-edit (Cut visit part at) = omega arith
length-edit (Join visit part) = omega arith

length-edits : (edits : List Edit) → length (texts (flat_map edit_fields edits)) ≤ 10 * length edits
length-edits [] = omega arith
length-edits (edit ∷ edits) =
    let both = ap length (texts-append (edit_fields edit) (flat_map edit_fields edits)) in
    omega (arith, both, length-append (texts (edit_fields edit)) (texts (flat_map edit_fields edits)), length-edit edit, length-edits edits)

length-commit : (draft : Draft) → length draft.desk ≤ 12 → length draft.edits ≤ 64 → length (texts (commit_fields draft)) ≤ 662
length-commit draft few some = let edits = length-edits draft.edits in omega (arith, length-append draft.desk (texts (tail_of (commit_fields draft))))

length-event : (event : Event) → length (texts (event_fields event)) ≤ 8
length-event (On part stand minute) = omega arith
length-event (Off minute) = omega arith

pub length-report : (report : DeskReport) → length (texts (report_fields report)) ≤ 12
length-report report = let event = length-event report.event in omega arith

pub length-message : (message : Mvt) → IsReadable message → length (texts (text_field (canonical message) ∷ [])) ≤ 86
length-message message h = let few = canonical-short message h in omega (arith, length-append (canonical message) [])

pub length-command : (command : Command) → Every Fits (command_fields command) → IsCommand command → length (texts (command_fields command)) ≤ 663
length-command (AddVisit new) f h = let one = length-new_visit new f.1 h in omega arith
length-command (Commit draft) f h = let one = length-commit draft (length-name draft.desk f.1.0) h.1 in omega arith
length-command (Message passed) f h =
    let few = length-name passed.desk f.1.0 in
    let text = length-message passed.message h in
    omega (arith, length-append passed.desk (texts (text_field (canonical passed.message) ∷ [])))
length-command (Report report) f h = let few = length-name report.desk f.1.0 in let rest = length-report report in omega (arith, length-append report.desk (texts (report_fields report)))
length-command (Cancel visit) f h = omega arith

-- an entry has at most 671 bytes
pub length-entry : (entry : Entry) → Every Fits (command_fields entry.command) → IsCommand entry.command → length (texts (entry_fields entry)) ≤ most_bytes
length-entry entry f h = let command = length-command entry.command f h in omega arith
