-- Entries are read exactly from their fields.
use Rattle.std.proofs.Common.{◌≡◌, ℕ, ◌^◌, ◌<◌, true, cond, List, [], ◌∷◌, Option, Some, None, Ok, Err, refl, sym, ap, subst, ◌∙◌, arith}
use Rattle.std.specs.Prelude.{◌==◌, IsSome}
use Rattle.std.specs.Int.{w8, w32}
use Rattle.std.proofs.lemmas.Bool.{eqb-true}
use Rattle.apron_base.specs.declared.numbers.VisitNo.{VisitNo}
use Rattle.apron_rules.specs.declared.parts.AirportParts.{AirportParts}
use Rattle.mvt_grammar.specs.Canonical.{canonical}
use Rattle.mvt_grammar.specs.Readable.{IsReadable}
use Rattle.mvt_grammar.specs.declared.message.Mvt.{Mvt}
use Rattle.visit_book.specs.NewVisits.{IsNewVisit}
use Rattle.visit_book.specs.declared.drafts.Draft.{Draft}
use Rattle.visit_book.specs.declared.reports.Event.{Event}
use Rattle.visit_book.specs.declared.visits.NewVisit.{NewVisit}
use Rattle.desk_asks.specs.Commands.{IsCommand}
use Rattle.desk_asks.specs.declared.asks.Command.{Command}
use Rattle.desk_asks.specs.declared.asks.Command.TheVariants.{AddVisit, Commit, Message, Report, Cancel}
use Rattle.desk_asks.specs.declared.asks.DeskMessage.{DeskMessage}
use Rattle.desk_asks.specs.declared.asks.DeskReport.{DeskReport}
use Rattle.desk_asks.specs.declared.asks.Entry.{Entry}
use Rattle.entry_bytes.specs.declared.faults.EntryFault.{EntryFault}
use Rattle.entry_bytes.specs.declared.faults.EntryFault.TheVariants.{BadKind}
use Rattle.entry_bytes.specs.Commits.{commit_fields}
use Rattle.entry_bytes.specs.Entries.{IsEntryOf, SpellsEntry, SpellsNone, command_fields, entry_fields, entry_text}
use Rattle.entry_bytes.specs.Faults.{IsEntry, IsFirstFault}
use Rattle.entry_bytes.specs.Fields.{Field, name_field, number_field, text_field}
use Rattle.entry_bytes.specs.Gives.{IsWithin}
use Rattle.entry_bytes.specs.Laws.{AreBytes, most_bytes}
use Rattle.entry_bytes.specs.NewVisits.{new_visit_fields}
use Rattle.entry_bytes.specs.Parsing.{decode_entry, parse_of_kind, parse_cancel, parse_command, parse_commit, parse_desk_message, parse_desk_report, parse_entry, parse_new_visit, parse_report}
use Rattle.entry_bytes.specs.Readings.{Reading, ◌>>=◌, give}
use Rattle.entry_bytes.specs.Reports.{event_fields, report_fields}
use Rattle.entry_bytes.proofs.CommandsOf.{command_forms, command_in_form, command_of}
use Rattle.entry_bytes.proofs.CommitsSpelt.{HasEdits, IsAny, commit-spells}
use Rattle.entry_bytes.proofs.EventsSpelt.{event-spells}
use Rattle.entry_bytes.proofs.Fields.{reads_byte, reads_name, reads_number, wide32}
use Rattle.entry_bytes.proofs.Lengths.{length-entry}
use Rattle.entry_bytes.proofs.MessagesSpelt.{reads_message}
use Rattle.entry_bytes.proofs.Spells.{Announces, Announces-or, Anywhere, IsValid, Spells, Spells-as, Spells-from, Spells-made, Spells-one, Spells-tagged, Spells-then}
use Rattle.entry_bytes.proofs.VisitsSpelt.{new_visit-spells}
use Rattle.entry_bytes.proofs.WholeSpelt.{At, Faults, IsCalled, entry_with-spells, faults_near, faults_once, front-short, kind_shown, whole_faults, whole_is_read, whole_is_spelt}

abbrev pub kind_of : Command → ℕ
kind_of (AddVisit new) = 1
kind_of (Commit draft) = 2
kind_of (Cancel visit) = 5
kind_of (Message passed) = 6
kind_of (Report report) = 7

abbrev pub back_of : Command → List Field
back_of (AddVisit new) = new_visit_fields new
back_of (Commit draft) = commit_fields draft
back_of (Cancel visit) = number_field w32 visit.0 ∷ []
back_of (Message passed) = name_field passed.desk ∷ text_field (canonical passed.message) ∷ []
back_of (Report report) = name_field report.desk ∷ report_fields report

abbrev pub HasKind : ℕ → Command → Type 0
HasKind kind command = (kind_of command ≡ kind) × IsCommand command

abbrev pub visit_no : ℕ → VisitNo
visit_no number = record { 0 = number }

-- ---- kind 1

is_visit : (command : Command) → HasKind 1 command → (new : NewVisit) × IsNewVisit new × (command ≡ AddVisit new)
is_visit (AddVisit new) h = (new, h.1, refl)
is_visit (Commit draft) h = absurd (omega (arith, h.0))
is_visit (Message passed) h = absurd (omega (arith, h.0))
is_visit (Report report) h = absurd (omega (arith, h.0))
is_visit (Cancel visit) h = absurd (omega (arith, h.0))

pub visit-spells : (airport : AirportParts) → Spells Anywhere airport (parse_new_visit airport >>= λ new. give (AddVisit new)) back_of (HasKind 1)
visit-spells airport = Spells-made AddVisit back_of (HasKind 1) (new_visit-spells airport) (λ new h. (refl, h)) is_visit (λ new. refl)

-- ---- kind 2

is_commit : (command : Command) → HasKind 2 command → (draft : Draft) × HasEdits draft × (command ≡ Commit draft)
is_commit (AddVisit new) h = absurd (omega (arith, h.0))
is_commit (Commit draft) h = (draft, h.1, refl)
is_commit (Message passed) h = absurd (omega (arith, h.0))
is_commit (Report report) h = absurd (omega (arith, h.0))
is_commit (Cancel visit) h = absurd (omega (arith, h.0))

pub second-spells : (airport : AirportParts) → Spells Anywhere airport (parse_commit airport >>= λ draft. give (Commit draft)) back_of (HasKind 2)
second-spells airport = Spells-made Commit back_of (HasKind 2) (commit-spells airport) (λ draft h. (refl, h)) is_commit (λ draft. refl)

-- ---- kind 5

cancel-spells : (airport : AirportParts) → Spells Anywhere airport parse_cancel (λ visit. number_field w32 visit.0 ∷ []) IsAny
unfolding parse_cancel
cancel-spells airport = Spells-made visit_no (λ visit. number_field w32 visit.0 ∷ []) IsAny (Spells-one (reads_number airport w32 wide32)) (λ n h. tt) (λ visit h. (visit.0, tt, refl)) (λ n. refl)

is_cancel : (command : Command) → HasKind 5 command → (visit : VisitNo) × IsAny visit × (command ≡ Cancel visit)
is_cancel (AddVisit new) h = absurd (omega (arith, h.0))
is_cancel (Commit draft) h = absurd (omega (arith, h.0))
is_cancel (Message passed) h = absurd (omega (arith, h.0))
is_cancel (Report report) h = absurd (omega (arith, h.0))
is_cancel (Cancel visit) h = (visit, tt, refl)

pub fifth-spells : (airport : AirportParts) → Spells Anywhere airport (parse_cancel >>= λ visit. give (Cancel visit)) back_of (HasKind 5)
fifth-spells airport = Spells-made Cancel back_of (HasKind 5) (cancel-spells airport) (λ visit h. (refl, h)) is_cancel (λ visit. refl)

-- ---- kind 6

abbrev pub passed_by : List ℕ → Mvt → DeskMessage
passed_by desk message = record { desk = desk; message = message }

abbrev CanBeRead : DeskMessage → Type 0
CanBeRead passed = IsReadable passed.message

desk_message-spells : (airport : AirportParts) → Spells Anywhere airport parse_desk_message (λ passed. name_field passed.desk ∷ text_field (canonical passed.message) ∷ []) CanBeRead
unfolding parse_desk_message
desk_message-spells airport = Spells-as (λ passed. name_field passed.desk ∷ text_field (canonical passed.message) ∷ []) CanBeRead
    (Spells-then (λ passed. passed.desk) CanBeRead (Spells-one (reads_name airport))
    (λ desk a. Spells-made (passed_by desk) (λ passed. text_field (canonical passed.message) ∷ []) (λ passed. (passed.desk ≡ desk) × CanBeRead passed) (Spells-one (reads_message airport))
    (λ message h. (refl, h)) (λ passed h. (passed.message, h.1, ap (λ d. passed_by d passed.message) h.0)) (λ message. refl))
    (λ passed h. tt))
    (λ passed h. h) (λ passed h. h) (λ passed h. refl)

is_message : (command : Command) → HasKind 6 command → (passed : DeskMessage) × CanBeRead passed × (command ≡ Message passed)
is_message (AddVisit new) h = absurd (omega (arith, h.0))
is_message (Commit draft) h = absurd (omega (arith, h.0))
is_message (Message passed) h = (passed, h.1, refl)
is_message (Report report) h = absurd (omega (arith, h.0))
is_message (Cancel visit) h = absurd (omega (arith, h.0))

sixth-spells : (airport : AirportParts) → Spells Anywhere airport (parse_desk_message >>= λ passed. give (Message passed)) back_of (HasKind 6)
sixth-spells airport = Spells-made Message back_of (HasKind 6) (desk_message-spells airport) (λ passed h. (refl, h)) is_message (λ passed. refl)

-- ---- kind 7

abbrev pub report_of : List ℕ → ℕ → Event → DeskReport
report_of desk visit event = record { desk = desk; visit = visit_no visit; event = event }

same_report : (d d' : List ℕ) (v v' : ℕ) (event : Event) → d ≡ d' → v ≡ v' → report_of d v event ≡ report_of d' v' event
same_report d d' v v' event ed ev = cc

-- a report of this desk
abbrev pub IsReportOf : List ℕ → DeskReport → Type 0
IsReportOf desk report = (report.desk ≡ desk) × IsAny report

pub report-spells : (airport : AirportParts) (desk : List ℕ) → Spells Anywhere airport (parse_report airport desk) report_fields (IsReportOf desk)
unfolding parse_report
report-spells airport desk = Spells-as report_fields (IsReportOf desk)
    (Spells-then (λ report. report.visit.0) (IsReportOf desk) (Spells-one (reads_number airport w32 wide32))
    (λ n b. Spells-made (report_of desk n) (λ report. event_fields report.event) (λ report. (report.visit.0 ≡ n) × IsReportOf desk report) (event-spells airport)
    (λ event e. (refl, (refl, tt))) (λ report h. (report.event, tt, same_report report.desk desk report.visit.0 n report.event h.1.0 h.0)) (λ event. refl))
    (λ report h. tt))
    (λ report h. h) (λ report h. h) (λ report h. refl)

desk_report-spells : (airport : AirportParts) → Spells Anywhere airport (parse_desk_report airport) (λ report. name_field report.desk ∷ report_fields report) IsAny
unfolding parse_desk_report
desk_report-spells airport = Spells-as (λ report. name_field report.desk ∷ report_fields report) IsAny
    (Spells-then (λ report. report.desk) IsAny (Spells-one (reads_name airport)) (λ desk a. report-spells airport desk) (λ report h. tt))
    (λ report h. h) (λ report h. h) (λ report h. refl)

is_report : (command : Command) → HasKind 7 command → (report : DeskReport) × IsAny report × (command ≡ Report report)
is_report (AddVisit new) h = absurd (omega (arith, h.0))
is_report (Commit draft) h = absurd (omega (arith, h.0))
is_report (Message passed) h = absurd (omega (arith, h.0))
is_report (Report report) h = (report, tt, refl)
is_report (Cancel visit) h = absurd (omega (arith, h.0))

seventh-spells : (airport : AirportParts) → Spells Anywhere airport (parse_desk_report airport >>= λ report. give (Report report)) back_of (HasKind 7)
seventh-spells airport = Spells-made Report back_of (HasKind 7) (desk_report-spells airport) (λ report h. (refl, h)) is_report (λ report. refl)

-- ---- any command

kind_is : (airport : AirportParts) (kind known : ℕ) (fields : Reading Command) → Spells Anywhere airport fields back_of (HasKind known) → (kind == known) ≡ true → Spells Anywhere airport fields back_of (HasKind kind)
kind_is airport kind known fields s e = subst (λ k. Spells Anywhere airport fields back_of (HasKind k)) (sym (eqb-true kind known e)) s

at_kind : (airport : AirportParts) (kind : ℕ) → Announces airport (parse_of_kind airport kind) back_of (HasKind kind)
at_kind airport kind =
    let first : Reading Command = parse_new_visit airport >>= λ new. give (AddVisit new) in
    let second : Reading Command = parse_commit airport >>= λ draft. give (Commit draft) in
    let fifth : Reading Command = parse_cancel >>= λ visit. give (Cancel visit) in
    let sixth : Reading Command = parse_desk_message >>= λ passed. give (Message passed) in
    let seventh : Reading Command = parse_desk_report airport >>= λ report. give (Report report) in
    let from_7 : Option (Reading Command) = cond (kind == 7) (Some seventh) None in
    let from_6 : Option (Reading Command) = cond (kind == 6) (Some sixth) from_7 in
    let from_5 : Option (Reading Command) = cond (kind == 5) (Some fifth) from_6 in
    let from_2 : Option (Reading Command) = cond (kind == 2) (Some second) from_5 in
    Announces-or from_2 (kind_is airport kind 1 first (visit-spells airport))
    (Announces-or from_5 (kind_is airport kind 2 second (second-spells airport))
    (Announces-or from_6 (kind_is airport kind 5 fifth (fifth-spells airport))
    (Announces-or from_7 (kind_is airport kind 6 sixth (sixth-spells airport))
    (Announces-or None (kind_is airport kind 7 seventh (seventh-spells airport))
    tt))))

has_fields : (airport : AirportParts) (command : Command) → IsCommand command → IsSome (parse_of_kind airport (kind_of command))
has_fields airport (AddVisit new) h = refl
has_fields airport (Commit draft) h = refl
has_fields airport (Message passed) h = refl
has_fields airport (Report report) h = refl
has_fields airport (Cancel visit) h = refl

same_fields : (command : Command) → command_fields command ≡ number_field w8 (kind_of command) ∷ back_of command
same_fields (AddVisit new) = refl
same_fields (Commit draft) = refl
same_fields (Message passed) = refl
same_fields (Report report) = refl
same_fields (Cancel visit) = refl

command-spells : (airport : AirportParts) → Spells (At 8) airport (parse_command (parse_of_kind airport)) command_fields IsCommand
unfolding parse_command
command-spells airport =
    let small : 5 < 256 = omega arith in
    Spells-as command_fields IsCommand
    (Spells-from (At 8) (λ at h. h) (Spells-tagged airport (λ at. BadKind) (parse_of_kind airport) kind_of back_of IsCommand (reads_byte airport) (at_kind airport) (has_fields airport)
    (Cancel (visit_no 0), (tt, (small, (wide32.zero, tt))))))
    (λ command h. h) (λ command h. h) (λ command h. same_fields command)

-- ---- the whole

entry-spells : (airport : AirportParts) → Spells (At 0) airport (parse_entry (parse_of_kind airport)) entry_fields (IsCalled IsCommand)
entry-spells airport = entry_with-spells airport (parse_of_kind airport) command_fields IsCommand (command-spells airport)

valid_of : (entry : Entry) → IsEntry entry → IsValid entry_fields (IsCalled IsCommand) entry
valid_of entry h = let call : entry.call < 256 ^ 8 = omega (arith, h.call) in ((h.call, h.command), (call, h.fits))

entry_of_valid : (entry : Entry) → IsValid entry_fields (IsCalled IsCommand) entry → IsEntry entry
entry_of_valid entry h = record { call = h.0.0; fits = h.1.1; command = h.0.1 }

pub entry_at_all : (airport : AirportParts) (entry : Entry) → IsEntryOf airport entry → IsEntry entry
entry_at_all airport entry h = record { call = h.call; fits = h.fits; command = command_of airport entry.command h.command }

pub entry_is_read : (airport : AirportParts) (bytes : List ℕ) (entry : Entry) → SpellsEntry airport bytes entry → decode_entry airport bytes ≡ Ok entry
unfolding decode_entry
entry_is_read airport bytes entry h =
    ap (decode_entry airport) h.1
    ∙ whole_is_read airport (parse_of_kind airport) entry_fields (IsCalled IsCommand) (entry-spells airport) entry (valid_of entry (entry_at_all airport entry h.0)) (tt, command_forms airport entry.command h.0.command)

pub entry_is_spelt : (airport : AirportParts) (bytes : List ℕ) (entry : Entry) → AreBytes bytes → decode_entry airport bytes ≡ Ok entry → SpellsEntry airport bytes entry
unfolding decode_entry
entry_is_spelt airport bytes entry fits e =
    let is = whole_is_spelt airport (parse_of_kind airport) entry_fields (IsCalled IsCommand) (entry-spells airport) bytes entry fits e in
    let entry_is = entry_of_valid entry is.1 in
    (record { call = entry_is.call; fits = entry_is.fits; command = command_in_form airport entry.command entry_is.command is.2.1 }, is.0)

pub none_is_spelt : (airport : AirportParts) (bytes : List ℕ) (fault : EntryFault) → decode_entry airport bytes ≡ Err fault → SpellsNone airport bytes
none_is_spelt airport bytes fault e = λ entry h is. let read = entry_is_read airport bytes entry (h, is) in absurd cc

faults : (airport : AirportParts) (bytes : List ℕ) (fault : EntryFault) → AreBytes bytes → decode_entry airport bytes ≡ Err fault → Faults airport entry_fields (IsCalled IsCommand) bytes fault
unfolding decode_entry
faults airport bytes fault fits e =
    whole_faults airport (parse_of_kind airport) entry_fields (IsCalled IsCommand) (entry-spells airport) bytes fault fits
    (λ there bad. kind_shown airport (parse_of_kind airport) IsCommand kind_of back_of (at_kind airport) bytes fault fits there bad) e

pub fault_is_first : (airport : AirportParts) (bytes : List ℕ) (fault : EntryFault) → AreBytes bytes → decode_entry airport bytes ≡ Err fault → IsFirstFault entry_fields airport bytes fault
fault_is_first airport bytes fault fits e =
    let f = faults airport bytes fault fits e in
    record {
      entry = f.entry;
      is_entry = entry_of_valid f.entry f.valid;
      count = f.count;
      place = f.place;
      begins = f.begins;
      most = λ other more later is begins. f.most other more later (valid_of other is) begins;
      is = f.is;
    }

pub fault_is_one : (airport : AirportParts) (bytes : List ℕ) (one other : EntryFault) → AreBytes bytes → IsFirstFault entry_fields airport bytes one → IsFirstFault entry_fields airport bytes other → one ≡ other
fault_is_one airport bytes one other fits a b =
    faults_once airport (parse_of_kind airport) entry_fields (IsCalled IsCommand) (entry-spells airport) bytes fits one other (faults_of one a) (faults_of other b)
  where
    faults_of : (fault : EntryFault) → IsFirstFault entry_fields airport bytes fault → Faults airport entry_fields (IsCalled IsCommand) bytes fault
    faults_of fault f = record {
      entry = f.entry;
      valid = valid_of f.entry f.is_entry;
      count = f.count;
      place = f.place;
      begins = f.begins;
      most = λ other more later valid begins. f.most other more later (entry_of_valid other valid) begins;
      is = f.is;
      near = let begun = f.begins in omega (arith, begun.place_is, front-short f.count (entry_fields f.entry));
    }

pub fault_is_near : (airport : AirportParts) (bytes : List ℕ) (fault : EntryFault) → AreBytes bytes → decode_entry airport bytes ≡ Err fault → IsWithin most_bytes fault
fault_is_near airport bytes fault fits e =
    faults_near airport entry_fields (IsCalled IsCommand) bytes fault (λ entry h. length-entry entry h.1.1 h.0.1) (faults airport bytes fault fits e)

pub entries_are_different : (airport : AirportParts) (one other : Entry) → IsEntryOf airport one → IsEntryOf airport other → entry_text one ≡ entry_text other → one ≡ other
entries_are_different airport one other a b same =
    let first = entry_is_read airport (entry_text one) one (a, refl) in
    let second = entry_is_read airport (entry_text one) other (b, same) in
    cc
