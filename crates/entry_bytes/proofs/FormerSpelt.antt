-- Entries were read exactly from their fields.
use Rattle.std.proofs.Common.{◌≡◌, ℕ, ◌^◌, ◌<◌, ◌≤◌, true, cond, List, [], ◌∷◌, length, Option, Some, None, Ok, Err, refl, sym, ap, subst, ◌∙◌, inl, inr, arith}
use Rattle.std.specs.Prelude.{◌⊎◌, ◌==◌, ◌≢◌, IsSome}
use Rattle.std.specs.Int.{w8, w32, w64}
use Rattle.std.proofs.lemmas.Bool.{eqb-true}
use Rattle.apron_base.specs.Histories.{Every}
use Rattle.apron_base.specs.Name.{is_name}
use Rattle.apron_rules.specs.declared.parts.AirportParts.{AirportParts}
use Rattle.mvt_grammar.specs.Canonical.{canonical}
use Rattle.mvt_grammar.specs.Readable.{IsReadable}
use Rattle.mvt_grammar.specs.declared.message.Mvt.{Mvt}
use Rattle.desk_asks.specs.Commands.{IsCommand}
use Rattle.desk_asks.specs.declared.asks.Command.{Command}
use Rattle.desk_asks.specs.declared.asks.Command.TheVariants.{AddVisit, Commit, Message, Report, Cancel}
use Rattle.desk_asks.specs.declared.asks.DeskReport.{DeskReport}
use Rattle.desk_asks.specs.declared.asks.Entry.{Entry}
use Rattle.entry_bytes.specs.declared.faults.EntryFault.{EntryFault}
use Rattle.entry_bytes.specs.declared.faults.EntryFault.TheVariants.{BadKind}
use Rattle.entry_bytes.specs.Commits.{commit_fields}
use Rattle.entry_bytes.specs.Entries.{command_fields}
use Rattle.entry_bytes.specs.Faults.{BeginsWith, IsEntry, IsFirstFault, fault_after}
use Rattle.entry_bytes.specs.Fields.{Field, Fits, number_field, text_field}
use Rattle.entry_bytes.specs.Former.{NamesNoDesk, SpeltNone, WasEntryOf, former_command_fields, former_fields, former_text, no_desk}
use Rattle.entry_bytes.specs.Gives.{IsWithin}
use Rattle.entry_bytes.specs.Laws.{AreBytes, most_bytes}
use Rattle.entry_bytes.specs.NewVisits.{new_visit_fields}
use Rattle.entry_bytes.specs.Parsing.{decode_former_entry, parse_former_of_kind, parse_cancel, parse_command, parse_commit, parse_entry, parse_message, parse_new_visit, parse_report, with_no_desk}
use Rattle.entry_bytes.specs.Readings.{Reading, ◌>>=◌, give}
use Rattle.entry_bytes.specs.Reports.{report_fields}
use Rattle.entry_bytes.proofs.CommandsOf.{command_of, former_command_forms, former_command_in_form}
use Rattle.entry_bytes.proofs.EntriesSpelt.{HasKind, IsReportOf, back_of, fifth-spells, passed_by, report_of, report-spells, second-spells, visit-spells, visit_no}
use Rattle.entry_bytes.proofs.Fields.{reads_byte, wide32}
use Rattle.entry_bytes.proofs.Lengths.{length-command, length-message, length-report}
use Rattle.entry_bytes.proofs.MessagesSpelt.{reads_message}
use Rattle.entry_bytes.proofs.Spells.{Announces, Announces-or, Anywhere, IsValid, Spells, Spells-as, Spells-from, Spells-made, Spells-one, Spells-tagged, texts}
use Rattle.entry_bytes.proofs.WholeSpelt.{At, Faults, IsCalled, entry_of, entry_with-spells, faults_near, faults_once, front-short, kind_shown, whole_faults, whole_is_read, whole_is_spelt}

abbrev former_kind_of : Command → ℕ
former_kind_of (AddVisit new) = 1
former_kind_of (Commit draft) = 2
former_kind_of (Message passed) = 3
former_kind_of (Report report) = 4
former_kind_of (Cancel visit) = 5

abbrev former_back : Command → List Field
former_back (AddVisit new) = new_visit_fields new
former_back (Commit draft) = commit_fields draft
former_back (Message passed) = text_field (canonical passed.message) ∷ []
former_back (Report report) = report_fields report
former_back (Cancel visit) = number_field w32 visit.0 ∷ []

-- a command that existed
abbrev WasCommand : Command → Type 0
WasCommand command = IsCommand command × NamesNoDesk command

abbrev HadKind : ℕ → Command → Type 0
HadKind kind command = (former_kind_of command ≡ kind) × WasCommand command

no_desk-name : is_name no_desk ≡ true
no_desk-name = refl

-- ---- kinds that are as they were

-- 1, 2 or 5
abbrev IsKept : ℕ → Type 0
IsKept kind = (kind ≤ 2) ⊎ (kind ≡ 5)

not_between : (kind known : ℕ) → IsKept kind → 2 < known → known ≢ 5 → known ≡ kind → ⊥
not_between kind known kept lt differs e = elim kept [
  | inl low ↦ omega (arith, low, lt, e)
  | inr five ↦ differs (e ∙ five)
]

kept_there : (kind : ℕ) → IsKept kind → (command : Command) → HasKind kind command → HadKind kind command
kept_there kind kept (AddVisit new) h = (h.0, (h.1, tt))
kept_there kind kept (Commit draft) h = (h.0, (h.1, tt))
kept_there kind kept (Message passed) h = absurd (not_between kind 6 kept (omega arith) (λ e. omega (arith, e)) h.0)
kept_there kind kept (Report report) h = absurd (not_between kind 7 kept (omega arith) (λ e. omega (arith, e)) h.0)
kept_there kind kept (Cancel visit) h = (h.0, (h.1, tt))

kept_here : (kind : ℕ) → IsKept kind → (command : Command) → HadKind kind command → HasKind kind command
kept_here kind kept (AddVisit new) h = (h.0, h.1.0)
kept_here kind kept (Commit draft) h = (h.0, h.1.0)
kept_here kind kept (Message passed) h = absurd (not_between kind 3 kept (omega arith) (λ e. omega (arith, e)) h.0)
kept_here kind kept (Report report) h = absurd (not_between kind 4 kept (omega arith) (λ e. omega (arith, e)) h.0)
kept_here kind kept (Cancel visit) h = (h.0, h.1.0)

kept_same : (kind : ℕ) → IsKept kind → (command : Command) → HadKind kind command → former_back command ≡ back_of command
kept_same kind kept (AddVisit new) h = refl
kept_same kind kept (Commit draft) h = refl
kept_same kind kept (Message passed) h = absurd (not_between kind 3 kept (omega arith) (λ e. omega (arith, e)) h.0)
kept_same kind kept (Report report) h = absurd (not_between kind 4 kept (omega arith) (λ e. omega (arith, e)) h.0)
kept_same kind kept (Cancel visit) h = refl

kept-spells : (airport : AirportParts) (kind : ℕ) (fields : Reading Command) → IsKept kind → Spells Anywhere airport fields back_of (HasKind kind) → Spells Anywhere airport fields former_back (HadKind kind)
kept-spells airport kind fields kept s = Spells-as former_back (HadKind kind) s (kept_there kind kept) (kept_here kind kept) (kept_same kind kept)

-- ---- messages and reports

was_message : (command : Command) → HadKind 3 command → (message : Mvt) × IsReadable message × (command ≡ Message (with_no_desk message))
was_message (AddVisit new) h = absurd (omega (arith, h.0))
was_message (Commit draft) h = absurd (omega (arith, h.0))
was_message (Message passed) h = (passed.message, h.1.0, ap (λ desk. Message (passed_by desk passed.message)) h.1.1)
was_message (Report report) h = absurd (omega (arith, h.0))
was_message (Cancel visit) h = absurd (omega (arith, h.0))

third-spells : (airport : AirportParts) → Spells Anywhere airport (parse_message >>= λ message. give (Message (with_no_desk message))) former_back (HadKind 3)
third-spells airport = Spells-made (λ message. Message (with_no_desk message)) former_back (HadKind 3) (Spells-one (reads_message airport)) (λ message h. (refl, (h, refl))) was_message (λ message. refl)

was_report : (command : Command) → HadKind 4 command → (report : DeskReport) × IsReportOf no_desk report × (command ≡ Report report)
was_report (AddVisit new) h = absurd (omega (arith, h.0))
was_report (Commit draft) h = absurd (omega (arith, h.0))
was_report (Message passed) h = absurd (omega (arith, h.0))
was_report (Report report) h = (report, (h.1.1, tt), refl)
was_report (Cancel visit) h = absurd (omega (arith, h.0))

fourth-spells : (airport : AirportParts) → Spells Anywhere airport (parse_report airport no_desk >>= λ report. give (Report report)) former_back (HadKind 4)
fourth-spells airport = Spells-made Report former_back (HadKind 4) (report-spells airport no_desk) (λ report h. (refl, (tt, h.0))) was_report (λ report. refl)

-- ---- any command

kind_is : (airport : AirportParts) (kind known : ℕ) (fields : Reading Command) → Spells Anywhere airport fields former_back (HadKind known) → (kind == known) ≡ true → Spells Anywhere airport fields former_back (HadKind kind)
kind_is airport kind known fields s e = subst (λ k. Spells Anywhere airport fields former_back (HadKind k)) (sym (eqb-true kind known e)) s

at_kind : (airport : AirportParts) (kind : ℕ) → Announces airport (parse_former_of_kind airport kind) former_back (HadKind kind)
at_kind airport kind =
    let first : Reading Command = parse_new_visit airport >>= λ new. give (AddVisit new) in
    let second : Reading Command = parse_commit airport >>= λ draft. give (Commit draft) in
    let third : Reading Command = parse_message >>= λ message. give (Message (with_no_desk message)) in
    let fourth : Reading Command = parse_report airport no_desk >>= λ report. give (Report report) in
    let fifth : Reading Command = parse_cancel >>= λ visit. give (Cancel visit) in
    let from_5 : Option (Reading Command) = cond (kind == 5) (Some fifth) None in
    let from_4 : Option (Reading Command) = cond (kind == 4) (Some fourth) from_5 in
    let from_3 : Option (Reading Command) = cond (kind == 3) (Some third) from_4 in
    let from_2 : Option (Reading Command) = cond (kind == 2) (Some second) from_3 in
    let low_1 : 1 ≤ 2 = omega arith in
    let low_2 : 2 ≤ 2 = omega arith in
    Announces-or from_2 (kind_is airport kind 1 first (kept-spells airport 1 first (inl low_1) (visit-spells airport)))
    (Announces-or from_3 (kind_is airport kind 2 second (kept-spells airport 2 second (inl low_2) (second-spells airport)))
    (Announces-or from_4 (kind_is airport kind 3 third (third-spells airport))
    (Announces-or from_5 (kind_is airport kind 4 fourth (fourth-spells airport))
    (Announces-or None (kind_is airport kind 5 fifth (kept-spells airport 5 fifth (inr refl) (fifth-spells airport)))
    tt))))

has_fields : (airport : AirportParts) (command : Command) → WasCommand command → IsSome (parse_former_of_kind airport (former_kind_of command))
has_fields airport (AddVisit new) h = refl
has_fields airport (Commit draft) h = refl
has_fields airport (Message passed) h = refl
has_fields airport (Report report) h = refl
has_fields airport (Cancel visit) h = refl

same_fields : (command : Command) → former_command_fields command ≡ number_field w8 (former_kind_of command) ∷ former_back command
same_fields (AddVisit new) = refl
same_fields (Commit draft) = refl
same_fields (Message passed) = refl
same_fields (Report report) = refl
same_fields (Cancel visit) = refl

command-spells : (airport : AirportParts) → Spells (At 8) airport (parse_command (parse_former_of_kind airport)) former_command_fields WasCommand
unfolding parse_command
command-spells airport =
    let small : 5 < 256 = omega arith in
    Spells-as former_command_fields WasCommand
    (Spells-from (At 8) (λ at h. h) (Spells-tagged airport (λ at. BadKind) (parse_former_of_kind airport) former_kind_of former_back WasCommand (reads_byte airport) (at_kind airport) (has_fields airport)
    (Cancel (visit_no 0), ((tt, tt), (small, (wide32.zero, tt))))))
    (λ command h. h) (λ command h. h) (λ command h. same_fields command)

-- ---- the fields that a command had, and those that it has

former_fits : (command : Command) → Every Fits (command_fields command) → Every Fits (former_command_fields command)
former_fits (AddVisit new) f = f
former_fits (Commit draft) f = f
former_fits (Message passed) f = let small : 3 < 256 = omega arith in (small, (tt, tt))
former_fits (Report report) f = let small : 4 < 256 = omega arith in (small, f.1.1)
former_fits (Cancel visit) f = f

fits_now : (command : Command) → NamesNoDesk command → Every Fits (former_command_fields command) → Every Fits (command_fields command)
fits_now (AddVisit new) none f = f
fits_now (Commit draft) none f = f
fits_now (Message passed) none f = let small : 6 < 256 = omega arith in (small, (ap is_name none ∙ no_desk-name, (tt, tt)))
fits_now (Report report) none f = let small : 7 < 256 = omega arith in (small, (ap is_name none ∙ no_desk-name, f.1))
fits_now (Cancel visit) none f = f

length-former : (command : Command) → Every Fits (command_fields command) → IsCommand command → length (texts (former_command_fields command)) ≤ 663
length-former (AddVisit new) f h = length-command (AddVisit new) f h
length-former (Commit draft) f h = length-command (Commit draft) f h
length-former (Message passed) f h = let text = length-message passed.message h in omega arith
length-former (Report report) f h = let rest = length-report report in omega arith
length-former (Cancel visit) f h = omega arith

-- the same command of no desk, which had the same fields
of_no_desk : Command → Command
of_no_desk (AddVisit new) = AddVisit new
of_no_desk (Commit draft) = Commit draft
of_no_desk (Message passed) = Message (with_no_desk passed.message)
of_no_desk (Report report) = Report (report_of no_desk report.visit.0 report.event)
of_no_desk (Cancel visit) = Cancel visit

of_no_desk-was : (command : Command) → IsCommand command → WasCommand (of_no_desk command)
unfolding of_no_desk
of_no_desk-was (AddVisit new) h = (h, tt)
of_no_desk-was (Commit draft) h = (h, tt)
of_no_desk-was (Message passed) h = (h, refl)
of_no_desk-was (Report report) h = (h, refl)
of_no_desk-was (Cancel visit) h = (h, tt)

of_no_desk-same : (command : Command) → former_command_fields (of_no_desk command) ≡ former_command_fields command
unfolding of_no_desk
of_no_desk-same (AddVisit new) = refl
of_no_desk-same (Commit draft) = refl
of_no_desk-same (Message passed) = refl
of_no_desk-same (Report report) = refl
of_no_desk-same (Cancel visit) = refl

-- ---- the whole

entry-spells : (airport : AirportParts) → Spells (At 0) airport (parse_entry (parse_former_of_kind airport)) former_fields (IsCalled WasCommand)
entry-spells airport = entry_with-spells airport (parse_former_of_kind airport) former_command_fields WasCommand (command-spells airport)

valid_of : (entry : Entry) → IsEntry entry → NamesNoDesk entry.command → IsValid former_fields (IsCalled WasCommand) entry
valid_of entry h none = let call : entry.call < 256 ^ 8 = omega (arith, h.call) in ((h.call, (h.command, none)), (call, former_fits entry.command h.fits))

entry_of_valid : (entry : Entry) → IsValid former_fields (IsCalled WasCommand) entry → IsEntry entry
entry_of_valid entry h = record { call = h.0.0; fits = fits_now entry.command h.0.1.1 h.1.1; command = h.0.1.0 }

former_entry_is_read : (airport : AirportParts) (bytes : List ℕ) (entry : Entry) → WasEntryOf airport entry → bytes ≡ former_text entry → decode_former_entry airport bytes ≡ Ok entry
unfolding decode_former_entry
former_entry_is_read airport bytes entry h is =
    let at_all : IsEntry entry = record { call = h.0.call; fits = h.0.fits; command = command_of airport entry.command h.0.command } in
    ap (decode_former_entry airport) is
    ∙ whole_is_read airport (parse_former_of_kind airport) former_fields (IsCalled WasCommand) (entry-spells airport) entry (valid_of entry at_all h.1) (tt, former_command_forms airport entry.command h.0.command)

pub former_entry_is_spelt : (airport : AirportParts) (bytes : List ℕ) (entry : Entry) → AreBytes bytes → decode_former_entry airport bytes ≡ Ok entry
    → WasEntryOf airport entry × (bytes ≡ former_text entry)
unfolding decode_former_entry
former_entry_is_spelt airport bytes entry fits e =
    let is = whole_is_spelt airport (parse_former_of_kind airport) former_fields (IsCalled WasCommand) (entry-spells airport) bytes entry fits e in
    let entry_is = entry_of_valid entry is.1 in
    ((record { call = entry_is.call; fits = entry_is.fits; command = former_command_in_form airport entry.command entry_is.command is.2.1 }, is.1.0.1.1), is.0)

pub none_was_spelt : (airport : AirportParts) (bytes : List ℕ) (fault : EntryFault) → decode_former_entry airport bytes ≡ Err fault → SpeltNone airport bytes
none_was_spelt airport bytes fault e = λ entry h is. let read = former_entry_is_read airport bytes entry h is in absurd cc

faults : (airport : AirportParts) (bytes : List ℕ) (fault : EntryFault) → AreBytes bytes → decode_former_entry airport bytes ≡ Err fault → Faults airport former_fields (IsCalled WasCommand) bytes fault
unfolding decode_former_entry
faults airport bytes fault fits e =
    whole_faults airport (parse_former_of_kind airport) former_fields (IsCalled WasCommand) (entry-spells airport) bytes fault fits
    (λ there bad. kind_shown airport (parse_former_of_kind airport) WasCommand former_kind_of former_back (at_kind airport) bytes fault fits there bad) e

pub former_fault_is_first : (airport : AirportParts) (bytes : List ℕ) (fault : EntryFault) → AreBytes bytes → decode_former_entry airport bytes ≡ Err fault → IsFirstFault former_fields airport bytes fault
former_fault_is_first airport bytes fault fits e =
    let f = faults airport bytes fault fits e in
    record {
      entry = f.entry;
      is_entry = entry_of_valid f.entry f.valid;
      count = f.count;
      place = f.place;
      begins = f.begins;
      most = λ other more later is begins.
          let was = of_no_desk-was other.command is.command in
          let same = of_no_desk-same other.command in
          let call : other.call < 256 ^ 8 = omega (arith, is.call) in
          f.most (entry_of other.call (of_no_desk other.command)) more later
          ((is.call, was), (call, subst (Every Fits) (sym same) (former_fits other.command is.fits)))
          (subst (λ fs. BeginsWith airport bytes (number_field w64 other.call ∷ fs) more later) (sym same) begins);
      is = f.is;
    }

-- a fault of bytes that no entry had, in entries of no desk
faults_of : (airport : AirportParts) (bytes : List ℕ) (fault : EntryFault) → IsFirstFault former_fields airport bytes fault → Faults airport former_fields (IsCalled WasCommand) bytes fault
faults_of airport bytes fault f =
    let command = f.entry.command in
    let entry_is = f.is_entry in
    let same : ◌≡◌ {A = List Field} (former_fields f.entry) (former_fields (entry_of f.entry.call (of_no_desk command))) = ap (λ fs. number_field w64 f.entry.call ∷ fs) (sym (of_no_desk-same command)) in
    let call : f.entry.call < 256 ^ 8 = omega (arith, entry_is.call) in
    let begun = f.begins in
    record {
      entry = entry_of f.entry.call (of_no_desk command);
      valid = ((entry_is.call, of_no_desk-was command entry_is.command), (call, subst (Every Fits) (sym (of_no_desk-same command)) (former_fits command entry_is.fits)));
      count = f.count;
      place = f.place;
      begins = subst (λ fs. BeginsWith airport bytes fs f.count f.place) same begun;
      most = λ other more later valid begins. f.most other more later (entry_of_valid other valid) begins;
      is = f.is ∙ ap (λ fs. fault_after bytes fs f.count f.place) same;
      near = omega (arith, begun.place_is, front-short f.count (former_fields f.entry), ap (λ (fs : List Field). length (texts fs)) same);
    }

pub former_fault_is_one : (airport : AirportParts) (bytes : List ℕ) (one other : EntryFault) → AreBytes bytes → IsFirstFault former_fields airport bytes one → IsFirstFault former_fields airport bytes other
    → one ≡ other
former_fault_is_one airport bytes one other fits a b =
    faults_once airport (parse_former_of_kind airport) former_fields (IsCalled WasCommand) (entry-spells airport) bytes fits one other (faults_of airport bytes one a) (faults_of airport bytes other b)

pub former_fault_is_near : (airport : AirportParts) (bytes : List ℕ) (fault : EntryFault) → AreBytes bytes → decode_former_entry airport bytes ≡ Err fault → IsWithin most_bytes fault
former_fault_is_near airport bytes fault fits e =
    faults_near airport former_fields (IsCalled WasCommand) bytes fault
    (λ entry h. let few = length-former entry.command (fits_now entry.command h.0.1.1 h.1.1) h.0.1.0 in omega (arith, few)) (faults airport bytes fault fits e)

pub former_entries_are_different : (airport : AirportParts) (one other : Entry) → WasEntryOf airport one → WasEntryOf airport other → former_text one ≡ former_text other → one ≡ other
former_entries_are_different airport one other a b same =
    let first = former_entry_is_read airport (former_text one) one a refl in
    let second = former_entry_is_read airport (former_text one) other b same in
    cc
