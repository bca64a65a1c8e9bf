-- A command of an airport is a command at all whose fields are in their forms there.
use Rattle.std.proofs.Common.{◌≡◌, ◌+◌, Bool, true, List, [], ◌∷◌, ◌++◌, length, Option, Some, None, refl}
use Rattle.std.specs.List.{flat_map, list_all}
use Rattle.std.specs.Prelude.{◌&&◌, All, nat_le, nat_lt, option_to_list}
use Rattle.std.proofs.lemmas.Bool.{and_parts, and_from, ltb-true, lt-ltb}
use Rattle.std.proofs.lemmas.List.Elements.{All-cons, All-head, All-nil, All-tail}
use Rattle.apron_base.specs.Histories.{Every}
use Rattle.apron_rules.specs.declared.parts.AirportParts.{AirportParts}
use Rattle.apron_rules.specs.Rules.{least_of}
use Rattle.visit_book.specs.Edits.{IsEditOf}
use Rattle.visit_book.specs.NewVisits.{is_in_time, is_key_in_time}
use Rattle.visit_book.specs.Reports.{IsEventOf}
use Rattle.visit_book.specs.WellFormed.{plan_end}
use Rattle.visit_book.specs.declared.edits.Edit.{Edit}
use Rattle.visit_book.specs.declared.edits.Edit.TheVariants.{Put, Lift, Cut, Join}
use Rattle.visit_book.specs.declared.reports.Event.{Event}
use Rattle.visit_book.specs.declared.reports.Event.TheVariants.{On, Off}
use Rattle.visit_book.specs.declared.visits.Key.{Key}
use Rattle.visit_book.specs.declared.visits.NewVisit.{NewVisit}
use Rattle.desk_asks.specs.Commands.{IsCommand, IsCommandOf}
use Rattle.desk_asks.specs.declared.asks.Command.{Command}
use Rattle.desk_asks.specs.declared.asks.Command.TheVariants.{AddVisit, Commit, Message, Report, Cancel}
use Rattle.entry_bytes.specs.Commits.{edit_fields}
use Rattle.entry_bytes.specs.Entries.{command_fields}
use Rattle.entry_bytes.specs.Faults.{HasForm}
use Rattle.entry_bytes.specs.Former.{former_command_fields}
use Rattle.entry_bytes.specs.Keys.{optional_key_fields}
use Rattle.entry_bytes.specs.NewVisits.{new_visit_fields}
use Rattle.entry_bytes.specs.Reports.{event_fields}
use Rattle.entry_bytes.proofs.Spells.{every-append, every-back, every-front}

pub command_of : (airport : AirportParts) (command : Command) → IsCommandOf airport command → IsCommand command
command_of airport (AddVisit new) h = h.new_visit
command_of airport (Commit draft) h = (h.0, h.1)
command_of airport (Message passed) h = h
command_of airport (Report report) h = tt
command_of airport (Cancel visit) h = tt

-- ---- visits

abbrev are_in_time : AirportParts → Option Key → Option Key → Bool
are_in_time airport arr dep = list_all (is_key_in_time airport) (option_to_list arr ++ option_to_list dep)

keys_from : (airport : AirportParts) (arr dep : Option Key) → Every (HasForm airport) (optional_key_fields arr) → Every (HasForm airport) (optional_key_fields dep) → are_in_time airport arr dep ≡ true
keys_from airport None None a b = refl
keys_from airport None (Some k) a b = and_from (is_key_in_time airport k) true b.1.1.1.1.0 refl
keys_from airport (Some k) None a b = and_from (is_key_in_time airport k) true a.1.1.1.1.0 refl
keys_from airport (Some k) (Some l) a b = and_from (is_key_in_time airport k) (is_key_in_time airport l && true) a.1.1.1.1.0 (and_from (is_key_in_time airport l) true b.1.1.1.1.0 refl)

keys_to : (airport : AirportParts) (arr dep : Option Key) → are_in_time airport arr dep ≡ true → Every (HasForm airport) (optional_key_fields arr) × Every (HasForm airport) (optional_key_fields dep)
keys_to airport None None h = ((tt, tt), (tt, tt))
keys_to airport None (Some k) h = ((tt, tt), (tt, (tt, (tt, (tt, ((and_parts (is_key_in_time airport k) true h).0, tt))))))
keys_to airport (Some k) None h = ((tt, (tt, (tt, (tt, ((and_parts (is_key_in_time airport k) true h).0, tt))))), (tt, tt))
keys_to airport (Some k) (Some l) h =
    let first = and_parts (is_key_in_time airport k) (is_key_in_time airport l && true) h in
    ((tt, (tt, (tt, (tt, (first.0, tt))))), (tt, (tt, (tt, (tt, ((and_parts (is_key_in_time airport l) true first.1).0, tt))))))

visit_in_time : (airport : AirportParts) (new : NewVisit) → Every (HasForm airport) (new_visit_fields new) → is_in_time airport new ≡ true
visit_in_time airport new h =
    let end = plan_end airport in
    let on = nat_lt new.on end in
    let off = nat_le new.off end in
    let long = nat_le (new.on + least_of airport new.kind) new.off in
    let parts = and_parts off long h.1.1.1.1.0 in
    let arr = optional_key_fields new.arr in
    let dep = optional_key_fields new.dep in
    let keys = keys_from airport new.arr new.dep (every-front (HasForm airport) arr dep h.1.1.1.1.1) (every-back (HasForm airport) arr dep h.1.1.1.1.1) in
    and_from (on && off && long) (are_in_time airport new.arr new.dep) (and_from (on && off) long (and_from on off h.1.1.1.0 parts.0) parts.1) keys

visit_forms : (airport : AirportParts) (new : NewVisit) → nat_lt new.kind.0 (length airport.types) ≡ true → is_in_time airport new ≡ true → Every (HasForm airport) (new_visit_fields new)
visit_forms airport new kind h =
    let end = plan_end airport in
    let on = nat_lt new.on end in
    let off = nat_le new.off end in
    let long = nat_le (new.on + least_of airport new.kind) new.off in
    let a = and_parts (on && off && long) (are_in_time airport new.arr new.dep) h in
    let b = and_parts (on && off) long a.0 in
    let c = and_parts on off b.0 in
    let keys = keys_to airport new.arr new.dep a.1 in
    (tt, (kind, (tt, (c.0, (and_from off long c.1 b.1, every-append (HasForm airport) (optional_key_fields new.arr) (optional_key_fields new.dep) keys.0 keys.1)))))

-- ---- commits and reports

edit_of : (airport : AirportParts) (edit : Edit) → Every (HasForm airport) (edit_fields edit) → IsEditOf airport edit
edit_of airport (Put visit part stand) h = ltb-true stand.0 (length airport.stands) h.1.1.1.0
edit_of airport (Lift visit part) h = tt
edit_of airport (Cut visit part at) h = tt
edit_of airport (Join visit part) h = tt

edit_forms : (airport : AirportParts) (edit : Edit) → IsEditOf airport edit → Every (HasForm airport) (edit_fields edit)
edit_forms airport (Put visit part stand) h = (tt, (tt, (tt, (lt-ltb stand.0 (length airport.stands) h, tt))))
edit_forms airport (Lift visit part) h = (tt, (tt, (tt, tt)))
edit_forms airport (Cut visit part at) h = (tt, (tt, (tt, (tt, tt))))
edit_forms airport (Join visit part) h = (tt, (tt, (tt, tt)))

edits_of : (airport : AirportParts) (edits : List Edit) → Every (HasForm airport) (flat_map edit_fields edits) → All (IsEditOf airport) edits
edits_of airport [] h = All-nil (IsEditOf airport)
edits_of airport (edit ∷ edits) h =
    let first = edit_fields edit in
    let others = flat_map edit_fields edits in
    All-cons (IsEditOf airport) edit edits (edit_of airport edit (every-front (HasForm airport) first others h)) (edits_of airport edits (every-back (HasForm airport) first others h))

edits_forms : (airport : AirportParts) (edits : List Edit) → All (IsEditOf airport) edits → Every (HasForm airport) (flat_map edit_fields edits)
edits_forms airport [] h = tt
edits_forms airport (edit ∷ edits) h =
    every-append (HasForm airport) (edit_fields edit) (flat_map edit_fields edits) (edit_forms airport edit (All-head (IsEditOf airport) edit edits h)) (edits_forms airport edits (All-tail (IsEditOf airport) edit edits h))

event_of : (airport : AirportParts) (event : Event) → Every (HasForm airport) (event_fields event) → IsEventOf airport event
event_of airport (On part stand minute) h = ltb-true stand.0 (length airport.stands) h.1.1.0
event_of airport (Off minute) h = tt

event_forms : (airport : AirportParts) (event : Event) → IsEventOf airport event → Every (HasForm airport) (event_fields event)
event_forms airport (On part stand minute) h = (tt, (tt, (lt-ltb stand.0 (length airport.stands) h, (tt, tt))))
event_forms airport (Off minute) h = (tt, (tt, tt))

-- ---- commands

pub command_in_form : (airport : AirportParts) (command : Command) → IsCommand command → Every (HasForm airport) (command_fields command) → IsCommandOf airport command
command_in_form airport (AddVisit new) h f = record { new_visit = h; kind = ltb-true new.kind.0 (length airport.types) f.1.1.0; in_time = visit_in_time airport new f.1 }
command_in_form airport (Commit draft) h f = (h.0, h.1, edits_of airport draft.edits f.1.1.1.1.1)
command_in_form airport (Message passed) h f = h
command_in_form airport (Report report) h f = event_of airport report.event f.1.1.1
command_in_form airport (Cancel visit) h f = tt

pub command_forms : (airport : AirportParts) (command : Command) → IsCommandOf airport command → Every (HasForm airport) (command_fields command)
command_forms airport (AddVisit new) h = (tt, visit_forms airport new (lt-ltb new.kind.0 (length airport.types) h.kind) h.in_time)
command_forms airport (Commit draft) h = (tt, (tt, (tt, (tt, (tt, edits_forms airport draft.edits h.2)))))
command_forms airport (Message passed) h = (tt, (tt, (tt, tt)))
command_forms airport (Report report) h = (tt, (tt, (tt, event_forms airport report.event h)))
command_forms airport (Cancel visit) h = (tt, (tt, tt))

-- ---- commands as they were

pub former_command_in_form : (airport : AirportParts) (command : Command) → IsCommand command → Every (HasForm airport) (former_command_fields command) → IsCommandOf airport command
former_command_in_form airport (AddVisit new) h f = command_in_form airport (AddVisit new) h f
former_command_in_form airport (Commit draft) h f = command_in_form airport (Commit draft) h f
former_command_in_form airport (Message passed) h f = h
former_command_in_form airport (Report report) h f = event_of airport report.event f.1.1
former_command_in_form airport (Cancel visit) h f = tt

pub former_command_forms : (airport : AirportParts) (command : Command) → IsCommandOf airport command → Every (HasForm airport) (former_command_fields command)
former_command_forms airport (AddVisit new) h = command_forms airport (AddVisit new) h
former_command_forms airport (Commit draft) h = command_forms airport (Commit draft) h
former_command_forms airport (Message passed) h = (tt, (tt, tt))
former_command_forms airport (Report report) h = (tt, (tt, event_forms airport report.event h))
former_command_forms airport (Cancel visit) h = (tt, (tt, tt))
