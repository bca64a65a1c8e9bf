-- Which entries took stands from the parts of a plan.
use Rattle.std.proofs.Common.{◌≡◌, ◌∙◌, ◌≤◌, ◌+◌, ◌∷◌, [], ℕ, suc, Bool, true, false, if◌then◌else◌, List, map, Option, None, Some, Result, Ok, Err, refl, sym, ap, subst, arith}
use Rattle.std.specs.Prelude.{Contains}
use Rattle.std.specs.Result.{result_ok}
use Rattle.std.specs.List.{AllByRecursion}
use Rattle.std.proofs.lemmas.Bool.Decides.{nat_tests}
use Rattle.std.proofs.lemmas.List.Elements.{All-from_recursion}
use Rattle.apron_base.specs.Histories.{Every}
use Rattle.apron_base.specs.declared.numbers.StandNo.{StandNo}
use Rattle.apron_rules.specs.declared.parts.AirportParts.{AirportParts}
use Rattle.visit_book.specs.declared.drafts.Draft.{Draft}
use Rattle.visit_book.specs.declared.visits.Bump.{Bump}
use Rattle.visit_book.specs.declared.visits.NewVisit.{NewVisit}
use Rattle.visit_book.specs.declared.visits.Part.{Part}
use Rattle.visit_book.specs.declared.visits.Place.{Place}
use Rattle.visit_book.specs.declared.visits.Place.TheVariants.{Unplaced, Planned, Actual}
use Rattle.visit_book.specs.declared.visits.Visit.{Visit}
use Rattle.visit_book.specs.Numbers.{IsNumbered, has_number, visit_at}
use Rattle.visit_book.specs.declared.edits.Edit.{Edit}
use Rattle.plan_core.specs.Adding.{next_visit}
use Rattle.plan_core.specs.Edits.{edit_visit, is_edited}
use Rattle.plan_core.specs.Moving.{cancelled_visit, lifted_part}
use Rattle.plan_core.specs.PlanState.{HasBump, PlanState, empty_plan}
use Rattle.plan_core.specs.Rebase.{edited_last, visits_after_commit}
use Rattle.plan_core.proofs.EditKept.{visit_bumps}
use Rattle.bump_core.specs.Bumped.{bumped_by, bumped_from, is_bumped_by}
use Rattle.bump_core.specs.Ranks.{all_parts_on, kept_of}
use Rattle.bump_core.specs.Settle.{place_after, settled_parts, settled_place, settled_visit}
use Rattle.bump_core.specs.Settled.{with_changed, with_settled}
use Rattle.bump_core.specs.declared.ranks.Conflict.{Conflict}
use Rattle.bump_core.specs.declared.ranks.Ranked.{Ranked}
use Rattle.desk_asks.specs.declared.asks.Command.{Command}
use Rattle.desk_asks.specs.declared.asks.Command.TheVariants.{AddVisit, Commit, Message, Report, Cancel}
use Rattle.desk_asks.specs.declared.asks.Entry.{Entry}
use Rattle.desk_words.specs.declared.replies.Denial.{Denial}
use Rattle.history_core.specs.History.{AreTakenFrom, IsLegal, after_entries, replay}
use Rattle.history_core.specs.Bumped.{bumped_in, last_bumped}
use Rattle.history_core.specs.Acceptance.{IsTaken, after_command, cancellable, cancelled_if, made_told, visit_after_message, visit_after_report}
use Rattle.history_core.proofs.Happenings.{MayChange, message_changes, report_changes}
use Rattle.history_core.proofs.Kept.{all_last, edits_keep, found_has, put_one_has, with_has}
use Rattle.history_core.proofs.Replay.{command_numbered, command_version, commits}

-- the record is of an entry of a plan at this version
abbrev pub IsOf : ℕ → Bump → Type 0
IsOf version bump = (1 ≤ bump.entry) × (bump.entry ≤ version)

-- each record of the parts is one of those
abbrev pub AreOf : ℕ → List Part → Type 0
AreOf version parts = (bump : Bump) → HasBump parts bump → IsOf version bump

-- the record of the place, if it has one, is one of those
abbrev PlaceIsOf : ℕ → Place → Type 0
PlaceIsOf version (Unplaced None) = Unit {0}
PlaceIsOf version (Unplaced (Some bump)) = IsOf version bump
PlaceIsOf version (Planned stand) = Unit {0}
PlaceIsOf version (Actual stand) = Unit {0}

abbrev PartIsOf : ℕ → Part → Type 0
PartIsOf version part = PlaceIsOf version part.place

place_bump : (version : ℕ) (place : Place) (bump : Bump) → place ≡ Unplaced (Some bump) → PlaceIsOf version place → IsOf version bump
place_bump version place bump is of = subst (PlaceIsOf version) is of

-- each part by itself, and the parts together
each_of : (version : ℕ) (parts : List Part) → AllByRecursion (PartIsOf version) parts → AreOf version parts
each_of version parts all bump has =
    let among : Contains parts has.part = has.among in
    place_bump version has.part.place bump has.place
    (subst (PartIsOf version) among.2 (All-from_recursion (PartIsOf version) parts all among.0 has.part among.1))

place_of : (version : ℕ) (place : Place) → ((bump : Bump) → place ≡ Unplaced (Some bump) → IsOf version bump) → PlaceIsOf version place
place_of version (Unplaced None) of = tt
place_of version (Unplaced (Some bump)) of = of bump refl
place_of version (Planned stand) of = tt
place_of version (Actual stand) of = tt

of_each : (version : ℕ) (parts : List Part) → AreOf version parts → AllByRecursion (PartIsOf version) parts
of_each version [] of = tt
of_each version (part ∷ parts) of = (
  place_of version part.place (λ bump is. of bump (record { part = part; among = (0, omega arith, refl); place = is })),
  of_each version parts (λ bump has.
      let among : Contains parts has.part = has.among in
      of bump (record { part = has.part; among = (suc among.0, omega (arith, among.1), among.2); place = has.place })),
)

-- what settling makes of a place: a record of its own entry, or what was there
after_of : (entry : ℕ) (stand : StandNo) (found : Option Conflict) → 1 ≤ entry → PlaceIsOf entry (place_after entry stand found)
after_of entry stand None some = tt
after_of entry stand (Some found) some = (some, omega arith)

settled_place_of : (airport : AirportParts) (version : ℕ) (kept : List Ranked) (visit : Visit) (number : ℕ) (part : Part) (place : Place) → PlaceIsOf version place
    → PlaceIsOf (version + 1) (settled_place airport (version + 1) kept visit number part place)
settled_place_of airport version kept visit number part (Unplaced None) of = tt
settled_place_of airport version kept visit number part (Unplaced (Some bump)) of = (of.0, omega (arith, of.1))
settled_place_of airport version kept visit number part (Planned stand) of = after_of (version + 1) stand _ (omega arith)
settled_place_of airport version kept visit number part (Actual stand) of = tt

settled_parts_of : (airport : AirportParts) (version : ℕ) (kept : List Ranked) (visit : Visit) (number : ℕ) (parts : List Part)
    → AllByRecursion (PartIsOf version) parts → AllByRecursion (PartIsOf (version + 1)) (settled_parts airport (version + 1) kept visit number parts)
settled_parts_of airport version kept visit number [] all = tt
settled_parts_of airport version kept visit number (part ∷ parts) all = (
  settled_place_of airport version kept visit number part part.place all.0,
  settled_parts_of airport version kept visit (number + 1) parts all.1,
)

-- the records of a visit
abbrev pub VisitIsOf : ℕ → Visit → Type 0
VisitIsOf version visit = AreOf version visit.parts

settled_visit_of : (airport : AirportParts) (version : ℕ) (kept : List Ranked) (visit : Visit) → VisitIsOf version visit
    → VisitIsOf (version + 1) (settled_visit airport (version + 1) kept visit)
settled_visit_of airport version kept visit of =
    each_of (version + 1) (settled_parts airport (version + 1) kept visit 1 visit.parts)
    (settled_parts_of airport version kept visit 1 visit.parts (of_each version visit.parts of))

settled_of : (airport : AirportParts) (version : ℕ) (kept : List Ranked) (visits : List Visit) → Every (VisitIsOf version) visits
    → Every (VisitIsOf (version + 1)) (map (settled_visit airport (version + 1) kept) visits)
settled_of airport version kept [] all = tt
settled_of airport version kept (visit ∷ visits) all =
    (settled_visit_of airport version kept visit all.0, settled_of airport version kept visits all.1)

-- parts that were lifted, and a part that was on no stand yet, have no record
lifted_all : (version : ℕ) (parts : List Part) → AllByRecursion (PartIsOf version) (map lifted_part parts)
lifted_all version [] = tt
lifted_all version (part ∷ parts) = (tt, lifted_all version parts)

lifted_of : (version : ℕ) (parts : List Part) → AreOf version (map lifted_part parts)
lifted_of version parts = each_of version (map lifted_part parts) (lifted_all version parts)

unplaced_of : (version from to : ℕ) → AreOf version (record { from = from; to = to; place = Unplaced None } ∷ [])
unplaced_of version from to = each_of version (record { from = from; to = to; place = Unplaced None } ∷ []) (tt, tt)

later_of : (version : ℕ) (visit : Visit) → VisitIsOf version visit → VisitIsOf (version + 1) visit
later_of version visit of bump has = let is = of bump has in (is.0, omega (arith, is.1))

all_later : (version : ℕ) (visits : List Visit) → Every (VisitIsOf version) visits → Every (VisitIsOf (version + 1)) visits
all_later version [] all = tt
all_later version (visit ∷ visits) all = (later_of version visit all.0, all_later version visits all.1)

-- a stamp takes no stand
stamped_one : (version made : ℕ) (visit : Visit) (here : Bool) → VisitIsOf version visit → VisitIsOf version (if here then edited_last made visit else visit)
stamped_one version made visit true of = of
stamped_one version made visit false of = of

stamped_of : (version made : ℕ) (edits : List Edit) (visits : List Visit) → Every (VisitIsOf version) visits → Every (VisitIsOf version) (visits_after_commit made edits visits)
stamped_of version made edits [] all = tt
stamped_of version made edits (visit ∷ visits) all =
    (stamped_one version made visit (is_edited edits visit.number.0) all.0, stamped_of version made edits visits all.1)

-- no edit takes a stand
edit_of : (version : ℕ) (airport : AirportParts) (base number : ℕ) (edit : Edit) (visit after : Visit) → edit_visit airport base number edit visit ≡ Ok after
    → VisitIsOf version visit → VisitIsOf version after
edit_of version airport base number edit visit after is of bump has = of bump (visit_bumps airport base number edit visit after is bump has)

-- the visits, after one was changed
changed_of : (version : ℕ) (visits : List Visit) (changed : Option Visit) → MayChange visits changed → Every (VisitIsOf version) visits
    → Every (VisitIsOf version) (with_changed visits changed)
changed_of version visits None may all = all
changed_of version visits (Some new) may all =
    let of = may new refl in
    let before : VisitIsOf version of.before = found_has (VisitIsOf version) (has_number new.number) visits of.before all of.at in
    with_has (VisitIsOf version) visits new (λ bump has. before bump (of.bumps bump has)) all

happened_of : (plan : PlanState) (changed : Option Visit) → MayChange plan.visits changed → Every (VisitIsOf plan.version) plan.visits
    → Every (VisitIsOf (plan.version + 1)) (with_settled plan changed).visits
happened_of plan changed may all =
    let visits = with_changed plan.visits changed in
    settled_of plan.airport plan.version (kept_of plan.airport (all_parts_on plan.airport visits)) visits (changed_of plan.version plan.visits changed may all)

-- commands that take no stand: the records after them are those before
quiet_visit : (plan : PlanState) (new : NewVisit) → Every (VisitIsOf plan.version) plan.visits
    → Every (VisitIsOf plan.version) (after_command plan (AddVisit new)).visits
quiet_visit plan new all =
    all_last (VisitIsOf plan.version) plan.visits (next_visit plan new) all (unplaced_of plan.version new.on new.off)

quiet_commit : (plan : PlanState) (draft : Draft) → IsTaken plan (Commit draft)
    → Every (VisitIsOf plan.version) plan.visits → Every (VisitIsOf plan.version) (after_command plan (Commit draft)).visits
quiet_commit plan draft taken all =
    let made = commits plan draft taken in
    let kept = edits_keep (VisitIsOf plan.version) (edit_of plan.version) plan.airport draft.base 1 draft.edits plan.visits made.new made.apply all in
    subst (λ (p : PlanState). Every (VisitIsOf plan.version) p.visits) (sym made.makes)
    (stamped_of plan.version (plan.version + 1) draft.edits made.new kept)

quiet_cancel : (plan : PlanState) (found : Result Visit Denial) → Every (VisitIsOf plan.version) plan.visits
    → Every (VisitIsOf plan.version) (cancelled_if plan found).visits
quiet_cancel plan (Ok visit) all = put_one_has (VisitIsOf plan.version) plan.visits (cancelled_visit visit) (lifted_of plan.version visit.parts) all
quiet_cancel plan (Err why) all = all

-- the records after a command that is taken
command_of : (plan : PlanState) (command : Command) → IsTaken plan command → IsNumbered plan.visits → Every (VisitIsOf plan.version) plan.visits
    → Every (VisitIsOf (plan.version + 1)) (after_command plan command).visits
command_of plan (AddVisit new) taken numbered all = all_later plan.version (after_command plan (AddVisit new)).visits (quiet_visit plan new all)
command_of plan (Commit draft) taken numbered all =
    all_later plan.version (after_command plan (Commit draft)).visits (quiet_commit plan draft taken all)
command_of plan (Message passed) taken numbered all = happened_of plan (visit_after_message plan passed.message) (message_changes plan passed.message numbered) all
command_of plan (Report report) taken numbered all = happened_of plan (result_ok (visit_after_report plan report)) (report_changes plan report) all
command_of plan (Cancel number) taken numbered all =
    all_later plan.version (after_command plan (Cancel number)).visits (quiet_cancel plan (cancellable plan number) all)

all_of : (plan : PlanState) (count : ℕ) (history : List Entry) → AreTakenFrom plan count history → IsNumbered plan.visits
    → Every (VisitIsOf plan.version) plan.visits → Every (VisitIsOf (after_entries plan history).version) (after_entries plan history).visits
all_of plan count [] taken numbered all = all
all_of plan count (entry ∷ history) taken numbered all =
    let after = after_command plan entry.command in
    let next : after.version ≡ plan.version + 1 = command_version plan entry.command taken.1.0 in
    all_of after (count + 1) history taken.2 (command_numbered plan entry.command taken.1.0 numbered)
    (subst (λ (version : ℕ). Every (VisitIsOf version) after.visits) (sym next) (command_of plan entry.command taken.1.0 numbered all))

-- each record of a visit is of an entry
pub bumps_of_entries : (airport : AirportParts) (history : List Entry) (visit : Visit) (bump : Bump) → IsLegal airport history
    → visit_at (replay airport history).visits visit.number ≡ Some visit → HasBump visit.parts bump
    → (1 ≤ bump.entry) × (bump.entry ≤ (replay airport history).version)
bumps_of_entries airport history visit bump legal found =
    let plan = replay airport history in
    found_has (VisitIsOf plan.version) (has_number visit.number) plan.visits visit (all_of (empty_plan airport) 0 history legal.taken tt tt) found bump

-- records of earlier entries are no record of the next one
none_at : (version : ℕ) (place : Place) → PlaceIsOf version place → is_bumped_by (version + 1) place ≡ false
none_at version (Unplaced None) of = refl
none_at version (Unplaced (Some bump)) of = let old : bump.entry ≤ version = of.1 in grind (arith, nat_tests)
none_at version (Planned stand) of = refl
none_at version (Actual stand) of = refl

none_from : (version : ℕ) (visit : Visit) (number : ℕ) (parts : List Part) → AllByRecursion (PartIsOf version) parts
    → bumped_from (version + 1) visit number parts ≡ []
none_from version visit number [] all = refl
none_from version visit number (part ∷ parts) all =
    rw (none_at version part.place all.0, none_from version visit (number + 1) parts all.1) refl

none_bumped : (version : ℕ) (visits : List Visit) → Every (VisitIsOf version) visits → bumped_by (version + 1) visits ≡ []
none_bumped version [] all = refl
none_bumped version (visit ∷ visits) all =
    rw (none_from version visit 1 visit.parts (of_each version visit.parts all.0)) (none_bumped version visits all.1)

-- so none lost its stand by a command that takes none
quiet_bumped : (plan after : PlanState) → after.version ≡ plan.version + 1 → Every (VisitIsOf plan.version) after.visits → last_bumped after ≡ []
quiet_bumped plan after next all = ap (λ (n : ℕ). bumped_by n after.visits) next ∙ none_bumped plan.version after.visits all

made_bumped : (plan : PlanState) (command : Command) → IsTaken plan command → Every (VisitIsOf plan.version) plan.visits
    → bumped_in (made_told plan (plan.version + 1) command) ≡ last_bumped (after_command plan command)
made_bumped plan (AddVisit new) taken all = sym (quiet_bumped plan (after_command plan (AddVisit new)) refl (quiet_visit plan new all))
made_bumped plan (Commit draft) taken all =
    sym (quiet_bumped plan (after_command plan (Commit draft)) (command_version plan (Commit draft) taken)
    (quiet_commit plan draft taken all))
made_bumped plan (Message passed) taken all = refl
made_bumped plan (Report report) taken all = refl
made_bumped plan (Cancel number) taken all =
    sym (quiet_bumped plan (after_command plan (Cancel number)) (command_version plan (Cancel number) taken)
    (quiet_cancel plan (cancellable plan number) all))

-- the reply to an accepted command says exactly which parts lost their stands by its entry
pub told_bumped : (airport : AirportParts) (history : List Entry) (command : Command) → IsLegal airport history → IsTaken (replay airport history) command
    → bumped_in (made_told (replay airport history) ((replay airport history).version + 1) command) ≡ last_bumped (after_command (replay airport history) command)
told_bumped airport history command legal taken =
    made_bumped (replay airport history) command taken (all_of (empty_plan airport) 0 history legal.taken tt tt)
