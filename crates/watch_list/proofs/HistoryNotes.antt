-- The notes of a history that an ask may have added an entry to.
use Rattle.std.proofs.Common.{◌≡◌, ◌∙◌, ◌≤◌, ◌+◌, ◌*◌, ◌++◌, ◌∷◌, [], ◌&&◌, ℕ, Bool, true, false, List, append_assoc, append-nil, length, length-append, refl, sym, ap, subst, arith, ⊎_elim, if◌then◌else◌}
use Rattle.std.specs.Prelude.{Vec, nat_lt, vec_capacity, vec_len}
use Rattle.std.proofs.lemmas.Bool.Decides.{nat_tests}
use Rattle.apron_base.specs.declared.numbers.PartId.{PartId}
use Rattle.apron_base.specs.declared.outside.Acted.{Acted}
use Rattle.apron_rules.specs.declared.parts.AirportParts.{AirportParts}
use Rattle.visit_book.specs.Numbers.{IsNumbered}
use Rattle.visit_book.specs.PartFields.{most_parts}
use Rattle.plan_core.specs.PlanState.{IsPlan, PlanState, empty_plan}
use Rattle.desk_asks.specs.declared.asks.Ask.{Ask}
use Rattle.desk_asks.specs.declared.asks.Command.{Command}
use Rattle.desk_asks.specs.declared.asks.Command.TheVariants.{AddVisit, Commit, Message, Report, Cancel}
use Rattle.desk_asks.specs.declared.asks.Entry.{Entry}
use Rattle.desk_asks.specs.declared.asks.What.{What}
use Rattle.desk_asks.specs.declared.asks.What.TheVariants.{Change}
use Rattle.history_core.specs.Answer.{ActsAs}
use Rattle.history_core.specs.Board.{BoardHeld}
use Rattle.history_core.specs.Bumped.{bumped_in, last_bumped}
use Rattle.history_core.specs.History.{IsLegal, replay}
use Rattle.history_core.specs.Opening.{IsReadOn, OpeningHeld}
use Rattle.history_core.specs.Acceptance.{IsTaken, after_command, made_told}
use Rattle.history_core.proofs.Bumps.{told_bumped}
use Rattle.history_core.proofs.Happenings.{message_keeps, report_keeps}
use Rattle.history_core.proofs.KeptVisits.{kept_length}
use Rattle.history_core.proofs.Legal.{legal_counted}
use Rattle.history_core.proofs.Replay.{after-push, command_numbered, command_version}
use Rattle.watch_list.specs.declared.note.Note.{Note}
use Rattle.watch_list.specs.HistoryNotes.{HasNoteRoom, last_notes, may_bump, notes_after, notes_of}
use Rattle.watch_list.specs.Notes.{notes_by}
use Rattle.watch_list.proofs.Grown.{HasGrown, acts_leave}
use Rattle.watch_list.proofs.PartNotes.{few_bumped, no_notes}

-- the notes of a history with one more entry
pub notes_push : (airport : AirportParts) (front entries : List Entry) (entry : Entry)
    → notes_after airport front (entries ++ entry ∷ []) ≡ notes_after airport front entries ++ last_notes airport (front ++ (entries ++ entry ∷ []))
notes_push airport front [] entry = append-nil (last_notes airport (front ++ entry ∷ []))
notes_push airport front (first ∷ entries) entry =
    let here = last_notes airport (front ++ first ∷ []) in
    let more = notes_push airport (front ++ first ∷ []) entries entry in
    ap (λ (notes : List Note). here ++ notes) more
    ∙ (sym (append_assoc here (notes_after airport (front ++ first ∷ []) entries) (last_notes airport ((front ++ first ∷ []) ++ (entries ++ entry ∷ []))))
    ∙ ap (λ (history : List Entry). (here ++ notes_after airport (front ++ first ∷ []) entries) ++ last_notes airport history)
    (append_assoc front (first ∷ []) (entries ++ entry ∷ [])))

-- a message or a report keeps the number of the visits
kept_count : (plan : PlanState) (command : Command) → may_bump (Change command) ≡ true → IsNumbered plan.visits
    → length (after_command plan command).visits ≡ length plan.visits
kept_count plan (AddVisit new) bumps numbered = absurd (cc)
kept_count plan (Commit draft) bumps numbered = absurd (cc)
kept_count plan (Message passed) bumps numbered =
    kept_length plan.visits (after_command plan (Message passed)).visits (message_keeps plan passed.message numbered)
kept_count plan (Report report) bumps numbered =
    kept_length plan.visits (after_command plan (Report report)).visits (report_keeps plan report)
kept_count plan (Cancel visit) bumps numbered = absurd (cc)

-- any other command takes no stand, so it has no note
told_none : (plan : PlanState) (entry : ℕ) (command : Command) → may_bump (Change command) ≡ false → bumped_in (made_told plan entry command) ≡ []
told_none plan entry (AddVisit new) quiet = refl
told_none plan entry (Commit draft) quiet = refl
told_none plan entry (Message passed) quiet = absurd (cc)
told_none plan entry (Report report) quiet = absurd (cc)
told_none plan entry (Cancel visit) quiet = refl

quiet_command : (airport : AirportParts) (history : List Entry) (command : Command) → may_bump (Change command) ≡ false → IsLegal airport history
    → IsTaken (replay airport history) command → IsNumbered (replay airport history).visits
    → notes_by ((replay airport history).version + 1) (after_command (replay airport history) command).visits ≡ []
quiet_command airport history command quiet legal taken numbered =
    let plan = replay airport history in
    let after = after_command plan command in
    let none : last_bumped after ≡ [] = sym (told_bumped airport history command legal taken) ∙ told_none plan (plan.version + 1) command quiet in
    ap (λ (n : ℕ). notes_by n after.visits) (sym (command_version plan command taken))
    ∙ no_notes after.version after.visits (command_numbered plan command taken numbered) none

module _ (airport : AirportParts) (before : List Entry) (call : ℕ) (ask : Ask) (after : List Entry) where
  grown_plan : (grown : HasGrown airport before call ask.what after) → replay airport after ≡ after_command (replay airport before) grown.command
  grown_plan grown =
      ap (replay airport) grown.last ∙ after-push (empty_plan airport) before (record { call = call; command = grown.command })

  -- after an ask that may have notes there are as many visits
  pub as_many_visits : (acted : Acted) → ActsAs airport before call ask acted after → IsPlan (replay airport before) → may_bump ask.what ≡ true
      → length (replay airport after).visits ≡ length (replay airport before).visits
  as_many_visits acted acts plan bumps = ⊎_elim
      (λ (same : after ≡ before). ap (λ (h : List Entry). length (replay airport h).visits) same)
      (λ (grown : HasGrown airport before call ask.what after).
      ap (λ (p : PlanState). length p.visits) (grown_plan grown)
      ∙ kept_count (replay airport before) grown.command (subst (λ (w : What). may_bump w ≡ true) grown.asked bumps) plan.numbered)
      (acts_leave airport before call ask after acted acts)

  -- the notes of the last entry of an ask that can have none
  quiet_last : (grown : HasGrown airport before call ask.what after) → IsLegal airport before → IsPlan (replay airport before) → may_bump ask.what ≡ false
      → last_notes airport after ≡ []
  quiet_last grown legal plan quiet =
      let old = replay airport before in
      let counted : old.version ≡ length before = legal_counted airport before legal in
      let longer : length after ≡ length before + 1 = ap length grown.last ∙ length-append before (record { call = call; command = grown.command } ∷ []) in
      let number : length after ≡ old.version + 1 = omega arith in
      let none = quiet_command airport before grown.command (subst (λ (w : What). may_bump w ≡ false) grown.asked quiet) legal grown.taken plan.numbered in
      rw (number, grown_plan grown) none

  notes_grown : (grown : HasGrown airport before call ask.what after) → notes_of airport after ≡ notes_of airport before ++ last_notes airport after
  notes_grown grown =
      subst (λ (h : List Entry). notes_of airport h ≡ notes_of airport before ++ last_notes airport h) (sym grown.last)
      (notes_push airport [] before (record { call = call; command = grown.command }))

  -- what is put last after an ask
  abbrev put_last : Bool → Bool → PlanState → List Note
  put_last bumps more plan = if bumps && more then notes_by plan.version plan.visits else []

  noted_by : (grown : HasGrown airport before call ask.what after) (bumps : Bool) → may_bump ask.what ≡ bumps → IsLegal airport before → IsLegal airport after
      → IsPlan (replay airport before) → put_last bumps true (replay airport after) ≡ last_notes airport after
  noted_by grown true is legal left plan =
      ap (λ (n : ℕ). notes_by n (replay airport after).visits) (legal_counted airport after left)
  noted_by grown false is legal left plan = sym (quiet_last grown legal plan is)

  and_false : (b : Bool) → (b && false) ≡ false
  and_false true = refl
  and_false false = refl

  -- the notes after an ask
  pub noted : (acted : Acted) (plan : PlanState) (more : Bool) (notes done : List Note) → notes ≡ notes_of airport before
      → ActsAs airport before call ask acted after → IsLegal airport before → IsLegal airport after → IsPlan (replay airport before)
      → plan ≡ replay airport after → more ≡ nat_lt (length before) (length after) → done ≡ notes ++ put_last (may_bump ask.what) more plan
      → done ≡ notes_of airport after
  noted acted plan more notes done is acts legal left old plan_is more_is put = ⊎_elim
      (λ (same : after ≡ before).
      let none : more ≡ false = more_is ∙ (ap (λ (h : List Entry). nat_lt (length before) (length h)) same ∙ grind (arith, nat_tests)) in
      let nothing : put_last (may_bump ask.what) more plan ≡ [] = rw (none, and_false (may_bump ask.what)) refl in
      put ∙ (ap (λ (l : List Note). notes ++ l) nothing ∙ (append-nil notes ∙ (is ∙ ap (notes_of airport) (sym same)))))
      (λ (grown : HasGrown airport before call ask.what after).
      let longer : length after ≡ length before + 1 = ap length grown.last ∙ length-append before (record { call = call; command = grown.command } ∷ []) in
      let one : more ≡ true = more_is ∙ grind (arith, nat_tests, longer) in
      let last : put_last (may_bump ask.what) more plan ≡ last_notes airport after =
      rw (one, plan_is) (noted_by grown (may_bump ask.what) refl legal left old) in
      put ∙ (ap (λ (l : List Note). notes ++ l) last ∙ (ap (λ (l : List Note). l ++ last_notes airport after) is ∙ sym (notes_grown grown))))
      (acts_leave airport before call ask after acted acts)

module _ {K : Type 0} (old new : BoardHeld K) (call : ℕ) (ask : Ask) (acted : Acted) (before after : PlanState) (old_is : before ≡ replay old.airport old.history)
    (new_is : after ≡ replay new.airport new.history) (airport : new.airport ≡ old.airport) (acts : ActsAs old.airport old.history call ask acted new.history)
    (plan : IsPlan before) where
  same_airport : after ≡ replay old.airport new.history
  same_airport = new_is ∙ ap (λ (a : AirportParts). replay a new.history) airport

  -- room for the notes of an ask is room for those that it has
  pub room_left : {A : Type 0} (notes : Vec Note A) → HasNoteRoom notes before ask.what → HasNoteRoom notes after ask.what
  room_left notes room bumps =
      let as_many : length after.visits ≡ length before.visits =
      ap (λ (p : PlanState). length p.visits) same_airport
      ∙ (as_many_visits old.airport old.history call ask new.history acted acts (subst IsPlan old_is plan) bumps ∙ ap (λ (p : PlanState). length p.visits) (sym old_is)) in
      subst (λ (n : ℕ). vec_len notes + most_parts * n ≤ vec_capacity notes) (sym as_many) (room bumps)

  -- the notes of a board after an ask
  pub board_noted : (notes room done : List Note) (first second : List Entry) → notes ≡ notes_of old.airport old.history → room ≡ notes
      → IsLegal old.airport old.history → IsLegal new.airport new.history → first ≡ old.history → second ≡ new.history
      → done ≡ room ++ (if may_bump ask.what && nat_lt (length first) (length second) then notes_by after.version after.visits else [])
      → done ≡ notes_of new.airport new.history
  board_noted notes room done first second is same found left first_is second_is put =
      let more : nat_lt (length first) (length second) ≡ nat_lt (length old.history) (length new.history) =
      rw (first_is, second_is) refl in
      noted old.airport old.history call ask new.history acted after (nat_lt (length first) (length second)) room done (same ∙ is) acts found
      (subst (λ (a : AirportParts). IsLegal a new.history) airport left) (subst IsPlan old_is plan) same_airport more put
      ∙ ap (λ (a : AirportParts). notes_of a new.history) (sym airport)

-- room for the notes of what is asked is room for those of the parts that lost their stands
pub room_for_bumped : {A : Type 0} (notes : Vec Note A) (plan : PlanState) (what : What) (bumped : List PartId) → IsPlan plan → bumped ≡ last_bumped plan
    → HasNoteRoom notes plan what → may_bump what ≡ true → vec_len notes + length bumped ≤ vec_capacity notes
room_for_bumped notes plan what bumped is bumped_is room bumps =
    let few = few_bumped plan is in
    let most = room bumps in
    let same : length bumped ≡ length (last_bumped plan) = ap length bumped_is in
    omega arith

-- the notes of a board that is being opened, after one more entry
pub notes_read : (old new : OpeningHeld) (bytes : List ℕ) (before notes : List Note) → new.airport ≡ old.airport
    → IsReadOn old.airport old.history new.history bytes → before ≡ notes_of old.airport old.history
    → notes ≡ before ++ last_notes new.airport new.history → notes ≡ notes_of new.airport new.history
notes_read old new bytes before notes airport read is put =
    let more = subst (λ (h : List Entry). notes_of new.airport h ≡ notes_of new.airport old.history ++ last_notes new.airport h) (sym read.last)
    (notes_push new.airport [] old.history read.entry) in
    let same : before ≡ notes_of new.airport old.history = is ∙ ap (λ (a : AirportParts). notes_of a old.history) (sym airport) in
    put ∙ (ap (λ (l : List Note). l ++ last_notes new.airport new.history) same ∙ sym more)
