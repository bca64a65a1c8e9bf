-- Histories that are read entry for entry.
use Rattle.std.proofs.Common.{◌≡◌, ◌≢◌, ◌∙◌, ◌<◌, ◌≤◌, ◌+◌, ◌∷◌, ◌++◌, [], ℕ, List, Option, take, drop, drop-cons, get_or, suc, None, IfSome, length, refl, ap, sym, subst, arith}
use Rattle.std.proofs.lemmas.List.{take-append-drop}
use Rattle.apron_base.specs.Histories.{Rises}
use Rattle.apron_base.specs.Keeper.{KeeperState, with_last}
use Rattle.apron_base.specs.declared.numbers.PartId.{PartId}
use Rattle.apron_rules.specs.declared.parts.AirportParts.{AirportParts}
use Rattle.plan_core.specs.PlanState.{PlanState, empty_plan}
use Rattle.desk_asks.specs.Commands.{IsCommandOf}
use Rattle.desk_asks.specs.declared.asks.Entry.{Entry}
use Rattle.desk_words.specs.declared.replies.Reply.{Reply}
use Rattle.entry_bytes.specs.declared.faults.EntryFault.{EntryFault}
use Rattle.entry_bytes.specs.declared.faults.EntryFault.TheVariants as unread
use Rattle.history_core.specs.declared.opening.OpenFault.{OpenFault}
use Rattle.history_core.specs.declared.opening.OpenFault.TheVariants.{BadEntry, WrongEntry, Memory}
use Rattle.entry_bytes.specs.Entries.{IsEntryOf, SpellsNone}
use Rattle.history_core.specs.Board.{BoardHeld, IsBoard, IsKeeperOf, Spells, entry_texts}
use Rattle.history_core.specs.Bumped.{bumped_in, last_bumped}
use Rattle.history_core.specs.History.{AreTakenFrom, IsLegal, after_entries, call_limit, call_of, replay}
use Rattle.history_core.specs.Opening.{CannotOpen, IsNotNext, IsOpening, IsReplayed, OpeningHeld, next_from, not_read}
use Rattle.history_core.specs.Acceptance.{IsTaken, TakenAs, accepted, after_command, made_told}
use Rattle.history_core.specs.Taking.{IsAnswered}
use Rattle.history_core.proofs.Boards.{legal_pushed, plan_numbered, plan_version}
use Rattle.history_core.proofs.Bumps.{told_bumped}
use Rattle.history_core.proofs.Keepers.{every_push, kept_opened}
use Rattle.history_core.proofs.Replay.{after-push}
use Rattle.history_core.proofs.Takings.{one_step}

-- the number after one more entry
next_push : (low : ℕ) (history : List Entry) (entry : Entry) → next_from low (history ++ entry ∷ []) ≡ entry.call + 1
next_push low [] entry = refl
next_push low (e ∷ history) entry = next_push (e.call + 1) history entry

-- the numbers of a history are below that of the next call, which is greater than the last
pub next_rises : (low high : ℕ) (history : List Entry) → Rises call_of low high history → Rises call_of low (next_from low history) history
next_rises low high [] rises = omega arith
next_rises low high (e ∷ history) rises = (rises.0, next_rises (e.call + 1) high history rises.1)

pub next_within : (low high : ℕ) (history : List Entry) → Rises call_of low high history → next_from low history ≤ high
next_within low high [] rises = rises
next_within low high (e ∷ history) rises = next_within (e.call + 1) high history rises.1

next_above : (low high : ℕ) (history : List Entry) (entry : Entry) → Rises call_of low high (history ++ entry ∷ []) → next_from low history ≤ entry.call
next_above low high [] entry rises = rises.0
next_above low high (e ∷ history) entry rises = next_above (e.call + 1) high history entry rises.1

last_taken : (plan : PlanState) (count : ℕ) (history : List Entry) (entry : Entry) → AreTakenFrom plan count (history ++ entry ∷ [])
    → TakenAs (after_entries plan history) (count + length history) entry.command accepted
last_taken plan count [] entry taken =
    let same : count ≡ count + length {A = Entry} [] = omega arith in subst (λ (n : ℕ). TakenAs plan n entry.command accepted) same taken.1
last_taken plan count (e ∷ history) entry taken =
    let counted : count + 1 + length history ≡ count + length (e ∷ history) = omega arith in
    subst (λ (n : ℕ). TakenAs (after_entries plan (e ∷ history)) n entry.command accepted) counted
    (last_taken (after_command plan e.command) (count + 1) history entry taken.2)

-- a call that does not come after those of the history
pub called_too_early : (airport : AirportParts) (history : List Entry) (entry : Entry) → entry.call < next_from 1 history → ¬ (IsLegal airport (with_last entry history))
called_too_early airport history entry early legal =
    let above : next_from 1 history ≤ entry.call = next_above 1 call_limit history entry legal.numbers in omega arith

-- a command that is not accepted is not the next of the history
pub answered_is_not_next : (airport : AirportParts) (plan : PlanState) (history : List Entry) (next : ℕ) (entry : Entry) (reply : Reply)
    → IsReplayed airport plan history next → IsAnswered plan (length history) entry.command reply → ¬ (IsLegal airport (with_last entry history))
answered_is_not_next airport plan history next entry reply past answered legal =
    let taken : TakenAs (replay airport history) (0 + length history) entry.command accepted = last_taken (empty_plan airport) 0 history entry legal.taken in
    let counted : 0 + length history ≡ length history = omega arith in
    let steps : TakenAs (replay airport history) (length history) entry.command accepted =
    subst (λ (n : ℕ). TakenAs (replay airport history) n entry.command accepted) counted taken in
    let at_plan : TakenAs plan (length history) entry.command accepted =
    subst (λ (p : PlanState). TakenAs p (length history) entry.command accepted) (sym past.plan_is) steps in
    answered.other
    (one_step plan (length history) entry.command answered.stepped accepted (plan_numbered airport history plan past.plan_is past.legal) answered.steps at_plan)

-- a history that was read on by one entry
pub past_pushed : (airport : AirportParts) (plan new : PlanState) (history : List Entry) (next : ℕ) (entry : Entry) → IsReplayed airport plan history next
    → IsCommandOf airport entry.command → TakenAs plan (length history) entry.command accepted → next ≤ entry.call → entry.call < call_limit
    → new ≡ after_command plan entry.command → IsReplayed airport new (with_last entry history) (entry.call + 1)
past_pushed airport plan new history next entry past valid steps up last is = record {
  legal = legal_pushed airport history (next_from 1 history) entry past.legal (next_rises 1 call_limit history (let legal : IsLegal airport history = past.legal in legal.numbers))
      valid (subst (λ (p : PlanState). TakenAs p (length history) entry.command accepted) past.plan_is steps)
      (subst (λ (n : ℕ). n ≤ entry.call) past.next_is up) last;
  plan_is = is ∙ (ap (λ (p : PlanState). after_command p entry.command) past.plan_is ∙ sym (after-push (empty_plan airport) history entry));
  next_is = sym (next_push 1 history entry);
}

-- no entry was read yet
pub opening_begun : (airport : AirportParts) (plan : PlanState) → plan ≡ empty_plan airport
    → IsOpening plan [] 1 (record { airport = airport; history = [] })
opening_begun airport plan is = record {
  past = record { legal = record { taken = tt; numbers = omega arith }; plan_is = is; next_is = refl };
  each = tt;
  bumped_is = sym (ap last_bumped is);
}

-- one more entry was read
pub opening_pushed : (opening : OpeningHeld) (plan new : PlanState) (bumped lost : List PartId) (next : ℕ) (entry : Entry) (history : List Entry)
    → IsOpening plan bumped next opening → IsEntryOf opening.airport entry → TakenAs plan (length opening.history) entry.command accepted
    → next ≤ entry.call → new ≡ after_command plan entry.command → history ≡ with_last entry opening.history
    → lost ≡ bumped_in (made_told plan (plan.version + 1) entry.command)
    → IsOpening new lost (entry.call + 1) (record { airport = opening.airport; history = history })
opening_pushed opening plan new bumped lost next entry history h entry_is steps up is history_is lost_is =
    let airport = opening.airport in
    let before = opening.history in
    let past : IsReplayed airport plan before next = h.past in
    let made = told_bumped airport before entry.command past.legal
    (subst (λ (p : PlanState). IsTaken p entry.command) past.plan_is steps.0) in
    let at_plan : bumped_in (made_told plan (plan.version + 1) entry.command) ≡ last_bumped (after_command plan entry.command) =
    subst (λ (p : PlanState). bumped_in (made_told p (p.version + 1) entry.command) ≡ last_bumped (after_command p entry.command)) (sym past.plan_is) made in
    subst (λ (es : List Entry). IsOpening new lost (entry.call + 1) (record { airport = airport; history = es })) (sym history_is) (record {
      past = past_pushed airport plan new before next entry past entry_is.command steps up entry_is.call is;
      each = every_push (IsEntryOf airport) before entry h.each entry_is;
      bumped_is = lost_is ∙ (at_plan ∙ ap last_bumped (sym is));
    })

-- the number that the next entry would have
pub past_counted : (airport : AirportParts) (plan : PlanState) (history : List Entry) (next version : ℕ) → IsReplayed airport plan history next → version ≡ plan.version
    → version + 1 ≡ length history + 1
past_counted airport plan history next version past is = ap (λ n. n + 1) (is ∙ plan_version airport history plan past.plan_is past.legal)

-- bytes that are not read are not the next entry
pub not_read_is_not_next : (airport : AirportParts) (before : List Entry) (bytes : List ℕ) (number : ℕ) (fault : EntryFault)
    → number ≡ length before + 1 → (fault ≢ unread.Memory → SpellsNone airport bytes) → IsNotNext airport before bytes (not_read number fault)
not_read_is_not_next airport before bytes number unread.Memory counted none = tt
not_read_is_not_next airport before bytes number unread.BadKind counted none = (counted, none (λ memory. absurd (cc)))
not_read_is_not_next airport before bytes number (unread.BadField at) counted none = (counted, none (λ memory. absurd (cc)))
not_read_is_not_next airport before bytes number (unread.TrailingBytes at) counted none = (counted, none (λ memory. absurd (cc)))

-- the first bytes that are not the next entry
pub stops_at : (airport : AirportParts) (entries front : List (List ℕ)) (bytes : List ℕ) (back : List (List ℕ)) (before : List Entry) (fault : OpenFault)
    → entries ≡ front ++ bytes ∷ back → Spells airport front before → IsLegal airport before → IsNotNext airport before bytes fault
    → CannotOpen airport entries fault
stops_at airport entries front bytes back before (BadEntry number) is spells legal why =
    record { front = front; bytes = bytes; back = back; is = is; before = before; spells = spells; legal = legal; why = why }
stops_at airport entries front bytes back before (WrongEntry number) is spells legal why =
    record { front = front; bytes = bytes; back = back; is = is; before = before; spells = spells; legal = legal; why = why }
stops_at airport entries front bytes back before Memory is spells legal why = tt

-- the same, after what was read so far
pub stops_there : (opening : OpeningHeld) (plan : PlanState) (bumped : List PartId) (next : ℕ) (bytes : List ℕ) (fault : OpenFault)
    → IsOpening plan bumped next opening → IsNotNext opening.airport opening.history bytes fault → (back : List (List ℕ))
    → CannotOpen opening.airport (entry_texts opening.history ++ bytes ∷ back) fault
stops_there opening plan bumped next bytes fault h why back =
    let past : IsReplayed opening.airport plan opening.history next = h.past in
    stops_at opening.airport (entry_texts opening.history ++ bytes ∷ back) (entry_texts opening.history) bytes back opening.history fault refl
    (refl, h.each) past.legal why

-- the bytes at a place, with those before and after them
pub parted_at : (entries : List (List ℕ)) (place : ℕ) (bytes : List ℕ) → place < length entries → bytes ≡ get_or entries place bytes
    → entries ≡ take place entries ++ bytes ∷ drop (suc place) entries
parted_at entries place bytes within is =
    sym (take-append-drop place entries) ∙ ap (λ (rest : List (List ℕ)). take place entries ++ rest)
    (drop-cons entries place bytes within ∙ ap (λ (b : List ℕ). b ∷ drop (suc place) entries) (sym is))

-- bytes of these entries that are not the next one, after all before them were read
pub stops_among : (airport : AirportParts) (entries : List (List ℕ)) (opening : OpeningHeld) (place : ℕ) (bytes item : List ℕ) (fault : OpenFault)
    → opening.airport ≡ airport → take place entries ≡ entry_texts opening.history → bytes ≡ item → place < length entries → item ≡ get_or entries place item
    → ((back : List (List ℕ)) → CannotOpen opening.airport (entry_texts opening.history ++ bytes ∷ back) fault) → CannotOpen airport entries fault
stops_among airport entries opening place bytes item fault airport_is front bytes_are within is stops =
    let back = drop (suc place) entries in
    let texts : entries ≡ entry_texts opening.history ++ bytes ∷ back = parted_at entries place item within is ∙ rw (front, bytes_are) refl in
    subst (λ (a : AirportParts). CannotOpen a entries fault) airport_is
    (subst (λ (es : List (List ℕ)). CannotOpen opening.airport es fault) (sym texts) (stops back))

-- a board over a keeper that was just opened
pub board_opened : {K : Type 0} (plan : PlanState) (bumped : List PartId) (keeper : KeeperState) (board : BoardHeld K)
    → IsOpening plan bumped board.next (record { airport = board.airport; history = board.history })
    → IfSome keeper.entries (λ es. es ≡ entry_texts board.history) → keeper.number ≡ length (entry_texts board.history) → keeper.at_risk ≡ None → board.at_risk ≡ None
    → IsBoard plan bumped keeper board
board_opened plan bumped keeper board h entries number none safe =
    let past : IsReplayed board.airport plan board.history board.next = h.past in
    let legal : IsLegal board.airport board.history = past.legal in
    let numbers = next_rises 1 call_limit board.history legal.numbers in
    let within = next_within 1 call_limit board.history legal.numbers in
    record {
      legal = legal;
      plan_is = past.plan_is;
      bumped_is = h.bumped_is;
      numbers = subst (λ (n : ℕ). Rises call_of 1 n board.history) (sym past.next_is) numbers;
      calls = subst (λ (n : ℕ). n ≤ call_limit) (sym past.next_is) within;
      kept = subst (λ (risk : Option Entry). IsKeeperOf board.airport board.history risk keeper) (sym safe) (kept_opened board.airport board.history keeper entries number none h.each);
    }
