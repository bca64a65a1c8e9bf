-- What each step on the table shows the seat that takes it.
use Rattle.std.specs.Prelude.{◌≡◌, ◌≢◌, ℕ, ◌<◌, ◌≤◌, false, List, [], ◌∷◌, length, Option, Some, IfSome}
use Rattle.atomic_table.specs.Table.{Me, Step}
use Rattle.apron_base.specs.Histories.{Every, Rises}
use Rattle.apron_base.specs.Machine.{MachineState}
use Rattle.turn_board.specs.declared.view.Call.{Call}
use Rattle.turn_board.specs.declared.view.Start.{Start}
use Rattle.turn_board.specs.declared.view.View.{View}
use Rattle.turn_board.specs.Rule.{Extends}
use Rattle.turn_board.specs.Totals.{AreBelow, times}
use Rattle.turn_board.specs.Views.{after_act, after_count, after_draw, after_end, after_look, after_take, call_end, run_out}

-- of two calls the later one found no less than the earlier one left
abbrev pub DoNotOverlap : {Entry : Type 0} → List (Call Entry) → Type 0
DoNotOverlap {Entry} calls =
    Every (λ (call : Call Entry). Every (λ (later : Call Entry). call.number < later.number
    → call.left ≤ later.found) calls) calls

module _ {Entry Fixed : Type 0} (number : Entry → ℕ) where
  -- a machine that is taken for a ticket: it has all that the seat had seen; the numbers of its
  -- entries, and of an entry at risk, are lower than the ticket; and no count of the seat's calls
  -- is above its own
  pub record IsMachineTaken (view : View Entry Fixed) (ticket : ℕ)
      (machine : MachineState Entry Fixed) : Type 0 where
    pub extends : Extends number machine.history view.seen view.calls
    pub rises : Rises number 1 ticket machine.history
    pub next : machine.next ≤ ticket
    pub start : (start : Start Fixed)
        → view.start ≡ Some start
        → (machine.fixed ≡ start.fixed) × (start.faults ≤ machine.faults)
    pub faults : Every (λ (call : Call Entry). call.left ≤ machine.faults) view.calls
    pub at_risk : IfSome machine.at_risk (λ entry. number entry < ticket)

-- what a seat knows, and the slots that it holds
abbrev pub Mine : Type 0 → Type 0 → Type 0 → Type 0
Mine M Entry Fixed = Me (Option M) (View Entry Fixed)

module _ {M Entry Fixed : Type 0} where
  -- a draw finds the end of all numbers, or the number that it guessed, which it then has, or
  -- another number
  abbrev pub DrawsNumber : Step (Option M) → Mine M Entry Fixed → ℕ → Mine M Entry Fixed → Type 0
  DrawsNumber step before found after = (found ≡ call_end → after ≡ (run_out before.0, before.1))
      × (found ≢ call_end
      → found ≡ step.first
      → (found < call_end)
      × (after ≡ (after_draw found before.0, before.1))
      × AreBelow found before.0.calls
      × (before.0.exhausted ≡ false))
      × (found ≢ call_end → found ≢ step.first → after ≡ before)

  -- an entry is counted
  abbrev pub CountsEntry : Step (Option M) → Mine M Entry Fixed → ℕ → Mine M Entry Fixed → Type 0
  CountsEntry step before found after = after ≡ (after_count before.0, before.1)

  -- the machine goes back, and the call has ended
  abbrev pub EndsCall : Step (Option M) → Mine M Entry Fixed → ℕ → Mine M Entry Fixed → Type 0
  EndsCall step before found after = after ≡ (after_end before.0, [])

  module _ (state : M → MachineState Entry Fixed) where
    -- the view after the act, with the machine in the slot that is held first
    abbrev pub after_note : View Entry Fixed → List (ℕ × Option M) → View Entry Fixed
    after_note view ((slot, Some machine) ∷ _) = after_act (state machine) view
    after_note view _ = view

    -- what the machine left is noted
    abbrev pub Notes : Step (Option M) → Mine M Entry Fixed → ℕ → Mine M Entry Fixed → Type 0
    Notes step before found after = after ≡ (after_note before.0 before.1, before.1)

    -- a look finds the seat's own number, and it takes the machine; or another one, and nothing
    -- changes
    abbrev pub Takes : (Entry → ℕ) → Step (Option M) → Mine M Entry Fixed → ℕ → Mine M Entry Fixed
        → Type 0
    Takes number step before found after =
        (found ≡ before.0.number
        → (machine : M)
        × (after.0 ≡ after_take (state machine) before.0)
        × (after.1 ≡ (0, Some machine) ∷ before.1)
        × IsMachineTaken number before.0 found (state machine))
        × (found ≢ before.0.number → after ≡ before)

  -- a look after a meeting: the longer history goes on from the shorter one, no number was called
  -- twice, and the counts of the calls do not overlap
  abbrev pub LooksAfterMeeting : (Entry → ℕ) → Step (Option M) → Mine M Entry Fixed → ℕ
      → Mine M Entry Fixed → Type 0
  LooksAfterMeeting number step before found after = (after ≡ (after_look before.0, before.1))
      × (length before.0.told ≤ length before.0.seen
      → Extends number before.0.seen before.0.told before.0.late)
      × ((call : ℕ) → times call before.0.calls ≤ 1) × DoNotOverlap before.0.calls
