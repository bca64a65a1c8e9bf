-- What is known of the plan of a legal history, and of a board after an ask.
use Rattle.std.proofs.Common.{◌≡◌, ◌∙◌, ◌<◌, ◌≤◌, ◌+◌, ◌∷◌, ◌++◌, [], ℕ, List, None, length, ap, sym, subst, arith}
use Rattle.apron_base.proofs.Rising.{rises_more, rises_push}
use Rattle.apron_base.specs.Histories.{Rises}
use Rattle.apron_base.specs.Keeper.{AddsEntry, FailsToAdd, KeeperState}
use Rattle.apron_base.specs.declared.numbers.PartId.{PartId}
use Rattle.apron_rules.specs.declared.parts.AirportParts.{AirportParts}
use Rattle.visit_book.specs.Numbers.{IsNumbered}
use Rattle.plan_core.specs.PlanState.{PlanState, empty_plan}
use Rattle.desk_asks.specs.Commands.{IsCommandOf}
use Rattle.desk_asks.specs.declared.asks.Entry.{Entry}
use Rattle.entry_bytes.specs.Entries.{SpellsEntry}
use Rattle.history_core.specs.AtRisk.{entry_read}
use Rattle.history_core.specs.Board.{BoardHeld, IsBoard}
use Rattle.history_core.specs.Bumped.{last_bumped}
use Rattle.history_core.specs.History.{IsLegal, call_limit, call_of, replay}
use Rattle.history_core.specs.Acceptance.{TakenAs, accepted, after_command}
use Rattle.history_core.proofs.Keepers.{kept_added, kept_failed, kept_read, kept_ready}
use Rattle.history_core.proofs.Legal.{legal_counted}
use Rattle.history_core.proofs.Replay.{after-push, replay-airport, taken_numbered, taken_push}

module _ (airport : AirportParts) (history : List Entry) (plan : PlanState) (is : plan ≡ replay airport history) where
  -- the plan is of its airport
  pub plan_airport : plan.airport ≡ airport
  plan_airport = ap (λ (p : PlanState). p.airport) is ∙ replay-airport airport history

  -- its version is the number of the entries
  pub plan_version : IsLegal airport history → plan.version ≡ length history
  plan_version legal = ap (λ (p : PlanState). p.version) is ∙ legal_counted airport history legal

  -- its visits are numbered in order
  pub plan_numbered : IsLegal airport history → IsNumbered plan.visits
  plan_numbered legal = subst (λ (p : PlanState). IsNumbered p.visits) (sym is) (taken_numbered (empty_plan airport) 0 history legal.taken tt)

-- a legal history with one more entry, whose command is accepted and whose call comes after the
-- others
pub legal_pushed : (airport : AirportParts) (history : List Entry) (next : ℕ) (entry : Entry) → IsLegal airport history → Rises call_of 1 next history
    → IsCommandOf airport entry.command → TakenAs (replay airport history) (length history) entry.command accepted → next ≤ entry.call → entry.call < call_limit
    → IsLegal airport (history ++ entry ∷ [])
legal_pushed airport history next entry legal numbers valid steps up last = record {
  taken = taken_push (empty_plan airport) 0 history entry legal.taken valid
      (subst (λ (n : ℕ). TakenAs (replay airport history) n entry.command accepted) (omega arith) steps);
  numbers = rises_push call_of 1 next call_limit history entry numbers up last;
}

-- the next call may have a later number
pub board_called : {K : Type 0} (plan : PlanState) (bumped : List PartId) (keeper : KeeperState) (board : BoardHeld K) (later : ℕ) → IsBoard plan bumped keeper board → board.next ≤ later
    → later ≤ call_limit → IsBoard plan bumped keeper (record board { next = later })
board_called plan bumped keeper board later h up few = record {
  legal = h.legal;
  plan_is = h.plan_is;
  bumped_is = h.bumped_is;
  numbers = rises_more call_of 1 board.next later board.history h.numbers up;
  calls = few;
  kept = h.kept;
}

-- an entry that the board can have next
pub record IsNext {K : Type 0} (board : BoardHeld K) (entry : Entry) : Type 0 where
  pub valid : IsCommandOf board.airport entry.command
  pub steps : TakenAs (replay board.airport board.history) (length board.history) entry.command accepted
  pub up : board.next ≤ entry.call
  pub last : entry.call < call_limit

-- a board after one more entry, by this call, which its keeper has
pub board_pushed : {K : Type 0} (plan new : PlanState) (bumped lost : List PartId) (first before after : KeeperState) (board : BoardHeld K) (keeper : K)
    (history : List Entry) (entry : Entry) (bytes : List ℕ)
    → IsBoard plan bumped first board → IsNext board entry → SpellsEntry board.airport bytes entry → before ≡ record first { room = before.room }
    → AddsEntry before after bytes
    → history ≡ board.history ++ entry ∷ [] → new ≡ after_command (replay board.airport board.history) entry.command
    → lost ≡ last_bumped new
    → IsBoard new lost after (record { keeper = keeper; airport = board.airport; history = history; at_risk = entry_read board.airport after.at_risk; next = entry.call + 1 })
board_pushed plan new bumped lost first before after board keeper history entry bytes h next spells ready adds history_is is lost_is =
    let last : entry.call < call_limit = next.last in
    subst (λ (es : List Entry). IsBoard new lost after (record { keeper = keeper; airport = board.airport; history = es; at_risk = entry_read board.airport after.at_risk; next = entry.call + 1 })) (sym history_is)
    (record {
      legal = legal_pushed board.airport board.history board.next entry h.legal h.numbers next.valid next.steps next.up next.last;
      plan_is = is ∙ sym (after-push (empty_plan board.airport) board.history entry);
      bumped_is = lost_is;
      numbers = rises_push call_of 1 board.next (entry.call + 1) board.history entry h.numbers next.up (omega arith);
      calls = omega arith;
      kept = kept_read board.airport (board.history ++ entry ∷ []) None after
          (kept_added board.airport board.history board.at_risk before after entry (kept_ready board.airport board.history board.at_risk first before h.kept ready) spells.0
          (subst (AddsEntry before after) spells.1 adds));
    })

-- a board after an ask whose append failed
pub board_failed : {K : Type 0} (plan same : PlanState) (bumped : List PartId) (first before after : KeeperState) (board : BoardHeld K) (keeper : K)
    (history : List Entry) (entry : Entry) (bytes : List ℕ)
    → IsBoard plan bumped first board → IsNext board entry → SpellsEntry board.airport bytes entry → before ≡ record first { room = before.room }
    → FailsToAdd before after bytes → history ≡ board.history → same ≡ plan
    → IsBoard same bumped after (record { keeper = keeper; airport = board.airport; history = history; at_risk = entry_read board.airport after.at_risk; next = board.next })
board_failed plan same bumped first before after board keeper history entry bytes h next spells ready fails history_is plan_is =
    subst (λ (es : List Entry). IsBoard same bumped after (record { keeper = keeper; airport = board.airport; history = es; at_risk = entry_read board.airport after.at_risk; next = board.next })) (sym history_is)
    (record {
      legal = h.legal;
      plan_is = plan_is ∙ h.plan_is;
      bumped_is = h.bumped_is ∙ ap last_bumped (sym plan_is);
      numbers = h.numbers;
      calls = h.calls;
      kept = kept_failed board.airport board.history board.at_risk before after entry (kept_ready board.airport board.history board.at_risk first before h.kept ready) spells.0
          (legal_pushed board.airport board.history board.next entry h.legal h.numbers next.valid next.steps next.up next.last) (subst (FailsToAdd before after) spells.1 fails);
    })
