-- What a machine that is a board does for a desk's ask is what a board does.
use Rattle.std.proofs.Common.{◌≡◌, ℕ, Bool, List, inl, inr, subst}
use Rattle.apron_base.specs.Machine.{ActsAtRisk, MachineState, Standing}
use Rattle.apron_base.specs.declared.outside.Acted.{Acted}
use Rattle.apron_rules.specs.declared.parts.AirportParts.{AirportParts}
use Rattle.desk_asks.specs.declared.asks.Ask.{Ask}
use Rattle.desk_asks.specs.declared.asks.Entry.{Entry}
use Rattle.history_core.specs.Answer.{ActsLegally}
use Rattle.history_core.specs.History.{call_of}
use Rattle.turn_board.specs.Board.{GotTurn, SeatState}
use Rattle.desk_workers.specs.Machines.{AddsAsked, AsksAt, AsksPlainly}

-- what is at risk by one relation is so by a wider one
pub risks_wider : (adds others : Entry → Type 0) (failed : Bool) (before after : Standing Entry) → ((entry : Entry) → adds entry → others entry)
    → ActsAtRisk adds failed before after → ActsAtRisk others failed before after
risks_wider adds others failed before after wider (inl none) = inl none
risks_wider adds others failed before after wider (inr (inl same)) = inr (inl same)
risks_wider adds others failed before after wider (inr (inr (is, (entry, put, added)))) = inr (inr (is, (entry, put, wider entry added)))

module _ {M Fixed Asks : Type 0} (state : M → MachineState Entry Fixed) (airport : Fixed → AirportParts) (adds : Asks → Entry → Type 0)
    (answers : Fixed → List Entry → ℕ → Asks → Acted → List Entry → Type 0) (own : Asks) (ask : Ask)
    (added : (entry : Entry) → adds own entry → AddsAsked ask entry)
    (acts : (fixed : Fixed) (before : List Entry) (call : ℕ) (answer : Acted) (after : List Entry) → answers fixed before call own answer after → ActsLegally (airport fixed) before call ask answer after) where
  -- a call that got its turn
  got_plain : (before after : SeatState Entry Fixed) (answer : Acted) → GotTurn state call_of adds answers before (record { ask = own; answer = answer }) after
      → GotTurn state call_of AddsAsked (λ fixed. ActsLegally (airport fixed)) before (record { ask = ask; answer = answer }) after
  got_plain before after answer got = record {
    found = got.found;
    left = got.left;
    ticket = got.ticket;
    note = got.note;
    new = got.new;
    end = got.end;
    extends = got.extends;
    rises = got.rises;
    next = got.next;
    start = got.start;
    faults = got.faults;
    older = got.older;
    at_risk = risks_wider (λ entry. (call_of entry ≡ got.ticket) × adds own entry) (λ entry. (call_of entry ≡ got.ticket) × AddsAsked ask entry) _ _ _
        (λ entry put. (put.0, added entry put.1)) got.at_risk;
    acts = got.acts;
    answered = acts (state got.found).fixed (state got.found).history got.ticket answer (state got.left).history got.answered;
    seen = got.seen;
    calls = got.calls;
  }

  -- an ask of a machine whose numbers are those of calls
  pub asks_plain : (number : Entry → ℕ) (before after : SeatState Entry Fixed) (answer : Acted) → number ≡ call_of
      → AsksAt state number adds answers before (record { ask = own; answer = answer }) after → AsksPlainly state airport before (record { ask = ask; answer = answer }) after
  asks_plain number before after answer same asks =
      let calls : AsksAt state call_of adds answers before (record { ask = own; answer = answer }) after =
      subst (λ (n : Entry → ℕ). AsksAt state n adds answers before (record { ask = own; answer = answer }) after) same asks in
      record { spent = calls.spent; unasked = calls.unasked; answered = λ some. got_plain before after answer (calls.answered some) }
