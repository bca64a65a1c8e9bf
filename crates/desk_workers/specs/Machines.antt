-- A board at which desks take turns.
use Rattle.std.specs.Prelude.{◌≡◌, ◌≢◌, ◌↔◌, ℕ, true, List}
use Rattle.apron_base.specs.Machine.{MachineState}
use Rattle.apron_base.specs.declared.outside.Acted.{Acted}
use Rattle.apron_base.specs.declared.outside.Acted.TheVariants.{Memory as NoMemory, Spent}
use Rattle.apron_rules.specs.declared.parts.AirportParts.{AirportParts}
use Rattle.desk_asks.specs.declared.asks.Ask.{Ask}
use Rattle.desk_asks.specs.declared.asks.Entry.{Entry}
use Rattle.desk_asks.specs.declared.asks.What.TheVariants.{Change}
use Rattle.history_core.specs.Answer.{ActsLegally}
use Rattle.history_core.specs.History.{call_of}
use Rattle.turn_board.specs.Board.{AskAndAnswer, GotTurn, SeatState}
use Rattle.watch_list.specs.declared.watch_asks.WatchAsk.{WatchAsk}
use Rattle.watch_list.specs.declared.watch_asks.WatchAsk.TheVariants.{Feed}
use Rattle.desk_http.specs.declared.port.FeedAsk.{FeedAsk}

-- the entry is of the command that is asked
abbrev pub AddsAsked : Ask → Entry → Type 0
AddsAsked ask entry = ask.what ≡ Change entry.command

-- how a board with watches is asked for a feed
abbrev pub asks_feed : FeedAsk → WatchAsk
asks_feed ask = Feed ask.seen ask.feed.watch ask.feed.after

-- What an ask does at a seat of a machine: it is answered `Spent` exactly if the numbers have run
-- out, and then only the seat's note of that changed; otherwise it got its turn.
pub record AsksAt {M Entry Fixed Asks : Type 0} (state : M → MachineState Entry Fixed)
    (number : Entry → ℕ) (adds : Asks → Entry → Type 0)
    (answers : Fixed → List Entry → ℕ → Asks → Acted → List Entry → Type 0)
    (before : SeatState Entry Fixed) (asked : AskAndAnswer Asks)
    (after : SeatState Entry Fixed) : Type 0 where
  pub spent : asked.answer ≡ Spent ↔ (after.exhausted ≡ true)
  pub unasked : asked.answer ≡ Spent → after ≡ record before { exhausted = true }
  pub answered : asked.answer ≢ Spent → GotTurn state number adds answers before asked after

-- what a desk's ask does at a seat, whatever is around the board: it is answered as by a board with
-- this airport
abbrev pub AsksPlainly : {M Fixed : Type 0} → (M → MachineState Entry Fixed) → (Fixed → AirportParts)
    → SeatState Entry Fixed → AskAndAnswer Ask → SeatState Entry Fixed → Type 0
AsksPlainly state airport before asked after =
    AsksAt state call_of AddsAsked (λ fixed. ActsLegally (airport fixed)) before asked after

-- the answer to an ask that could not be copied, by the answer to the call that was made in its
-- place
abbrev pub answer_if_uncopied : Acted → Acted
answer_if_uncopied Spent = Spent
answer_if_uncopied answer = NoMemory
