-- A feed at a seat, as its port tells it.
use Rattle.std.proofs.Common.{◌≡◌, ◌≢◌, ◌∙◌, ℕ, false, List, refl, sym, ap, subst}
use Rattle.apron_base.specs.Machine.{MachineState, is_fault}
use Rattle.apron_base.specs.declared.outside.Acted.{Acted}
use Rattle.apron_base.specs.declared.outside.Acted.TheVariants.{Reply as Replied, Memory as NoMemory, Fault, Spent}
use Rattle.apron_rules.specs.declared.parts.AirportParts.{AirportParts}
use Rattle.desk_asks.specs.declared.asks.Entry.{Entry}
use Rattle.history_core.specs.Answer.{no_memory}
use Rattle.history_core.specs.History.{IsLegal, call_of}
use Rattle.turn_board.specs.Board.{GotTurn, SeatState, Sits, TurnBoardState}
use Rattle.desk_http.specs.FeedPorts.{ShowsFeed, version_ask}
use Rattle.desk_http.specs.declared.port.FeedAsk.{FeedAsk}
use Rattle.desk_workers.specs.Feeds.{FeedTurns, IsLegalFeed}
use Rattle.desk_workers.specs.Machines.{AsksAt}
use Rattle.desk_workers.specs.Seats.{SeatTurn, port_of}
use Rattle.desk_workers.proofs.Asking.{not_true, turn_of}

module _ {M Fixed Asks : Type 0} (state : M → MachineState Entry Fixed) (airport : Fixed → AirportParts) (text : Fixed → FeedAsk → List Entry → List ℕ)
    (adds : Asks → Entry → Type 0) (answers : Fixed → List Entry → ℕ → Asks → Acted → List Entry → Type 0) (own : Asks) (ask : FeedAsk)
    (none : (entry : Entry) → adds own entry → ⊥)
    (feeds : (fixed : Fixed) (before : List Entry) (call : ℕ) (answer : Acted) (after : List Entry)
    → answers fixed before call own answer after → IsLegalFeed (airport fixed) (text fixed ask) before answer after)
    (board : TurnBoardState Fixed) (before after : SeatState Entry Fixed) (sits : Sits board before) where
  -- what a call that got its turn was answered, at the airport of the board
  fed : (answer : Acted) (got : GotTurn state call_of adds answers before (record { ask = own; answer = answer }) after)
      → IsLegalFeed (airport board.start.fixed) (text board.start.fixed ask) (state got.found).history answer (state got.left).history
  fed answer got =
      subst (λ (at : Fixed). IsLegalFeed (airport at) (text at ask) (state got.found).history answer (state got.left).history) (got.start board.start sits.start).0
      (feeds (state got.found).fixed (state got.found).history got.ticket answer (state got.left).history got.answered)

  -- the turn of a feed that did not fail, at the history that it found
  fed_turn : (answer : Acted) → is_fault answer ≡ false → answer ≢ Spent
      → AsksAt state call_of adds answers before (record { ask = own; answer = answer }) after
      → (turn : SeatTurn (airport board.start.fixed) (port_of (record { board = board; seat = before })) version_ask no_memory (port_of (record { board = board; seat = after })))
      × ((bytes : List ℕ) → answer ≡ Replied bytes → bytes ≡ text board.start.fixed ask turn.0.history)
  fed_turn answer fine some asks =
      let got = asks.answered some in
      let is = fed answer got in
      let same : after.seen ≡ (state got.found).history = got.seen ∙ is.left in
      let turn = turn_of state (airport board.start.fixed) board adds answers before after own version_ask answer no_memory (λ entry added. absurd (none entry added))
      (not_true after.exhausted (λ spent. some (asks.spent.1 spent))) got fine is.found (subst (IsLegal (airport board.start.fixed)) (sym same) is.found) same in
      (turn.0, λ bytes replied. is.fed bytes replied ∙ ap (text board.start.fixed ask) (sym turn.1))

  -- what a seat shows of a feed
  shows : (answer : Acted) → AsksAt state call_of adds answers before (record { ask = own; answer = answer }) after
      → ShowsFeed (FeedTurns (text board.start.fixed) (airport board.start.fixed)) (port_of (record { board = board; seat = before })) ask answer
      (port_of (record { board = board; seat = after }))
  shows (Replied bytes) asks = let turn = fed_turn (Replied bytes) refl (λ e. cc) asks in (record { turn = turn.0.0; gives = turn.1 bytes refl }, turn.0.1)
  shows NoMemory asks = let turn = fed_turn NoMemory refl (λ e. cc) asks in (record { turn = turn.0.0; gives = tt }, turn.0.1)
  shows Fault asks = absurd ((fed Fault (asks.answered (λ e. cc))).fine refl)
  shows Spent asks = ap (λ (seat : SeatState Entry Fixed). port_of (record { board = board; seat = seat })) (asks.unasked refl)

  -- the same of a machine whose numbers are those of calls
  pub seat_feeds : (number : Entry → ℕ) (answer : Acted) → number ≡ call_of → AsksAt state number adds answers before (record { ask = own; answer = answer }) after
      → ShowsFeed (FeedTurns (text board.start.fixed) (airport board.start.fixed)) (port_of (record { board = board; seat = before })) ask answer
      (port_of (record { board = board; seat = after }))
  seat_feeds number answer same asks =
      shows answer (subst (λ (n : Entry → ℕ). AsksAt state n adds answers before (record { ask = own; answer = answer }) after) same asks)
