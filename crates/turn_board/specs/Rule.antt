-- The rule of the turns: what holds of the words, the slot and all seats between any two steps.
use Rattle.std.specs.Prelude.{◌≡◌, ◌⊎◌, ℕ, ◌+◌, ◌<◌, ◌≤◌, true, List, [], ◌∷◌, ◌++◌, length, Option, Some, IfSome}
use mathlib.Core.Option.{some, none}
use mathlib.Core.Option as maybe
use lib.ListN.{get_elem?}
use Rattle.atomic_table.specs.Table.{State}
use Rattle.apron_base.specs.Histories.{Every, Rises}
use Rattle.apron_base.specs.Machine.{MachineState}
use Rattle.turn_board.specs.declared.view.Call.{Call}
use Rattle.turn_board.specs.declared.view.Stage.TheVariants.{Idle}
use Rattle.turn_board.specs.declared.view.View.{View}
use Rattle.turn_board.specs.Totals.{AreBelow, below, total}
use Rattle.turn_board.specs.Views.{acted_count, all_shares, call_end, count_of_call, has_acted, has_turn, in_flight, may_owe, owes_of, risen_of, share_of, start_of, turn_of}

-- what the words say, and the longest history that a seat has seen: the next ticket, the ticket
-- that is served, and how many entries are counted
pub record TurnState (Entry : Type 0) : Type 0 where
  pub ticket : ℕ
  pub serving : ℕ
  pub count : ℕ
  pub longest : List Entry

module _ {Entry : Type 0} (number : Entry → ℕ) where
  -- the last entry has the number of this call
  abbrev pub LastEntryIs : ℕ → List Entry → Type 0
  LastEntryIs call history =
      (front : List Entry) × (last : Entry) × (history ≡ front ++ last ∷ []) × (number last ≡ call)

  -- a history goes on from what was seen, and each entry that was not seen has a number above those
  -- of these calls
  pub record Extends (history seen : List Entry) (calls : List (Call Entry)) : Type 0 where
    pub rest : List Entry
    pub is : history ≡ seen ++ rest
    pub later : Every (λ (call : Call Entry). Every (λ entry. call.number < number entry) rest)
        calls

  -- an entry that the call in flight put at risk
  abbrev pub IsNewAtRisk : {Fixed : Type 0} → View Entry Fixed → Entry → Type 0
  IsNewAtRisk view entry = (number entry ≡ view.number) × Rises number 1 (number entry) view.seen

-- a machine at home has the longest history, its next call is served or waited for, and its fixed
-- part is that of the origin
pub record IsHome {Entry Fixed : Type 0} (origin : MachineState Entry Fixed) (serving : ℕ)
    (longest : List Entry) (machine : MachineState Entry Fixed) : Type 0 where
  pub history : machine.history ≡ longest
  pub next : machine.next ≤ serving
  pub fixed : machine.fixed ≡ origin.fixed

module _ {M Entry Fixed : Type 0} where
  -- the one seat that has its turn holds the slot
  abbrev pub IsOut : List (maybe.Option (Option M)) → List (View Entry Fixed) → Type 0
  IsOut homes views = (homes ≡ none ∷ []) × (total turn_of views ≡ 1)

module _ {M Entry Fixed : Type 0} (state : M → MachineState Entry Fixed)
    (origin : MachineState Entry Fixed) where
  -- the machine is in its slot, and no seat has its turn
  abbrev pub AtHome : ℕ → List Entry → List (maybe.Option (Option M)) → List (View Entry Fixed)
      → Type 0
  AtHome serving longest homes views =
      (machine : M)
      × (homes ≡ some (Some machine) ∷ [])
      × (total turn_of views ≡ 0)
      × IsHome origin serving longest (state machine)

  -- what the ended calls found and left: along their numbers no count falls, and none is below the
  -- first one. That of the machine at home, which the next call finds, is the first one and what
  -- the calls raised it by.
  pub record AreFaults (serving : ℕ) (homes : List (maybe.Option (Option M)))
      (views : List (View Entry Fixed)) : Type 0 where
    pub found : ℕ → ℕ
    pub left : ℕ → ℕ
    pub top : ℕ
    pub rose : top ≡ origin.faults + total risen_of views
    pub each : (call : ℕ)
        → call < serving
        → (origin.faults ≤ found call) × (found call ≤ left call) × (left call ≤ top)
    pub order : (call later : ℕ) → call < later → later < serving → left call ≤ found later
    pub calls : (seat : ℕ) (view : View Entry Fixed) → get_elem? views seat ≡ some view
        → Every (λ (call : Call Entry). (call.number < serving)
        × (call.found ≡ found call.number)
        × (call.left ≡ left call.number)) view.calls
    pub turn : (seat : ℕ) (view : View Entry Fixed) → get_elem? views seat ≡ some view
        → (0 < has_turn view.stage → view.found ≡ top)
        × (0 < has_acted view.stage → view.found ≤ view.left)
    pub home : (machine : M) → homes ≡ some (Some machine) ∷ [] → (state machine).faults ≡ top

module _ {Entry Fixed : Type 0} (number : Entry → ℕ) (origin : MachineState Entry Fixed) where
  -- an entry at risk after a history: it has the number of an ended call, which left it as the
  -- calls after it did, and each entry of the history has a lower number
  pub record IsAtRisk (left : ℕ → Option Entry) (serving : ℕ) (history : List Entry)
      (entry : Entry) : Type 0 where
    pub from : origin.next ≤ number entry
    pub ended : number entry < serving
    pub stays : (call : ℕ) → number entry ≤ call → call < serving → left call ≡ Some entry
    pub since : Rises number 1 (number entry) history

  -- what is known of one seat, if these are the next ticket, the ticket that is served, and the
  -- longest history
  pub record HoldsForSeat (ticket serving : ℕ) (longest : List Entry)
      (view : View Entry Fixed) : Type 0 where
    pub start : 0 < view.share → view.start ≡ Some (start_of origin)
    pub seen : Extends number longest view.seen view.calls
    pub told : Extends number longest view.told view.late
    pub late : AreBelow serving view.late
    pub calls : AreBelow serving view.calls
    pub turn : 0 < has_turn view.stage → (view.number ≡ serving) × (view.seen ≡ longest)
    pub owes : view.owes ≤ may_owe view.stage
    pub own : 0 < view.owes → LastEntryIs number view.number view.seen
    pub note : view.exhausted ≡ true → ticket ≡ call_end
    pub spent : view.share ≡ 0 → (view.stage ≡ Idle) × (view.calls ≡ [])

module _ {M Entry Fixed : Type 0} (number : Entry → ℕ) (state : M → MachineState Entry Fixed)
    (origin : MachineState Entry Fixed) where
  -- what the ended calls left at risk, what a seat that has its turn knows at risk, and what a
  -- machine at home has at risk
  pub record AreRisks (serving : ℕ) (homes : List (maybe.Option (Option M)))
      (views : List (View Entry Fixed)) : Type 0 where
    pub left : ℕ → Option Entry
    pub calls : (seat : ℕ) (view : View Entry Fixed) → get_elem? views seat ≡ some view
        → Every (λ (call : Call Entry). (call.number < serving) × (call.at_risk ≡ left call.number))
        view.calls
    pub turn : (seat : ℕ) (view : View Entry Fixed) → get_elem? views seat ≡ some view
        → 0 < has_turn view.stage
        → IfSome view.at_risk (λ entry. IsNewAtRisk number view entry
        ⊎ IsAtRisk number origin left serving view.seen entry)
    pub home : (machine : M)
        → homes ≡ some (Some machine) ∷ []
        → IfSome (state machine).at_risk
        (IsAtRisk number origin left serving (state machine).history)

  -- order: the tickets that were drawn
  -- flights: each number from the one served up to the next ticket is in flight once, and no other
  -- is
  -- calls: each number from the first one up to the one served is an ended call once, and no other
  -- is
  -- counted: the count has all entries but one that is owed
  -- rises: the entries' numbers are below the one served, or equal to it after its act
  -- shares: all shares are with seats
  -- slot, seats, longest: where the machine is, what is known of each seat, and that one seat has
  -- seen the longest history
  pub record Facts (standing : TurnState Entry) (homes : List (maybe.Option (Option M)))
      (views : List (View Entry Fixed)) : Type 0 where
    pub order : (standing.serving ≤ standing.ticket) × (standing.ticket ≤ call_end)
    pub flights : (call : ℕ)
        → total (in_flight call) views + below call standing.serving ≡ below call standing.ticket
    pub calls : (call : ℕ)
        → total (count_of_call call) views + below call origin.next ≡ below call standing.serving
    pub counted : standing.count + total owes_of views ≡ length standing.longest
    pub rises : Rises number 1 (standing.serving + total acted_count views) standing.longest
    pub shares : total share_of views ≡ all_shares
    pub slot : AtHome state origin standing.serving standing.longest homes views ⊎ IsOut homes views
    pub seats : (seat : ℕ) (view : View Entry Fixed) → get_elem? views seat ≡ some view
        → HoldsForSeat number origin standing.ticket standing.serving standing.longest view
    pub longest : (seat : ℕ)
        × (view : View Entry Fixed)
        × (get_elem? views seat ≡ some view)
        × (view.seen ≡ standing.longest)
        × (0 < view.share)

  -- the rule of a table whose board was made with a machine in the state `origin`
  pub record TurnRule (table : State (Option M) (View Entry Fixed)) : Type 0 where
    pub standing : TurnState Entry
    pub words : table.words ≡ standing.ticket ∷ standing.serving ∷ standing.count ∷ []
    pub facts : Facts standing table.homes table.views
    pub faults : AreFaults state origin standing.serving table.homes table.views
    pub risks : AreRisks standing.serving table.homes table.views
