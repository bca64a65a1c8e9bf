-- What holds between the steps of one call.
use Rattle.std.specs.Prelude.{◌≡◌, ℕ, ◌+◌, ◌<◌, ◌≤◌, true, [], ◌∷◌, Some, None}
use Rattle.atomic_table.specs.Seated.{TableId}
use Rattle.apron_base.specs.Histories.{Grows}
use Rattle.apron_base.specs.Machine.{ActsAtRisk, MachineState, history_at_risk_of}
use Rattle.turn_board.specs.declared.view.Stage.TheVariants.{Turn}
use Rattle.turn_board.specs.declared.view.Start.{Start}
use Rattle.turn_board.specs.Plays.{Mine}
use Rattle.turn_board.specs.Views.{has_acted}

-- three words and a slot
abbrev pub IsTurnTable : TableId → Type 0
IsTurnTable table = (table.words ≡ 3) × (table.slots ≡ 1)

-- a seat belongs to a table of turns
abbrev pub IsSeatOf : TableId → TableId → Type 0
IsSeatOf table seat = IsTurnTable table × (seat ≡ table)

module _ {M Entry Fixed : Type 0} where
  -- it is this seat's turn, and the machine, which has acted, lies beside the slot
  pub record HasActed (number : Entry → ℕ) (mine : Mine M Entry Fixed)
      (machine : MachineState Entry Fixed) : Type 0 where
    pub stage : mine.0.stage ≡ Turn
    pub share : 0 < mine.0.share
    pub out : mine.1 ≡ (0, None) ∷ []
    pub grows : Grows number mine.0.number mine.0.seen machine.history
    pub faults : mine.0.found ≤ machine.faults

  -- what the machine, which has acted, left at risk: nothing; or, if no entry was added, what the
  -- seat found, or an entry of this call
  abbrev pub HasLeftAtRisk : (Entry → ℕ) → Mine M Entry Fixed → MachineState Entry Fixed → Type 0
  HasLeftAtRisk number mine machine =
      ActsAtRisk (λ entry. (number entry ≡ mine.0.number) × (machine.history ≡ mine.0.seen)) true
      (record { entries = mine.0.seen; at_risk = mine.0.at_risk }) (history_at_risk_of machine)

  -- the machine lies in the slot that the seat holds, and is as the seat noted it, and nothing is
  -- owed to the count
  pub record IsOver (state : M → MachineState Entry Fixed) (mine : Mine M Entry Fixed)
      (machine : M) : Type 0 where
    pub stage : has_acted mine.0.stage ≡ 1
    pub share : 0 < mine.0.share
    pub paid : mine.0.owes ≡ 0
    pub held : mine.1 ≡ (0, Some machine) ∷ []
    pub history : (state machine).history ≡ mine.0.seen
    pub next : (state machine).next ≤ mine.0.number + 1
    pub start : (start : Start Fixed)
        × (mine.0.start ≡ Some start)
        × ((state machine).fixed ≡ start.fixed)
    pub left : mine.0.left ≡ (state machine).faults
    pub at_risk : mine.0.at_risk ≡ (state machine).at_risk
