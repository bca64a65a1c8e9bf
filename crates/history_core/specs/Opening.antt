-- What opening a board over kept entries gives.
use Rattle.std.specs.Prelude.{◌≡◌, ◌+◌, ℕ, List, [], ◌∷◌, ◌++◌, length, None}
use Rattle.apron_base.specs.Histories.{Every}
use Rattle.apron_base.specs.Keeper.{with_last}
use Rattle.apron_base.specs.declared.numbers.PartId.{PartId}
use Rattle.apron_rules.specs.declared.parts.AirportParts.{AirportParts}
use Rattle.plan_core.specs.PlanState.{PlanState}
use Rattle.desk_asks.specs.declared.asks.Entry.{Entry}
use Rattle.entry_bytes.specs.declared.faults.EntryFault.{EntryFault}
use Rattle.entry_bytes.specs.declared.faults.EntryFault.TheVariants as unread
use Rattle.entry_bytes.specs.Entries.{IsEntryOf, SpellsEntry, SpellsNone}
use Rattle.history_core.specs.declared.opening.OpenFault.{OpenFault}
use Rattle.history_core.specs.declared.opening.OpenFault.TheVariants.{BadEntry, WrongEntry, Memory}
use Rattle.history_core.specs.Board.{BoardHeld, Spells}
use Rattle.history_core.specs.Bumped.{last_bumped}
use Rattle.history_core.specs.History.{IsLegal, replay}

-- the least number of a call after these entries: one above the last one's, or this number if there
-- are none
abbrev pub next_from : ℕ → List Entry → ℕ
next_from next [] = next
next_from next (entry ∷ entries) = next_from (entry.call + 1) entries

-- the least number of a call after this history: 1 if it has no entry
abbrev pub next_after : List Entry → ℕ
next_after history = next_from 1 history

-- a board that is being opened, as contracts see it: its airport, and the history of the entries
-- that were read
pub record OpeningHeld : Type 0 where
  pub airport : AirportParts
  pub history : List Entry

-- a board was opened over the keeper of these bytes: they are those of its history, which is legal
pub record OpensBoard {K : Type 0} (airport : AirportParts) (kept : K) (entries : List (List ℕ))
    (board : BoardHeld K) : Type 0 where
  pub keeper : board.keeper ≡ kept
  pub airport_is : board.airport ≡ airport
  pub spells : Spells airport entries board.history
  pub legal : IsLegal airport board.history
  pub at_risk : board.at_risk ≡ None
  pub next : board.next ≡ next_after board.history

-- why these bytes are not the next entry of a history, with the number that it would have: they are
-- those of no entry of the airport, or of one with which the history is not legal; or there is no
-- memory
abbrev pub IsNotNext : AirportParts → List Entry → List ℕ → OpenFault → Type 0
IsNotNext airport before bytes (BadEntry number) =
    (number ≡ length before + 1) × SpellsNone airport bytes
IsNotNext airport before bytes (WrongEntry number) =
    (number ≡ length before + 1)
    × ((entry : Entry)
    × SpellsEntry airport bytes entry
    × ¬ (IsLegal airport (with_last entry before)))
IsNotNext airport before bytes Memory = Unit {0}

-- why an entry of this number is refused, if reading it gives this fault
abbrev pub not_read : ℕ → EntryFault → OpenFault
not_read number unread.Memory = Memory
not_read number fault = BadEntry number

-- the first of these bytes that are not the next entry: those before them are the bytes of a legal
-- history
pub record StopsAt (airport : AirportParts) (entries : List (List ℕ))
    (fault : OpenFault) : Type 0 where
  pub front : List (List ℕ)
  pub bytes : List ℕ
  pub back : List (List ℕ)
  pub is : entries ≡ front ++ bytes ∷ back
  pub before : List Entry
  pub spells : Spells airport front before
  pub legal : IsLegal airport before
  pub why : IsNotNext airport before bytes fault

-- why no board is opened over these bytes: the first of them that are not the next entry, or there
-- is no memory
abbrev pub CannotOpen : AirportParts → List (List ℕ) → OpenFault → Type 0
CannotOpen airport entries Memory = Unit {0}
CannotOpen airport entries fault = StopsAt airport entries fault

-- a history read so far: it is legal, this plan is what it makes, and this is the least number of
-- the next call
pub record IsReplayed (airport : AirportParts) (plan : PlanState) (history : List Entry)
    (next : ℕ) : Type 0 where
  pub legal : IsLegal airport history
  pub plan_is : plan ≡ replay airport history
  pub next_is : next ≡ next_after history

-- one more entry was read: these are the bytes of the last entry of the history
pub record IsReadOn (airport : AirportParts) (before after : List Entry)
    (bytes : List ℕ) : Type 0 where
  pub entry : Entry
  pub is : SpellsEntry airport bytes entry
  pub last : after ≡ with_last entry before

-- what holds of every board that is being opened, with its plan, the parts that it keeps as
-- bumped, and the least number of its next call: its history was read so far, each entry is one of
-- the airport, and the parts lost their stands by the last entry
pub record IsOpening (plan : PlanState) (bumped : List PartId) (next : ℕ)
    (opening : OpeningHeld) : Type 0 where
  pub past : IsReplayed opening.airport plan opening.history next
  pub each : Every (IsEntryOf opening.airport) opening.history
  pub bumped_is : bumped ≡ last_bumped plan
