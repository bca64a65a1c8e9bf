-- What a port tells, and what one ask does to it.
use Rattle.std.specs.Prelude.{◌≡◌, ◌⊎◌, ◌+◌, ◌<◌, ◌≤◌, ℕ, Bool, true, false, List, [], ◌∷◌, ◌++◌, Option, None, Some}
use Rattle.apron_base.specs.Counts.{Rose}
use Rattle.apron_base.specs.Histories.{Every, Rises}
use Rattle.apron_base.specs.declared.outside.Acted.{Acted}
use Rattle.apron_base.specs.declared.outside.Acted.TheVariants.{Spent}
use Rattle.apron_rules.specs.declared.parts.AirportParts.{AirportParts}
use Rattle.desk_asks.specs.declared.asks.Entry.{Entry}
use Rattle.desk_asks.specs.declared.asks.Ask.{Ask}
use Rattle.desk_asks.specs.declared.asks.What.{What}
use Rattle.history_core.specs.History.{call_limit, call_of, IsLegal}
use Rattle.history_core.specs.Answer.{Given, keeper_fault, acted_from, GivesAnswer}
use Rattle.history_core.specs.AtRisk.{IsAskedFor}

-- a port: the least number that a call of it can have, the history that it has seen, the entry at
-- risk that its own calls left if there is one (of a desk alone: the keeper's), the numbers of its
-- own calls, whether its numbers have run out, and its count of faults
pub record PortState : Type 0 where
  pub first : ℕ
  pub seen : List Entry
  pub at_risk : Option Entry
  pub calls : List ℕ
  pub spent : Bool
  pub faults : ℕ

-- the history begins with what was seen, and what is new in it has greater numbers than each of
-- these calls
pub record IsLater (seen : List Entry) (calls : List ℕ) (history : List Entry) : Type 0 where
  pub new : List Entry
  pub is : history ≡ seen ++ new
  pub above : Every (λ call. Every (λ entry. call < call_of entry) new) calls

-- a count of faults after something was given: it never falls, and a fault is given only if it rose
abbrev pub CountsGiven : Given → ℕ → ℕ → Type 0
CountsGiven keeper_fault before now = (before ≤ now) × Rose before now
CountsGiven given before now = before ≤ now

-- whether it was given that the entry could not be kept
abbrev pub is_unkept : Given → Bool
is_unkept keeper_fault = true
is_unkept given = false

-- what is at risk after an ask with this call number: nothing, or what was; or the entry that was
-- asked for, if it could not be kept
abbrev pub RisksGiven : Option Entry → ℕ → What → Given → Option Entry → Type 0
RisksGiven before call what given after =
    (after ≡ None)
    ⊎ (after ≡ before)
    ⊎ ((is_unkept given ≡ true)
    × ((entry : Entry) × (after ≡ Some entry) × IsAskedFor call what entry))

-- An ask that got its turn: it found this whole history, which begins with all that the port had
-- seen, and was given its answer there.
pub record Turn (airport : AirportParts) (before : PortState) (ask : Ask) (given : Given)
    (after : PortState) : Type 0 where
  pub history : List Entry
  pub call : ℕ
  pub from : before.first ≤ call
  pub later : IsLater before.seen before.calls history
  pub legal : IsLegal airport history
  pub still : IsLegal airport after.seen
  pub numbers : Rises call_of 1 call history
  pub above : Every (λ own. own < call) before.calls
  pub last : call < call_limit
  pub gives : GivesAnswer airport history call ask given after.seen
  pub first : after.first ≡ before.first
  pub calls : after.calls ≡ before.calls ++ call ∷ []
  pub spent : before.spent ≡ false
  pub stays : after.spent ≡ true → call + 1 ≡ call_limit
  pub faults : CountsGiven given before.faults after.faults
  pub at_risk : RisksGiven before.at_risk call ask.what given after.at_risk

-- an ask that found the numbers exhausted: it made no call, and changed nothing else
abbrev pub IsExhausted : PortState → PortState → Type 0
IsExhausted before after = after ≡ record before { spent = true }

-- what an act shows of an ask, if `asks` says what the port gives and becomes
abbrev pub ShowsAsk : (AirportParts → PortState → Ask → Given → PortState → Type 0) → AirportParts
    → PortState → Ask → Acted → PortState → Type 0
ShowsAsk asks airport before ask Spent after = IsExhausted before after
ShowsAsk asks airport before ask acted after =
    (given : Given) × (acted ≡ acted_from airport given) × asks airport before ask given after
