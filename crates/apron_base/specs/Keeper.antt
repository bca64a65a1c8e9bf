-- What is known of a keeper of entries, and what calls change of it.
use Rattle.std.specs.Prelude.{◌≡◌, ◌⊎◌, ◌+◌, ℕ, true, false, List, [], ◌∷◌, ◌++◌, Option, None, Some}
use Rattle.std.specs.Option.{option_map}
use Rattle.apron_base.specs.Counts.{Counts}

-- the entries, if they are exposed; the entry that may be found after them when they are read
-- again; how many entries there are; how long an entry there is room for; and how often a call has
-- failed
pub record KeeperState : Type 0 where
  pub entries : Option (List (List ℕ))
  pub at_risk : Option (List ℕ)
  pub number : ℕ
  pub room : ℕ
  pub faults : ℕ

-- the entries with this one after them
abbrev pub with_last : {E : Type 0} → E → List E → List E
with_last last entries = entries ++ last ∷ []

-- the entry is last, and none is at risk
pub record AddsEntry (before after : KeeperState) (entry : List ℕ) : Type 0 where
  pub entries : after.entries ≡ option_map (with_last entry) before.entries
  pub number : after.number ≡ before.number + 1
  pub at_risk : after.at_risk ≡ None
  pub faults : Counts false before.faults after.faults

-- either no entry is at risk, or the same as before, or this one
abbrev pub IsRiskOf : Option (List ℕ) → Option (List ℕ) → List ℕ → Type 0
IsRiskOf risk before entry = (risk ≡ None) ⊎ (risk ≡ before) ⊎ (risk ≡ Some entry)

-- the entries are as they were, and this one may be at risk
pub record FailsToAdd (before after : KeeperState) (entry : List ℕ) : Type 0 where
  pub entries : after.entries ≡ before.entries
  pub number : after.number ≡ before.number
  pub at_risk : IsRiskOf after.at_risk before.at_risk entry
  pub faults : Counts true before.faults after.faults
