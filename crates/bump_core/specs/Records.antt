-- What the record of a lost stand says.
use Rattle.std.specs.Prelude.{◌≡◌, true, false, Contains, List, Some}
use Rattle.apron_rules.specs.declared.parts.AirportParts.{AirportParts}
use Rattle.clash_check.specs.Meetings.{meeting}
use Rattle.visit_book.specs.declared.visits.Bump.{Bump}
use Rattle.bump_core.specs.declared.ranks.Ranked.{Ranked}
use Rattle.bump_core.specs.Near.{meets}
use Rattle.bump_core.specs.Ranks.{blocks_before}

-- the record names a part that keeps its stand, the first minute at which it clashes with the part
-- that lost its own, and the rule of that minute; no part that keeps its stand and is better than
-- the named one clashes with the one that lost it
pub record IsRecordOf (airport : AirportParts) (kept : List Ranked) (lost : Ranked)
    (bump : Bump) : Type 0 where
  pub blocker : Ranked
  pub keeps : Contains kept blocker
  pub named : blocker.slot.part ≡ bump.blocker
  pub stand : bump.stand ≡ lost.slot.stand
  pub better : blocks_before blocker lost ≡ true
  pub first : meeting airport blocker.slot lost.slot
      ≡ Some (record { minute = bump.minute; rule = bump.rule })
  pub best : (other : Ranked)
      → Contains kept other
      → blocks_before other blocker ≡ true
      → meets airport other.slot lost.slot ≡ false
