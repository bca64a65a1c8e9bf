-- What contracts see of the keepers in memory.
use Rattle.std.specs.Prelude.{◌≡◌, ◌<◌, ℕ, List, length, None, Some, Vec, vec_capacity, vec_len}
use Rattle.apron_base.specs.Fails.{FailsHeld}
use Rattle.apron_base.specs.Keeper.{KeeperState}

-- the entries, and how long an entry there is room for
pub record EntriesHeld : Type 0 where
  pub entries : List (List ℕ)
  pub room : ℕ

-- what is known of a keeper that never fails: it never has an entry at risk
abbrev pub steady_keeper_state : EntriesHeld → KeeperState
steady_keeper_state kept = record {
  entries = Some kept.entries;
  at_risk = None;
  number = length kept.entries;
  room = kept.room;
  faults = 0;
}

-- the entries with their room, and the calls that fail
pub record ListKeeperHeld : Type 0 where
  pub kept : EntriesHeld
  pub fails : FailsHeld

-- what is known of such a keeper: it never has an entry at risk
abbrev pub keeper_state : ListKeeperHeld → KeeperState
keeper_state keeper = record (steady_keeper_state keeper.kept) { faults = keeper.fails.faults }

-- the spare memory is empty, and if there is any, the list has a place for one more entry
pub record HaveRoom {A : Type 0} (kept : Vec (List ℕ) A) (spare : Vec ℕ A) : Type 0 where
  pub empty : vec_len spare ≡ 0
  pub place : 0 < vec_capacity spare → vec_len kept < vec_capacity kept
