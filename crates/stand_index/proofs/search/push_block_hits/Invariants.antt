use Rattle.std.proofs.Common.{◌≡◌, ◌≤◌, ◌+◌, ◌++◌, take}
use Rattle.std.specs.Prelude.{filter}
use Rattle.stand_index.specs.Blocks.{block}
use Rattle.stand_index.specs.Slots.{is_hit}
use Rattle.stand_index.proofs.search.push_block_hits.Given as goal

abbrev pub invariant-loop-place : goal.invariant-loop-place
invariant-loop-place g l = record {
  hits : l.hits.items ≡ l.fn.hits.items ++ filter (is_hit l.from l.end) (take l.place (block l.slots.slots l.number));
  steps : l.steps ≤ l.fn.steps + l.place;
}
