use Rattle.std.proofs.Common.{◌≡◌, length, take}
use Rattle.apron_rules.specs.Links.{ArePairs}
use Rattle.apron_rules.proofs.links.stand_pairs.Given as goal

abbrev pub invariant-loop-place : goal.invariant-loop-place
invariant-loop-place l = record { counted : length l.pairs.items ≡ l.count; pairs : ArePairs l.stands (take l.place l.rows) l.pairs.items }
