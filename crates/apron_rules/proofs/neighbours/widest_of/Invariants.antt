use Rattle.std.proofs.Common.{◌<◌, length}
use Rattle.apron_rules.specs.Widest.{IsWidestBelow}
use Rattle.apron_rules.proofs.neighbours.widest_of.Given as goal

abbrev pub invariant-loop-index : goal.invariant-loop-index
invariant-loop-index l = record {
  inside : l.widest < length l.types;
  widest : IsWidestBelow l.types l.index l.widest;
}
