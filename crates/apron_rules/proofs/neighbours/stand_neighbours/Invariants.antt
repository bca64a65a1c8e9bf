use Rattle.std.proofs.Common.{◌≡◌, ◌<◌, [], length}
use Rattle.std.specs.Prelude.{slice_index_or}
use Rattle.apron_base.specs.declared.numbers.StandNo.{StandNo}
use Rattle.apron_rules.specs.Neighbours.{neighbours_of}
use Rattle.apron_rules.proofs.neighbours.stand_neighbours.Given as goal

abbrev pub invariant-loop-stand : goal.invariant-loop-stand
invariant-loop-stand l = record {
  counted : length l.all.items ≡ l.stand;
  each : (s : StandNo) → s.0 < l.stand → slice_index_or l.all.items s.0 [] ≡ neighbours_of l.parts s;
}
