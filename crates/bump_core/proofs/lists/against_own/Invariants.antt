use Rattle.std.proofs.Common.{◌≡◌, take}
use Rattle.std.specs.Prelude.{filter, filter_map, not}
use Rattle.bump_core.specs.Lists.{by_other, is_taken}
use Rattle.bump_core.proofs.lists.against_own.Given as goal

abbrev pub invariant-loop-met : goal.invariant-loop-met
invariant-loop-met l = l.blockings ≡ filter_map by_other (filter (λ met. not (is_taken l.mets met.other)) (take l.met-index l.mets))
