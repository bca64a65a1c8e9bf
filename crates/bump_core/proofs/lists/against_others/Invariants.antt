use Rattle.std.proofs.Common.{◌≡◌, take}
use Rattle.std.specs.Prelude.{filter, filter_map, not}
use Rattle.bump_core.specs.Lists.{by_own, is_blocked}
use Rattle.bump_core.proofs.lists.against_others.Given as goal

abbrev pub invariant-loop-met : goal.invariant-loop-met
invariant-loop-met l = l.blockings ≡ filter_map by_own (filter (λ met. not (is_blocked l.own met.own.slot.part)) (take l.met-index l.mets))
