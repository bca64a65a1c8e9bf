use Rattle.std.proofs.Common.{◌≡◌, take}
use Rattle.std.specs.Prelude.{filter}
use Rattle.bump_core.proofs.lists.by_actual.Given as goal

abbrev pub invariant-loop-met : goal.invariant-loop-met
invariant-loop-met l = l.found ≡ filter (λ met. met.own.slot.actual) (take l.met-index l.mets)
