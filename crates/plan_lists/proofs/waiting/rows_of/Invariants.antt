use Rattle.std.proofs.Common.{◌≡◌, map, take}
use Rattle.plan_lists.proofs.waiting.rows_of.Given as goal

abbrev pub invariant-loop-part : goal.invariant-loop-part
invariant-loop-part l = l.rows ≡ map (λ part. part.row) (take l.part-index l.parts)
