use Rattle.plan_core.proofs.IndexedIn.{IsPutSoFar}
use Rattle.plan_core.proofs.indexed.put_in.Given as goal

abbrev pub invariant-loop-slot : goal.invariant-loop-slot
invariant-loop-slot l = IsPutSoFar l.fn.index l.slots l.slot-index l.index
