use Rattle.std.proofs.Common.{◌≡◌, ◌≤◌, drop, length}
use Rattle.std.specs.Prelude.{count_by}
use Rattle.plan_core.specs.PlanState.{is_above, put_in}
use Rattle.plan_core.proofs.Puts.{CanPut}
use Rattle.plan_core.proofs.visits.Visits.put_in.Given as goal

-- what is left can be put in and gives what all would have given, and there is room for it
abbrev pub invariant-loop-visit : goal.invariant-loop-visit
invariant-loop-visit l = record {
  told : put_in l.self.kept (drop l.visit-index l.changed) ≡ put_in l.fn.self.kept l.changed;
  can : CanPut (length l.fn.self.kept) l.self.kept (drop l.visit-index l.changed);
  room : count_by (is_above (length l.fn.self.kept)) (drop l.visit-index l.changed) ≤ l.self.room;
}
