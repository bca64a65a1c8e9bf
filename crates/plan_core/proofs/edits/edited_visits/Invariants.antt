use Rattle.std.proofs.Common.{◌≡◌, take}
use Rattle.plan_core.specs.Edits.{edited_visits}
use Rattle.plan_core.proofs.edits.edited_visits.Given as goal

abbrev pub invariant-loop-edit : goal.invariant-loop-edit
invariant-loop-edit l = l.edited.items ≡ edited_visits (take l.edit-index l.edits) l.visits
