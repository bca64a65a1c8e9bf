use Rattle.std.specs.Prelude.{◌≡◌, length}
use Rattle.apron.proofs.desks.all_beside.Given as goal

-- this many were pushed
abbrev pub invariant-loop-made : goal.invariant-loop-made
invariant-loop-made g l = length l.listeners.items ≡ l.made
