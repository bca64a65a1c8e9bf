use Rattle.std.specs.Io.KnownBytes.{Keeps}
use Rattle.apron_base.proofs.ends.adapters.flush.Given as goal

-- what was written stays
abbrev pub invariant-loop : goal.invariant-loop
invariant-loop g l = Keeps (g.W.Write.contents l.fn.inner) (g.W.Write.contents l.inner)
