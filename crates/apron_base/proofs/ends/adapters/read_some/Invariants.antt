use Rattle.std.specs.Io.KnownBytes.{Keeps}
use Rattle.apron_base.proofs.ends.adapters.read_some.Given as goal

-- what is left stays
abbrev pub invariant-loop : goal.invariant-loop
invariant-loop g l = Keeps (g.R.Read.remaining l.fn.inner) (g.R.Read.remaining l.inner)
