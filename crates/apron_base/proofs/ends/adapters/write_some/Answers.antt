use Rattle.std.proofs.Common.{arith}
use Rattle.std.proofs.KnownBytes.{Keeps-refl, Keeps-trans}
use Rattle.apron_base.proofs.KeptBytes.{kept_appends, kept_writes_none}
use Rattle.apron_base.proofs.ends.adapters.write_some.Goals as goal

pub loop-init : goal.loop-init
loop-init g c = Keeps-refl _

pub returns-in-Ok-eq0 : goal.returns-in-Ok-eq0
returns-in-Ok-eq0 g c = record { bytes = kept_writes_none _ _ _ _ _ _ c.in-Ok-eq0.is c.in-Ok-eq0.field-0-test c.loop.invariant c.write.ensures.bytes }

pub returns-in-Ok : goal.returns-in-Ok
returns-in-Ok g c = record {
  bytes = (omega (arith, c.in-Ok.count-test), c.in-Ok.ensures.bound, kept_appends _ _ _ _ c.loop.invariant c.in-Ok.ensures.bytes);
}

pub returns-in-Err-2 : goal.returns-in-Err-2
returns-in-Err-2 g c = record { bytes = Keeps-trans _ _ _ c.loop.invariant c.in-Err.ensures.bytes }

pub loop-preserved : goal.loop-preserved
loop-preserved g c = Keeps-trans _ _ _ c.loop.invariant c.in-Err.ensures.bytes

pub returns : goal.returns
returns g c = record { bytes = c.loop.invariant }
