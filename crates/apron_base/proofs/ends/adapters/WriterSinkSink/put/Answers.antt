use Rattle.std.proofs.Common.{arith, length-drop}
use Rattle.std.proofs.Math.Seq.{take-add}
use Rattle.std.proofs.lemmas.List.{take_rest}
use Rattle.std.proofs.KnownBytes.{Appends-trans}
use Rattle.apron_base.proofs.ends.adapters.WriterSinkSink.put.Goals as goal

pub loop-at-preserved : goal.loop-at-preserved
loop-at-preserved g c =
    let here = c.in-Some.ensures.bytes in
    record {
      inside = omega (arith, simp (take_rest, length-drop) at here.1);
      written = rw take-add (Appends-trans _ _ _ _ _ c.loop-at.invariant.written (simp take_rest at here.2));
      faults = c.loop-at.invariant.faults;
    }
