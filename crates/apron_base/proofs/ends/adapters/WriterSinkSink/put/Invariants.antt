use Rattle.std.proofs.Common.{◌≡◌, ◌≤◌, ◌-◌, length, take}
use Rattle.std.specs.Io.KnownBytes.{Appends}
use Rattle.apron_base.proofs.ends.adapters.WriterSinkSink.put.Given as goal

-- a front of the piece was written
abbrev pub invariant-loop-at : goal.invariant-loop-at
invariant-loop-at g l = record {
  inside : l.at ≤ length l.piece;
  written : Appends (g.W.Write.contents l.fn.self.inner) (g.W.Write.contents l.self-inside.inner) (take l.at l.piece);
  faults : l.self-inside.faults ≡ l.fn.self.faults;
}

abbrev pub decreases-loop-at : goal.decreases-loop-at
decreases-loop-at g l = length l.piece - l.at
