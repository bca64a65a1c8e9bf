-- What several calls of an end change, one after the other.
use Rattle.std.proofs.Common.{◌∙◌, ◌++◌, ℕ, List, [], refl, arith}
use Rattle.std.specs.Prelude.{Bool, true, false, ◌||◌}
use Rattle.std.proofs.KnownBytes.{Appends-nil, Appends-trans, Consumes-nil, Consumes-trans}
use Rattle.apron_base.specs.Counts.{Counts}
use Rattle.apron_base.specs.Ends.{SourceState, SinkState, Took, Wrote}

-- a count over two runs of calls
pub counts_both : (first second : Bool) (a b c : ℕ) → Counts first a b → Counts second b c → Counts (first || second) a c
counts_both false false a b c h k = k ∙ h
counts_both false true a b c h k = omega (arith, h, k)
counts_both true false a b c h k = omega (arith, h, k)
counts_both true true a b c h k = omega (arith, h, k)

-- what two runs of reads took
pub took_both : (first second : Bool) (a b c : SourceState) (xs ys : List ℕ) → Took first a b xs → Took second b c ys → Took (first || second) a c (xs ++ ys)
took_both first second a b c xs ys h k = record {
  left = Consumes-trans a.left b.left c.left xs ys h.left k.left;
  faults = counts_both first second a.faults b.faults c.faults h.faults k.faults;
}

-- what no read took
pub took_none : (a : SourceState) → Took false a a []
took_none a = record { left = Consumes-nil a.left; faults = refl }

-- what two runs of puts wrote
pub wrote_both : (first second : Bool) (a b c : SinkState) (xs ys : List ℕ) → Wrote first a b xs → Wrote second b c ys → Wrote (first || second) a c (xs ++ ys)
wrote_both first second a b c xs ys h k = record {
  told = Appends-trans a.told b.told c.told xs ys h.told k.told;
  faults = counts_both first second a.faults b.faults c.faults h.faults k.faults;
}

-- what no put wrote
pub wrote_none : (a : SinkState) → Wrote false a a []
wrote_none a = record { told = Appends-nil a.told; faults = refl }
