use Rattle.std.proofs.Common.{arith, inl, inr}
use Rattle.apron_rules.proofs.Bordering.{widest_next}
use Rattle.apron_rules.proofs.neighbours.widest_of.Goals as goal
use Rattle.apron_rules.proofs.neighbours.widest_of.Goals.{then-types-index, else-types-index}

pub loop-index-preserved : goal.loop-index-preserved
loop-index-preserved c =
    let types = c.args.types.now in
    let step = widest_next types c.loop-index.widest c.loop-index.index c.if-types-index.widest c.index-types-index.result c.index-types-widest.result
    c.loop-index-test.true c.loop-index.invariant.inside c.loop-index.invariant.widest in
    elim c.if-types-index.branch [
      | then-types-index w ↦ record { inside = omega (arith, w.widest-is); widest = step (inl (w.widest-is, w.if-types-index.true)) }
      | else-types-index w ↦ record { inside = omega (arith, w.widest-is); widest = step (inr (w.widest-is, w.if-types-index.false)) }
    ]

pub returns : goal.returns
returns c = record {
  widest = record {
    inside = c.loop-index.invariant.inside;
    widest = λ i d inside. c.loop-index.invariant.widest i d (omega (arith, inside, c.loop-index-test.false));
  };
}
