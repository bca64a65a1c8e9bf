use Rattle.std.proofs.Common.{◌<◌, ◌^◌, ℕ, arith, length, subst}
use Rattle.stand_index.proofs.Halving.{below_digits, halved, ended_until, held_from}
use Rattle.stand_index.specs.Steps.{binary_digits}
use Rattle.stand_index.proofs.search.count_ended.Goals as goal

pub loop-low-init : goal.loop-low-init
loop-low-init g c =
    let P : ℕ → Type 0 = λ n. n < 2 ^ 64 in
    let fits : P (length c.args.slots.now.slots) = subst P c.len-high.ensures.count c.len-high.type_inv in
    record {
      order = omega arith;
      inside = omega arith;
      before = λ k d low high. absurd (omega arith);
      after = λ k d low high. absurd (omega arith);
      steps = (binary_digits (length c.args.slots.now.slots), omega arith, omega (arith, below_digits (length c.args.slots.now.slots) fits));
    }

pub loop-low-preserved-then-read-minute : goal.loop-low-preserved-then-read-minute
loop-low-preserved-then-read-minute g c =
    let h = halved c.loop-low.low c.loop-low.high c.loop-low.invariant.steps.0 c.loop-low-test.true c.loop-low.invariant.steps.2 in
    record {
      order = omega arith;
      inside = c.loop-low.invariant.inside;
      before = ended_until c.args.slots.now.slots _ c.args.minute c.read.result c.requires.rise (omega arith) (λ d. c.read.ensures.slot d) c.if-read-minute.true;
      after = c.loop-low.invariant.after;
      steps = (h.0, omega (arith, h.1, c.loop-low.invariant.steps.1), h.3);
    }

pub loop-low-preserved : goal.loop-low-preserved
loop-low-preserved g c =
    let h = halved c.loop-low.low c.loop-low.high c.loop-low.invariant.steps.0 c.loop-low-test.true c.loop-low.invariant.steps.2 in
    record {
      order = omega arith;
      inside = omega arith;
      before = c.loop-low.invariant.before;
      after = held_from c.args.slots.now.slots _ c.args.minute c.read.result c.requires.rise (omega arith) (λ d. c.read.ensures.slot d) c.if-read-minute.false;
      steps = (h.0, omega (arith, h.1, c.loop-low.invariant.steps.1), h.2);
    }
