use Rattle.std.proofs.Common.{◌∙◌, ◌++◌, [], ap, arith, length, length-append, sym}
use Rattle.stand_index.specs.Slots.{is_hit}
use Rattle.stand_index.proofs.Hits.{fewer_pass, more_hits, none_after, none_before, one_hit}
use Rattle.stand_index.proofs.search.hits_of_rising.Goals as goal

pub loop-index-init : goal.loop-index-init
loop-index-init g c =
    let none = none_before c.args.slots.now.slots c.count_ended-first.result c.args.from c.args.end c.count_ended-first.ensures.before in
    record {
      from = omega arith;
      hits = c.new-hits.ensures.items ∙ sym none;
      steps = omega (arith, c.count_ended-first.ensures.steps);
    }

pub loop-index-preserved : goal.loop-index-preserved
loop-index-preserved g c = record {
  from = omega (arith, c.loop-index.invariant.from);
  hits =
      more_hits c.args.slots.now.slots c.loop-index.index c.args.from c.args.end c.read-slot.result [] c.loop-index.hits.items c.push.new.self.items (omega arith)
      (λ d. c.read-slot.ensures.slot d) c.loop-index.invariant.hits
      (c.in_ok-push.ensures.items ∙ ap (λ ys. c.loop-index.hits.items ++ ys) (sym (one_hit c.args.from c.args.end c.read-slot.result (sym c.if-not-is_hit.ensures.is))));
  steps = omega (arith, c.read-slot.ensures.step, c.loop-index.invariant.steps, simp length-append at (ap length c.in_ok-push.ensures.items));
}

pub returns-then-not-is_hit-clause-hits : goal.returns-then-not-is_hit-clause-hits
returns-then-not-is_hit-clause-hits g c =
    c.loop-index.invariant.hits
    ∙ none_after c.args.slots.now.slots c.loop-index.index c.args.from c.args.end c.read-slot.result c.requires.rise c.requires.minutes (omega arith)
    (λ d. c.read-slot.ensures.slot d) (λ k d low high. c.count_ended-first.ensures.after k d (omega (arith, c.loop-index.invariant.from)) high) (sym c.if-not-is_hit.ensures.is)

pub returns-then-not-is_hit-clause-steps : goal.returns-then-not-is_hit-clause-steps
returns-then-not-is_hit-clause-steps g c =
    omega (arith, c.read-slot.ensures.step, c.loop-index.invariant.steps, ap length c.loop-index.invariant.hits, fewer_pass (is_hit c.args.from c.args.end) c.args.slots.now.slots c.loop-index.index)

pub returns-in_err-push-clause-steps : goal.returns-in_err-push-clause-steps
returns-in_err-push-clause-steps g c =
    omega (arith, c.read-slot.ensures.step, c.loop-index.invariant.steps, ap length c.loop-index.invariant.hits, fewer_pass (is_hit c.args.from c.args.end) c.args.slots.now.slots c.loop-index.index)
