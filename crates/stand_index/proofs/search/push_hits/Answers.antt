use Rattle.std.proofs.Common.{◌+◌, ◌≤◌, arith}
use Rattle.stand_index.specs.Blocks.{count_blocks}
use Rattle.stand_index.proofs.Blocks.{more_blocks, more_steps, next_steps}
use Rattle.stand_index.proofs.search.push_hits.Goals as goal

pub loop-number-preserved : goal.loop-number-preserved
loop-number-preserved g c = record {
  hits =
      more_blocks c.args.slots.now.slots c.loop-number.number c.args.from c.args.end c.args.hits.now.items c.loop-number.hits.items c.push_block_hits.new.hits.items
      c.loop-number.invariant.hits c.in_ok-push_block_hits.ensures.hits;
  steps =
      omega (arith, c.loop-number.invariant.steps, c.in_ok-push_block_hits.ensures.steps, next_steps c.args.from c.args.end c.args.slots.now.slots c.loop-number.number);
}

pub returns-in_err-push_block_hits-clause-steps : goal.returns-in_err-push_block_hits-clause-steps
returns-in_err-push_block_hits-clause-steps g c =
    let slots = c.args.slots.now.slots in
    let few : c.loop-number.number + 1 ≤ count_blocks slots = omega (arith, c.blocks-number-end.ensures.last, c.loop-number-test.true) in
    omega (
      arith,
      c.loop-number.invariant.steps,
      c.push_block_hits.ensures.steps,
      next_steps c.args.from c.args.end slots c.loop-number.number,
      more_steps c.args.from c.args.end slots (c.loop-number.number + 1) (count_blocks slots) few,
    )
