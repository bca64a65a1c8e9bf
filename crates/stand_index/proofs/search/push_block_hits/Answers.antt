use Rattle.std.proofs.Common.{◌∙◌, ◌++◌, ap, append-nil, arith, sym, take_all, List}
use Rattle.std.specs.Prelude.{filter}
use Rattle.apron_base.specs.declared.slot.Slot.{Slot}
use Rattle.stand_index.specs.Blocks.{block}
use Rattle.stand_index.specs.Slots.{is_hit}
use Rattle.stand_index.proofs.Blocks.{block_at, block_first, block_length, reached_steps, unreached_misses}
use Rattle.stand_index.proofs.Hits.{more_hits}
use Rattle.stand_index.proofs.search.push_block_hits.Goals as goal

pub returns-in_default-clause-hits : goal.returns-in_default-clause-hits
returns-in_default-clause-hits g c =
    let none = unreached_misses (block c.args.slots.now.slots c.args.number) c.args.from c.args.end (sym c.in_default.ensures.reached) in
    sym (append-nil c.args.hits.now.items) ∙ ap (λ (ys : List Slot). c.args.hits.now.items ++ ys) (sym none)

pub loop-place-init : goal.loop-place-init
loop-place-init g c =
    let slots = c.args.slots.now.slots in
    let ours = block slots c.args.number in
    record {
      hits =
          more_hits ours 0 c.args.from c.args.end c.in-Some.slot c.args.hits.now.items c.args.hits.now.items c.push_hit.new.hits.items
          (omega (arith, block_length slots c.args.number, c.requires.inside))
          (λ d. c.in-Some.ensures.first d ∙ sym (block_first slots c.args.number d c.requires.inside))
          (sym (append-nil c.args.hits.now.items)) c.in_ok-push_hit.ensures.hits;
      steps = omega (arith, c.in-Some.ensures.step);
    }

pub returns-in_err-push_hit-2-clause-steps : goal.returns-in_err-push_hit-2-clause-steps
returns-in_err-push_hit-2-clause-steps g c =
    let slots = c.args.slots.now.slots in
    omega (
      arith,
      c.read.ensures.step,
      c.loop-place.invariant.steps,
      c.loop-place-test.true,
      reached_steps c.args.from c.args.end (block slots c.args.number) (sym c.in-Some.ensures.reached),
      block_length slots c.args.number,
      c.min-place-end.ensures,
      c.len-count.ensures.count,
    )

pub loop-place-preserved : goal.loop-place-preserved
loop-place-preserved g c =
    let slots = c.args.slots.now.slots in
    let ours = block slots c.args.number in
    record {
      hits =
          more_hits ours c.loop-place.place c.args.from c.args.end c.read.result c.args.hits.now.items c.loop-place.hits.items c.push_hit-in-loop-place.new.hits.items
          (omega (arith, block_length slots c.args.number, c.min-place-end.ensures, c.len-count.ensures.count, c.loop-place-test.true))
          (λ d. c.read.ensures.slot d ∙ sym (block_at slots c.args.number c.loop-place.place d
          (omega (arith, block_length slots c.args.number, c.min-place-end.ensures, c.len-count.ensures.count, c.loop-place-test.true))))
          c.loop-place.invariant.hits c.in_ok-push_hit-2.ensures.hits;
      steps = omega (arith, c.read.ensures.step, c.loop-place.invariant.steps);
    }

pub returns-clause-hits : goal.returns-clause-hits
returns-clause-hits g c =
    let slots = c.args.slots.now.slots in
    let ours = block slots c.args.number in
    c.loop-place.invariant.hits
    ∙ ap (λ (ys : List Slot). c.args.hits.now.items ++ filter (is_hit c.args.from c.args.end) ys)
    (take_all c.loop-place.place ours (omega (arith, block_length slots c.args.number, c.min-place-end.ensures, c.len-count.ensures.count, c.loop-place-test.false)))

pub returns-clause-steps : goal.returns-clause-steps
returns-clause-steps g c =
    let slots = c.args.slots.now.slots in
    omega (
      arith,
      c.loop-place.invariant.steps,
      c.loop-place.auto.place-end,
      reached_steps c.args.from c.args.end (block slots c.args.number) (sym c.in-Some.ensures.reached),
      block_length slots c.args.number,
      c.min-place-end.ensures,
      c.len-count.ensures.count,
      c.requires.inside,
    )
