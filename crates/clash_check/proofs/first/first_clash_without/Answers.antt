use Rattle.std.proofs.Common.{◌+◌, arith}
use Rattle.clash_check.specs.Clear.{others_of}
use Rattle.clash_check.proofs.Among.{among_all, among_next, among_none}
use Rattle.clash_check.proofs.Counted.{steps_front, taken_next}
use Rattle.clash_check.proofs.first.first_clash_without.Goals as goal

pub loop-place-init : goal.loop-place-init
loop-place-init g c = record {
  first = among_none c.args.airport.now (others_of c.args.index.now c.args.without.now) c.args.changed.now c.requires.clear.sound;
  steps = omega arith;
}

pub returns-in_err-found-clause-steps : goal.returns-in_err-found-clause-steps
returns-in_err-found-clause-steps g c =
    let xs = c.args.changed.now in
    let next = taken_next c.args.airport.now c.args.index.now xs c.loop-place.place _ c.args.steps.now c.loop-place.steps c.first_with.new.steps c.loop-place-test.true
    c.in_err-found.ensures.steps c.loop-place.invariant.steps in
    omega (arith, next, steps_front c.args.airport.now c.args.index.now xs (c.loop-place.place + 1))

pub loop-place-preserved : goal.loop-place-preserved
loop-place-preserved g c = record {
  first = among_next c.args.airport.now (others_of c.args.index.now c.args.without.now) c.args.changed.now c.loop-place.place _ c.loop-place.first c.in_ok-found.found c.sooner-first.result
      c.loop-place-test.true c.loop-place.invariant.first c.in_ok-found.ensures.first c.sooner-first.ensures.sooner;
  steps = taken_next c.args.airport.now c.args.index.now c.args.changed.now c.loop-place.place _ c.args.steps.now c.loop-place.steps c.first_with.new.steps c.loop-place-test.true
      c.in_ok-found.ensures.steps c.loop-place.invariant.steps;
}

pub returns-clause-first : goal.returns-clause-first
returns-clause-first g c = among_all c.args.airport.now (others_of c.args.index.now c.args.without.now) c.args.changed.now c.loop-place.place c.loop-place.first c.loop-place-test.false c.loop-place.invariant.first
