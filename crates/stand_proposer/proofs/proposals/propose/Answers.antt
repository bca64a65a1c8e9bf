use Rattle.std.proofs.Common.{◌∙◌, arith}
use Rattle.stand_proposer.specs.SoFar.{slots_so_far}
use Rattle.stand_proposer.proofs.Decided.{clashes_hold, decided_asks, decided_base, nothing_asked, nothing_is, nothing_left, rows_decided}
use Rattle.stand_proposer.proofs.Made.{nothing_made}
use Rattle.stand_proposer.proofs.Waiting.{row_in_plan, rows_apart}
use Rattle.stand_proposer.specs.Proposals.{nothing_proposed}
use Rattle.stand_proposer.proofs.proposals.propose.Goals as goal

pub loop-row-init : goal.loop-row-init
loop-row-init g c = record {
  decided = nothing_is c.args.plan.now.plan c.version.result c.new.result c.new-2.result c.new-3.result c.version.ensures.value c.new.ensures.none c.new-2.ensures.none c.new-3.ensures.none;
  base = c.version.ensures.value;
  made = nothing_made c.args.plan.now.plan c.new.result c.new-4.result c.visits-visits.ensures.plan c.new.ensures.none c.new-4.ensures.none;
  unasked = λ k d from inside. nothing_asked c.new.result _ c.new.ensures.none;
  told = nothing_left c.args.plan.now.plan (slots_so_far c.args.plan.now.plan c.new-4.result) c.new-2.result c.new-2.ensures.none;
}

pub add_part-requires-clause-waits : goal.add_part-requires-clause-waits
add_part-requires-clause-waits g c =
    row_in_plan c.args.plan.now.plan c.as_slice-rows.result.now c.visits-visits.ensures.plan (c.as_slice-rows.ensures.items ∙ c.in_ok-waiting.ensures.unplaced) c.loop-row.row-index _ c.loop-row-test.true

pub add_part-requires-clause-unasked : goal.add_part-requires-clause-unasked
add_part-requires-clause-unasked g c = c.loop-row.invariant.unasked c.loop-row.row-index _ (omega arith) c.loop-row-test.true

pub loop-row-preserved : goal.loop-row-preserved
loop-row-preserved g c =
    let plan = c.args.plan.now.plan in
    let rows = c.as_slice-rows.result.now in
    let before = c.loop-row.proposing.proposal in
    let after = c.add_part.new.proposing.proposal in
    record {
      decided = rows_decided plan (nothing_proposed plan) rows c.loop-row.row-index _ before after c.loop-row-test.true c.loop-row.invariant.decided c.in_ok-add_part.ensures.decided;
      base = decided_base plan before _ after c.in_ok-add_part.ensures.decided ∙ c.loop-row.invariant.base;
      made = c.in_ok-add_part.ensures.made;
      unasked = λ k d from inside. decided_asks plan before _ after _ c.in_ok-add_part.ensures.decided
          (rows_apart plan rows c.visits-visits.ensures.plan (c.as_slice-rows.ensures.items ∙ c.in_ok-waiting.ensures.unplaced) c.loop-row.row-index k _ d (omega (arith, from)) inside)
          (c.loop-row.invariant.unasked k d (omega (arith, from)) inside);
      told = c.in_ok-add_part.ensures.told;
    }

pub returns-clause-clashes : goal.returns-clause-clashes
returns-clause-clashes g c =
    clashes_hold c.args.plan.now.plan c.loop-row.proposing.proposal.edits c.loop-row.proposing.slots c.loop-row.proposing.proposal.left c.loop-row.invariant.made c.loop-row.invariant.told
