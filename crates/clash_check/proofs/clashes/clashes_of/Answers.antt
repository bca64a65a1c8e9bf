use Rattle.std.proofs.Common.{◌∙◌}
use Rattle.std.proofs.lemmas.Result.{IfOk-weaker}
use Rattle.clash_check.specs.Indexed.{all_slots}
use Rattle.clash_check.specs.Meetings.{by_part}
use Rattle.clash_check.proofs.Everywhere.{whole_clashes, whole_steps}
use Rattle.clash_check.proofs.clashes.clashes_of.Goals as goal

pub returns : goal.returns
returns g c =
    let airport = c.args.airport.now in
    let slot = c.args.slot.now in
    record {
      clashes = IfOk-weaker c.clashes_within.result _ _ (λ clashes is. is ∙ whole_clashes airport slot (by_part (all_slots c.args.index.now))) c.clashes_within.ensures.clashes;
      steps = rw (whole_steps airport c.args.index.now slot) at c.clashes_within.ensures.steps;
    }
