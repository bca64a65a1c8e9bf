use Rattle.clash_check.specs.Indexed.{all_slots}
use Rattle.stand_proposer.proofs.OneMore.{first_added}
use Rattle.stand_proposer.proofs.trials.first_clash_with.Goals as goal

pub returns : goal.returns
returns g c = record {
  first =
      first_added c.args.airport.now (all_slots c.args.index.now) c.args.more.now c.args.slot.now c.in_ok-near.near c.first_among.result c.sooner.result
      c.requires.sound c.in_ok-near.ensures.first c.first_among.ensures.first c.sooner.ensures.sooner;
}
