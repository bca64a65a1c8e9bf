use Rattle.std.proofs.Common.{◌∙◌}
use Rattle.apron_rules.proofs.Linked.{any_next}
use Rattle.apron_rules.proofs.links.stand_pairs.Goals as goal

pub loop-place-preserved : goal.loop-place-preserved
loop-place-preserved c = record {
  counted = c.in_ok-add_row.ensures.length ∙ c.loop-place.invariant.counted;
  pairs = λ s s2 k l. any_next _ _ c.args.stands.now c.args.rows.now c.loop-place.place c.index-rows-place.result s s2 k l c.loop-place-test.true c.index-rows-place.is (c.loop-place.invariant.pairs s s2 k l) (c.in_ok-add_row.ensures.added s s2 k l);
}
