use Rattle.std.proofs.Common.{◌∙◌}
use Rattle.bump_core.proofs.Called.{own_slots}
use Rattle.bump_core.proofs.settling.kept_clashes.Goals as goal

pub push_kept_clashes_of-requires-clause-own : goal.push_kept_clashes_of-requires-clause-own
push_kept_clashes_of-requires-clause-own g c =
    own_slots c.args.airport.now c.args.changed.now c.as_slice-own-items.result.now c.requires.valid (c.as_slice-own-items.ensures.items ∙ c.in_ok-owns.ensures.ok)
    c.loop-own.own-index _ c.loop-own-test.true
