use Rattle.std.specs.Prelude.{not}
use Rattle.bump_core.specs.Lists.{by_own, is_blocked}
use Rattle.bump_core.proofs.Grow.{sifted_more}
use Rattle.bump_core.proofs.lists.against_others.Goals as goal

pub loop-met-preserved : goal.loop-met-preserved
loop-met-preserved c =
    sifted_more by_own (λ met. not (is_blocked c.args.own.now met.own.slot.part)) c.args.mets.now c.loop-met.met-index _ c.loop-met.blockings _
    c.loop-met-test.true c.loop-met.invariant c.in_ok-push_unless_blocked.ensures.ok
