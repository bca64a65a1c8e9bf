use Rattle.std.proofs.Common.{◌∙◌, ap, ◌++◌}
use Rattle.std.specs.Prelude.{not}
use Rattle.bump_core.specs.Lists.{by_other, is_taken}
use Rattle.bump_core.proofs.Grow.{sifted_more}
use Rattle.bump_core.proofs.Taken.{left_by_actual}
use Rattle.bump_core.proofs.lists.against_own.Goals as goal

pub loop-met-preserved : goal.loop-met-preserved
loop-met-preserved c =
    sifted_more by_other (λ met. not (is_taken c.args.mets.now met.other)) c.args.mets.now c.loop-met.met-index _ c.loop-met.blockings _
    c.loop-met-test.true c.loop-met.invariant
    (c.in_ok-push_unless_taken.ensures.ok ∙ ap (λ found. c.loop-met.blockings ++ found) (left_by_actual c.args.mets.now _ _ (c.as_slice.ensures.items ∙ c.in_ok-taking.ensures.ok)))
