use Rattle.std.proofs.Common.{◌<◌, arith, length}
use Rattle.std.specs.Prelude.{slice_index_or}
use Rattle.visit_book.specs.PartFields.{no_part}
use Rattle.visit_book.proofs.Leaving.{actual_next}
use Rattle.visit_book.proofs.Lists.{found_in}
use Rattle.visit_book.proofs.movements.with_actual.Goals as goal

pub loop-index-preserved : goal.loop-index-preserved
loop-index-preserved c =
    let inside : c.loop-index.index < length c.args.parts = omega (arith, c.loop-index-test.true, c.requires.count) in
    actual_next c.loop-index.index c.args.parts c.loop-index.made c.with-made.result (slice_index_or c.as_slice.result.now c.loop-index.index no_part)
    c.made_actual.result (found_in c.args.parts c.as_slice.result.now c.loop-index.index c.as_slice.ensures.is inside) c.loop-index.invariant
    c.made_actual.ensures.is c.with-made.ensures.is
