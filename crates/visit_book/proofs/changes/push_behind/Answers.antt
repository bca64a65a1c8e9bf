use Rattle.std.proofs.Common.{◌≡◌, ◌≤◌, ◌<◌, ◌+◌, ◌*◌, ◌^◌, ◌∙◌, ap, arith, length, length-set}
use Rattle.std.specs.Prelude.{slice_index_or}
use Rattle.apron_rules.specs.declared.parts.AirportParts.{AirportParts}
use Rattle.visit_book.specs.declared.visits.Part.{Part}
use Rattle.visit_book.specs.PartFields.{no_part}
use Rattle.visit_book.proofs.Early.{part_early}
use Rattle.visit_book.proofs.Lists.{found_in, pushed_next}
use Rattle.visit_book.proofs.changes.push_behind.Goals as goal

within : (c : goal.After-struct_known-1) → c.loop-index.index < length c.args.visit.now.parts
within c = omega (arith, c.loop-index-test.true, c.len-index-end.ensures.is)

-- a part that is pushed ends early enough for the next one
ends_early : (c : goal.After-struct_known-1) → c.part_from-pushed.result.to + c.parts.result.now.tow ≤ 2 ^ 16 + 2 ^ 10 * (c.loop-index.index + 1)
ends_early c =
    let old : Part = slice_index_or c.as_slice.result.now c.loop-index.index no_part in
    let early : (old.from < 2 ^ 16) × (old.to < 2 ^ 16) =
    part_early c.args.airport.now c.args.visit.now c.as_slice.result.now c.loop-index.index c.parts.ensures.airport c.requires.well_formed c.as_slice.ensures.is
    (within c) in
    let tow : c.parts.result.now.tow ≡ c.args.airport.now.tow = ap (λ (a : AirportParts). a.tow) c.parts.ensures.value in
    let few : c.args.airport.now.tow ≤ 240 = c.parts.ensures.airport.tow in
    let end = ap (λ (p : Part). p.to) c.part_from-pushed.ensures.is in
    omega (arith, early.0, early.1, tow, few, end, c.max.ensures, c.least_of-least.ensures.few, c.loop-index.invariant.early)

pub overflow_add-earliest : goal.overflow_add-earliest
overflow_add-earliest c = omega (arith, ends_early c, within c, c.requires.well_formed.few)

pub loop-index-preserved : goal.loop-index-preserved
loop-index-preserved c = record {
  pushed = pushed_next c.parts.result.now.tow c.least_of-least.result c.loop-index.earliest c.loop-index.index c.args.visit.now.parts c.loop-index.parts
      c.with-parts.result (slice_index_or c.as_slice.result.now c.loop-index.index no_part) c.part_from-pushed.result
      (found_in c.args.visit.now.parts c.as_slice.result.now c.loop-index.index c.as_slice.ensures.is (within c)) c.loop-index.invariant.count
      (rw c.max.ensures at c.part_from-pushed.ensures.is) c.with-parts.ensures.is
      ∙ c.loop-index.invariant.pushed;
  count = rw c.with-parts.ensures.is (length-set c.loop-index.parts _ c.part_from-pushed.result ∙ c.loop-index.invariant.count);
  early = ends_early c;
}
