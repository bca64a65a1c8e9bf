use Rattle.std.proofs.Common.{◌≡◌, ◌∙◌, ◌+◌, ◌-◌, ℕ, ap, arith, suc}
use Rattle.std.specs.Prelude.{slice_index_or}
use Rattle.apron_rules.specs.declared.parts.AirportParts.{AirportParts}
use Rattle.apron_rules.specs.Rules.{least_of}
use Rattle.visit_book.specs.Changes.{with_parts}
use Rattle.visit_book.specs.PartFields.{no_part}
use Rattle.visit_book.proofs.Kept.{push_keeps}
use Rattle.visit_book.proofs.Lists.{found_in, push_made}
use Rattle.visit_book.proofs.changes.push.Goals as goal

pub returns-clause-is : goal.returns-clause-is
returns-clause-is c =
    let place : ℕ = c.args.part - 1 in
    let next : c.args.part ≡ suc place = omega (arith, c.requires.least) in
    let tow : c.parts.result.now.tow ≡ c.args.airport.now.tow = ap (λ (a : AirportParts). a.tow) c.parts.ensures.value in
    let parts = push_made c.args.airport.now.tow (least_of c.args.airport.now c.args.visit.now.kind) c.args.from c.args.part place
    (c.part_from-first.result.to + c.parts.result.now.tow) c.args.visit.now.parts c.with.result c.push_behind-pushed.result
    (slice_index_or c.as_slice.result.now place no_part) c.part_from-first.result next
    (found_in c.args.visit.now.parts c.as_slice.result.now place c.as_slice.ensures.is (omega (arith, c.requires.least, c.requires.most)))
    (rw c.least_of.ensures.is at c.part_from-first.ensures.is) (ap (λ minutes. c.part_from-first.result.to + minutes) tow) c.push_behind-pushed.ensures.is
    c.with.ensures.is in
    c.with_parts.ensures.is ∙ ap (with_parts c.args.visit.now) parts

pub returns-clause-well_formed : goal.returns-clause-well_formed
returns-clause-well_formed c =
    rw (returns-clause-is c)
    (push_keeps c.args.airport.now c.args.part c.args.from c.args.visit.now c.parts.ensures.airport c.requires.well_formed c.requires.from c.requires.towed)
