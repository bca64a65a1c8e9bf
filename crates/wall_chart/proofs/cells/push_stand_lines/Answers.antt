use Rattle.std.proofs.Common.{arith}
use Rattle.visit_book.specs.Slots.{slots_of}
use Rattle.wall_chart.specs.Cells.{stand_line}
use Rattle.wall_chart.proofs.OfDay.{line_more}
use Rattle.wall_chart.proofs.Written.{stands_more}
use Rattle.wall_chart.proofs.cells.push_stand_lines.Goals as goal

pub loop-place-preserved : goal.loop-place-preserved
loop-place-preserved g c =
    let airport = c.args.airport.now in
    let held = c.args.plan.now in
    stands_more (stand_line airport (slots_of airport held.plan.visits) c.args.day) c.args.text.now.items c.loop-place.text.items c.push_stand_line.new.text.items c.loop-place.place
    c.loop-place.invariant
    (line_more airport held.plan.airport held.index c.index-index.result.now held.plan.visits c.args.day c.day_start-start.result (record { 0 = c.loop-place.place }) c.deref.result.now c.in_ok-slots.slots.items
    c.loop-place.text.items c.push_stand_line.new.text.items c.requires.airport c.index-index.ensures.value c.in_ok-slots.ensures.index c.index-index.ensures.indexed (omega (arith, c.loop-place-test.true, c.len-place-end.ensures.count))
    c.day_start-start.ensures.is c.in_ok-slots.ensures.hits c.deref.ensures.value c.in_ok-push_stand_line.ensures.text)
