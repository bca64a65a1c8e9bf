use Rattle.std.proofs.Common.{◌+◌, ◌-◌, arith, sym, ◌∙◌}
use Rattle.generated_day.specs.Makings.{day_so_far}
use Rattle.generated_day.proofs.Steps.{placed-by, tried-last, tried-next, tried-none}
use Rattle.generated_day.proofs.making_visits.place_visit.Goals as goal

pub loop-t-init : goal.loop-t-init
loop-t-init c = λ after h. placed-by c.args.number c.draw_below-first.result c.next_seed-making.result (day_so_far c.args.making.now) after c.draw_below-first.ensures.value c.next_seed-making.ensures.value h

pub returns-then-branch : goal.returns-then-branch
returns-then-branch c =
    let t = c.loop-t.t in
    let put = day_so_far c.put.new.self in
    record {
      placed = c.loop-t.invariant put
          (tried-last (8 - t) (8 - (t + 1)) c.args.number c.draw_below-first.result t (day_so_far c.loop-t.making) put (omega arith) c.in_ok-put.ensures.put (sym c.in_ok-put.ensures.accepted ∙ c.if-branch.true));
    }

pub loop-t-preserved : goal.loop-t-preserved
loop-t-preserved c = λ after rest.
    let t = c.loop-t.t in
    let put = day_so_far c.put.new.self in
    c.loop-t.invariant after
    (tried-next (8 - t) (8 - (t + 1)) c.args.number c.draw_below-first.result t (day_so_far c.loop-t.making) put after (omega arith) c.in_ok-put.ensures.put (sym c.in_ok-put.ensures.accepted ∙ c.if-branch.false) (rw c.in_ok-making.ensures.sum at rest))

pub returns : goal.returns
returns c =
    let t = c.loop-t.t in
    let day = day_so_far c.loop-t.making in
    record { placed = c.loop-t.invariant day (tried-none (8 - t) c.args.number c.draw_below-first.result t day (omega arith)) }
