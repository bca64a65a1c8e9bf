use Rattle.std.proofs.Common.{◌∙◌, ◌<◌, ◌*◌, ◌+◌, arith, subst, sym}
use Rattle.std.specs.Prelude.{All}
use Rattle.apron_base.specs.declared.slot.Slot.{Slot}
use Rattle.stand_index.proofs.Order.{All-insert_by_start}
use Rattle.bench.proofs.airports.looks.full_stand.Goals as goal

pub loop-before-preserved : goal.loop-before-preserved
loop-before-preserved c =
    let before = c.loop-before.before in
    let inv = c.loop-before.invariant in
    let IsBelow : Slot → Type 0 = λ slot. (slot.from < 200 * (before + 1)) × (slot.end < 200 * (before + 1)) in
    record {
      stands = c.insert.ensures.others.stands ∙ inv.stands;
      room = omega (arith, c.insert.ensures.slots.spare, inv.room);
      earlier = subst (All IsBelow) (sym c.insert.ensures.slots.planned)
          (All-insert_by_start IsBelow _ _ (omega arith, omega arith) (λ k d inside. let old = inv.earlier k d inside in (omega (arith, old.0), omega (arith, old.1))));
    }
