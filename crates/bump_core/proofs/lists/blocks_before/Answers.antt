use Rattle.std.proofs.Common.{sym}
use Rattle.bump_core.specs.Ranks.{blocks_before}
use Rattle.bump_core.proofs.Compare.{flag_apart, flag_same, level_apart, level_last, level_same}
use Rattle.bump_core.proofs.lists.blocks_before.Goals as goal

pub returns-then-part-other : goal.returns-then-part-other
unfolding blocks_before
returns-then-part-other c = record { is = sym (flag_apart c.args.part.now.slot.actual c.args.other.now.slot.actual _ c.if-part-other.true) }

pub returns-then-part-other-2 : goal.returns-then-part-other-2
unfolding blocks_before
returns-then-part-other-2 c = record {
  is = rw (flag_same c.args.part.now.slot.actual c.args.other.now.slot.actual _ c.if-part-other.false) (sym (level_apart c.args.part.now.class c.args.other.now.class _ c.if-part-other-2.true));
}

pub returns-then-part-other-3 : goal.returns-then-part-other-3
unfolding blocks_before
returns-then-part-other-3 c = record {
  is = rw (flag_same c.args.part.now.slot.actual c.args.other.now.slot.actual _ c.if-part-other.false, level_same c.args.part.now.class c.args.other.now.class _ c.if-part-other-2.false)
      (sym (level_apart c.args.part.now.on c.args.other.now.on _ c.if-part-other-3.true));
}

pub returns-then-part-other-4 : goal.returns-then-part-other-4
unfolding blocks_before
returns-then-part-other-4 c = record {
  is = rw (
    flag_same c.args.part.now.slot.actual c.args.other.now.slot.actual _ c.if-part-other.false,
    level_same c.args.part.now.class c.args.other.now.class _ c.if-part-other-2.false,
    level_same c.args.part.now.on c.args.other.now.on _ c.if-part-other-3.false,
  )
      (sym (level_apart c.args.part.now.slot.part.visit.0 c.args.other.now.slot.part.visit.0 _ c.if-part-other-4.true));
}

pub returns-else-part-other-4 : goal.returns-else-part-other-4
unfolding blocks_before
returns-else-part-other-4 c = record {
  is = rw (
    flag_same c.args.part.now.slot.actual c.args.other.now.slot.actual _ c.if-part-other.false,
    level_same c.args.part.now.class c.args.other.now.class _ c.if-part-other-2.false,
    level_same c.args.part.now.on c.args.other.now.on _ c.if-part-other-3.false,
    level_same c.args.part.now.slot.part.visit.0 c.args.other.now.slot.part.visit.0 _ c.if-part-other-4.false,
  )
      (level_last c.args.part.now.slot.part.part c.args.other.now.slot.part.part);
}
