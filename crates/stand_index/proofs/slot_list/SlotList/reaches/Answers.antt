use Rattle.std.proofs.Common.{ap}
use Rattle.stand_index.specs.Slots.{SlotsWithRoom}
use Rattle.stand_index.proofs.Blocks.{reached_else, reached_then}
use Rattle.stand_index.proofs.slot_list.SlotList.reaches.Goals as goal

pub returns-then-starts : goal.returns-then-starts
returns-then-starts c = record {
  is =
      reached_then c.self.inside.slots.items c.args.self.now.slots c.self.inside.ends.items c.args.number c.args.from c.args.end c.index.result.now c.index-then-starts.result.now
      c.self.invariant (ap (λ (v : SlotsWithRoom). v.slots) c.self.view_is) c.requires.inside c.index.ensures c.index-then-starts.ensures c.if-starts.true;
}

pub returns-else-starts : goal.returns-else-starts
returns-else-starts c = record {
  is =
      reached_else c.self.inside.slots.items c.args.self.now.slots c.self.inside.ends.items c.args.number c.args.from c.args.end c.index.result.now
      c.self.invariant (ap (λ (v : SlotsWithRoom). v.slots) c.self.view_is) c.requires.inside c.index.ensures c.if-starts.false;
}
