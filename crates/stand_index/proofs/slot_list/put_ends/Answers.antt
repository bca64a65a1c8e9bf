use Rattle.std.proofs.Common.{◌∙◌, ap, length, length-append, List, subst, sym, take}
use Rattle.apron_base.specs.declared.slot.Slot.{Slot}
use Rattle.stand_index.specs.Blocks.{IsLastEnd}
use Rattle.stand_index.proofs.Blocks.{block_rest, next_last, next_rest, with_end}
use Rattle.stand_index.proofs.slot_list.put_ends.Goals as goal

pub loop-rest-preserved : goal.loop-rest-preserved
loop-rest-preserved c =
    let slots = c.args.slots.now in
    let rest = c.loop-rest.rest.now in
    let before = length c.loop-rest.ends.items in
    let grown = ap length c.push_reserved.ensures.items ∙ length-append c.loop-rest.ends.items _ in
    record {
      rest = c.split_at.ensures.back ∙ next_rest slots rest before c.min.result (length c.push_reserved.new.self.items) c.loop-rest.invariant.rest c.min.ensures grown;
      last = next_last slots rest before (length c.push_reserved.new.self.items) c.loop-rest.invariant.rest (sym c.is_empty.ensures ∙ c.loop-rest-test.true) grown;
      ends =
          with_end slots c.loop-rest.ends.items c.push_reserved.new.self.items c.last_end.result c.push_reserved.ensures.items c.loop-rest.invariant.ends
          (let P : List Slot → Type 0 = λ ys. IsLastEnd ys c.last_end.result in subst P (c.split_at.ensures.front ∙ (ap (λ n. take n rest) c.min.ensures ∙ block_rest slots rest before c.loop-rest.invariant.rest)) c.last_end.ensures.is);
      capacity = c.push_reserved.ensures.capacity ∙ c.loop-rest.invariant.capacity;
    }
