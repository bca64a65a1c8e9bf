use Rattle.std.proofs.Common.{◌∙◌, ap, arith, sym, take}
use Rattle.apron_base.specs.Keeper.{with_last}
use Rattle.watch_list.proofs.Repeated.{next_call, next_front, next_legal, next_not_before}
use Rattle.watch_list.proofs.noted_board.notes_of.Goals as goal

pub repeat-requires-clause-legal : goal.repeat-requires-clause-legal
repeat-requires-clause-legal c =
    let so_far = c.loop-entry.invariant in
    rw (so_far.airport, so_far.history)
    (next_legal c.args.history.now c.loop-entry.entry-index c.entry-item.result c.loop-entry-test.true c.entry-item.is c.args.airport.now c.requires.legal)

pub repeat-requires-clause-next : goal.repeat-requires-clause-next
repeat-requires-clause-next c =
    let entry = c.entry-item.result in
    let airport = c.args.airport.now in
    let front = take c.loop-entry.entry-index c.args.history.now in
    let legal = next_legal c.args.history.now c.loop-entry.entry-index entry c.loop-entry-test.true c.entry-item.is airport c.requires.legal in
    omega (arith, c.loop-entry.invariant.next, next_not_before airport front entry legal)

pub loop-entry-preserved : goal.loop-entry-preserved
loop-entry-preserved c =
    let entry = c.entry-item.result in
    let history = c.args.history.now in
    let place = c.loop-entry.entry-index in
    let so_far = c.loop-entry.invariant in record {
      airport = c.repeat.ensures.airport ∙ so_far.airport;
      history =
          c.in_ok-repeat.ensures.last
          ∙ (ap (with_last entry) so_far.history ∙ sym (next_front history place entry c.loop-entry-test.true c.entry-item.is));
      next = next_call history place entry c.loop-entry-test.true c.entry-item.is c.repeat.new.self.next c.repeat.ensures.next;
    }
