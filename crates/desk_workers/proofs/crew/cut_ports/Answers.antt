use Rattle.std.proofs.Common.{◌≡◌, ◌∙◌, ◌-◌, ◌+◌, [], ◌∷◌, ◌++◌, ap, arith, length, length-append, subst, sym}
use Rattle.apron_base.specs.Histories.{Every}
use Rattle.turn_board.specs.Board.{Sits}
use Rattle.turn_board.proofs.Totals.{every_append}
use Rattle.desk_workers.specs.Seats.{ServedState}
use Rattle.desk_workers.specs.Together.{AreCutFrom}
use Rattle.desk_workers.proofs.Together.{cut_more}
use Rattle.desk_workers.proofs.crew.cut_ports.Goals as goal

pub loop-cut-preserved : goal.loop-cut-preserved
loop-cut-preserved g c =
    let was = c.loop-cut.invariant in
    let own = λ (port : ServedState g.row.M-Fixed.Denot). port.board ≡ c.args.board.now in
    let ports = c.loop-cut.ports.items in
    let mid = c.loop-cut.seat in
    let left = c.split-mine.new.seat in
    let port = c.new.result in
    let items : c.push_reserved.new.self.items ≡ ports ++ port ∷ [] = c.push_reserved.ensures.items in
    let less : left ≡ record mid { share = mid.share - 1 } = c.split-mine.ensures.seat in
    let cut = cut_more c.args.seat.now mid ports port was.cut (c.new.ensures.seat ∙ c.split-mine.ensures.new) in record {
      sits = subst (Sits c.args.board.now) (sym less) (record { table = was.sits.table; start = was.sits.start });
      airport = was.airport;
      cut = subst (λ list. AreCutFrom c.args.seat.now list left) (sym items) (subst (AreCutFrom c.args.seat.now (ports ++ port ∷ [])) (sym less) cut);
      board = subst (Every own) (sym items) (every_append own ports (port ∷ []) was.board (c.new.ensures.board, tt));
      count = ap length items ∙ (length-append ports (port ∷ []) ∙ ap (λ n. n + 1) was.count);
      len = c.push_reserved.ensures.len ∙ ap (λ n. n + 1) was.len;
      room = let same = c.push_reserved.ensures.capacity in let room = was.room in omega arith;
      share =
          let one = ap (λ seat. seat.share) less in
          let all = was.share in
          let few = c.requires.share in
          let more = c.loop-cut-test.true in omega arith;
    }
