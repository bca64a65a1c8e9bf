use Rattle.std.proofs.Common.{◌≡◌, [], ◌∷◌, ◌++◌, subst, sym}
use Rattle.history_core.specs.History.{call_of}
use Rattle.turn_board.specs.Board.{Meets}
use Rattle.turn_board.proofs.Totals.{every_front}
use Rattle.desk_workers.specs.Seats.{ServedState}
use Rattle.desk_workers.specs.Together.{MeetsAll}
use Rattle.apron_base.specs.Histories.{Every}
use Rattle.desk_workers.proofs.Together.{meet_more}
use Rattle.desk_workers.proofs.crew.meet_ports.Goals as goal

pub loop-port-preserved : goal.loop-port-preserved
loop-port-preserved g c =
    let own = λ (port : ServedState g.row.M-Fixed.Denot). port.board ≡ c.args.board.now in
    let seat = c.loop-port.seat in
    let port = c.in-Some.port in
    let rest = c.pop.new.self.items in
    let items : c.loop-port.ports.items ≡ rest ++ port ∷ [] = c.in-Some.ensures.items in
    let numbered = subst (λ number. Meets number seat c.into_seat.result c.meet.new.seat) g.met.M.DeskMachine.numbers c.meet.ensures.meets in
    let meets = subst (λ other. Meets call_of seat other c.meet.new.seat) c.into_seat.ensures.seat numbered in record {
      sits = c.meet.ensures.sits;
      board = every_front own rest (port ∷ []) (subst (Every own) items c.loop-port.invariant.board);
      meets = λ after all. c.loop-port.invariant.meets after
          (subst (λ ports. MeetsAll seat ports after) (sym items) (meet_more seat c.meet.new.seat after rest port meets all));
    }
