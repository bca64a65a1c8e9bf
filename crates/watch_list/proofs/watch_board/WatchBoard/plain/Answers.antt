use Rattle.std.proofs.Common.{◌≤◌, arith, subst, sym}
use Rattle.watch_list.specs.WatchBoards.{WatchHeld}
use Rattle.watch_list.proofs.Grown.{numbers_left}
use Rattle.watch_list.proofs.watch_board.WatchBoard.plain.Goals as goal

pub invariant_of-self : goal.invariant_of-self
invariant_of-self g c =
    let inside = c.self.inside in
    let up = subst (λ (held : WatchHeld g.row.K.Denot g.row.R.Denot). held.next ≤ c.args.call) (sym c.self.view_is) c.requires.next in (
      c.ask.ensures.next,
      numbers_left inside.noted.airport inside.noted.history c.args.call c.args.ask.now c.ask.new.self.history c.ask.result inside.next
          c.ask.ensures.asks.acts c.self.invariant.1 up,
      omega (arith, c.requires.last),
    )
