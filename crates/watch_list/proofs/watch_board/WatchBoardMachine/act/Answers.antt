use Rattle.std.proofs.Common.{◌+◌, ◌≤◌, arith, subst, sym}
use Rattle.apron_base.proofs.Rising.{rises_more}
use Rattle.history_core.specs.History.{call_of}
use Rattle.watch_list.specs.WatchBoards.{WatchHeld}
use Rattle.watch_list.proofs.watch_board.WatchBoardMachine.act.Goals as goal

pub invariant_of-self : goal.invariant_of-self
invariant_of-self g c =
    let inside = c.self.inside in
    let up = subst (λ (held : WatchHeld g.row.K.Denot g.row.R.Denot). held.next ≤ c.args.call) (sym c.self.view_is) c.requires.next in (
      omega (arith, c.self.invariant.0, up),
      rises_more call_of 1 inside.next (c.args.call + 1) inside.noted.history c.self.invariant.1 (omega (arith, up)),
      omega (arith, c.requires.end),
    )
