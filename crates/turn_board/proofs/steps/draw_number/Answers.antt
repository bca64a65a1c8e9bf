use Rattle.std.proofs.Common.{arith, ap, ◌∙◌}
use Rattle.turn_board.proofs.Moves.{draws}
use Rattle.turn_board.proofs.steps.draw_number.Goals as goal

pub compare_exchange-found-requires : goal.compare_exchange-found-requires
compare_exchange-found-requires g c =
    let kept = c.loop.invariant in
    let same = kept.3 in (
      kept.2 ∙ c.requires.table.1,
      (let a = c.requires.table.0.0 in omega arith),
      draws _ _ _ _ _ c.loop.place.me c.peek-guess.result c.after-next.result (ap (λ m. m.0.stage) same ∙ c.requires.idle.0) (let a = ap (λ m. m.0.share) same in let b = c.requires.idle.1 in omega arith) c.after-next.ensures.next c.after-next.ensures.full,
    )
