use Rattle.std.proofs.Common.{arith, ◌∷◌, Some, sym, ap, ◌∙◌}
use Rattle.atomic_table.specs.Table.{rest}
use Rattle.turn_board.proofs.Moves.{takes_turn}
use Rattle.turn_board.proofs.steps.take_machine.Goals as goal

pub load-found-requires : goal.load-found-requires
load-found-requires g c =
    let kept = c.loop.invariant in
    let same = kept.3 in (
      kept.2 ∙ c.requires.table.1,
      (let a = c.requires.table.0.0 in omega arith),
      takes_turn _ _ _ _ _ c.loop.place.me (ap (λ m. m.0.stage) same ∙ c.requires.waits.0) (let a = ap (λ m. m.0.share) same in let b = c.requires.waits.1 in omega arith),
    )

pub exchange-requires : goal.exchange-requires
exchange-requires g c =
    let kept = c.loop.invariant in
    let loaded = c.load-found.ensures in
    let took = loaded.2.0 (c.if-found-number.true ∙ (sym c.requires.waits.2 ∙ sym (ap (λ m. m.0.number) kept.3))) in
    (loaded.0 ∙ (kept.2 ∙ c.requires.table.1), (Some took.0, took.2 ∙ ap (λ cs. (0, Some took.0) ∷ rest cs) (sym took.2)))
