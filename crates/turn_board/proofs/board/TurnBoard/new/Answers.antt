use Rattle.std.proofs.Common.{[], ◌∷◌, ◌++◌, Some, ap, ◌∙◌}
use Rattle.turn_board.proofs.Ends.{starts_as}
use Rattle.turn_board.proofs.board.TurnBoard.new.Goals as goal

pub new-requires : goal.new-requires
new-requires g c = starts_as _ _ c.args.machine c.of-about.result.value c.push.new.self.items _ _ _ c.of-about.ensures (c.in_default.ensures.items ∙ ap (λ l. l ++ Some c.args.machine ∷ []) c.new-slots.ensures.items)
    c.next_call.ensures.next c.next_call-2.ensures.next c.requires.next c.length.ensures.count c.next_call.ensures.rises c.requires.at_risk
