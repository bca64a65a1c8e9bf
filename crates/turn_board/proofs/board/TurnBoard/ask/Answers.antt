use Rattle.std.proofs.Common.{ap, ◌∙◌}
use Rattle.turn_board.proofs.Asking.{got_turn, keeps_start, left_at_risk}
use Rattle.turn_board.proofs.board.TurnBoard.ask.Goals as goal

pub returns-clause-answered : goal.returns-clause-answered
returns-clause-answered g c some =
    let drew = c.in-Some.ensures.drawn in
    let act = c.act-answer.ensures in
    got_turn g.M.Machine.state g.M.Machine.number g.M.Machine.adds g.M.Machine.answers c.seat.inside.place.table_id c.finish_call.new.place.table_id c.seat.inside.place.me.0 c.args.seat.now c.args.ask.now c.act-answer.result c.seat.view_is
    c.in-Some.call c.take_machine-machine.result c.act-answer.new.self c.draw_number.new.place.me.0 c.take_machine-machine.new.place.me c.finish_call.new.place.me _
    drew.1 c.take_machine-machine.ensures.turn c.finish_call.ensures.ended drew.0 drew.2 drew.3 c.take_machine-machine.ensures.taken act.acts act.at_risk act.answers

pub finish_call-requires-clause-start : goal.finish_call-requires-clause-start
finish_call-requires-clause-start g c = keeps_start g.M.Machine.state g.M.Machine.number c.seat.inside.place.me.0 c.draw_number.new.place.me.0 c.take_machine-machine.new.place.me _ c.in-Some.call c.take_machine-machine.result (g.M.Machine.state c.act-answer.new.self) _
    (ap (λ s. s.start) c.seat.view_is ∙ c.requires.sits.start) c.in-Some.ensures.drawn.1 c.take_machine-machine.ensures.turn c.take_machine-machine.ensures.taken c.act-answer.ensures.acts.fixed

pub finish_call-requires-clause-at_risk : goal.finish_call-requires-clause-at_risk
finish_call-requires-clause-at_risk g c =
    let turn = c.take_machine-machine.ensures.turn in
    let drew = c.in-Some.ensures.drawn.1 in
    let act = c.act-answer.ensures in
    left_at_risk g.M.Machine.number g.M.Machine.adds c.args.ask.now c.take_machine-machine.new.place.me (g.M.Machine.state c.take_machine-machine.result) (g.M.Machine.state c.act-answer.new.self) c.in-Some.call c.act-answer.result
    act.acts act.at_risk (ap (λ m. m.0.number) turn ∙ ap (λ v. v.number) drew) (ap (λ m. m.0.seen) turn) (ap (λ m. m.0.at_risk) turn)
