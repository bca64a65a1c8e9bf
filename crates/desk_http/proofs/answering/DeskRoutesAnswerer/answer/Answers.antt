use Rattle.std.proofs.Common.{◌≡◌, Ok, Err, subst}
use Rattle.desk_http.proofs.Parts.{answers_ask, answers_early}
use Rattle.desk_http.specs.Routes.{asked_by, said_by}
use Rattle.desk_http.proofs.answering.DeskRoutesAnswerer.answer.Goals as goal

pub returns-in-Ok-Ok-clause-came : goal.returns-in-Ok-Ok-clause-came
returns-in-Ok-Ok-clause-came g c = λ request are.
    let port = c.args.port.now in
    let parts = c.args.parts.now in
    let airport = g.P.DeskPort.airport_of port in
    let ask = c.in-Ok-Ok.ask in
    let asked = subst (λ airport. Ok ask ≡ asked_by airport (said_by parts)) c.airport.ensures.value (rw c.in-Ok-Ok.field-0-is at c.in-Ok-Ok.ensures.asked) in
    answers_ask g.P.DeskPort.asks airport (g.P.DeskPort.port port) parts request are (g.W.Sink.state c.args.sink.now) (g.W.Sink.state c.write_acted.new.sink) c.write_acted.result
    ask c.ask.result (g.P.DeskPort.port c.ask.new.self) asked c.ask.ensures.shows c.write_acted.ensures.writes

pub returns-in-Ok-Err-clause-came : goal.returns-in-Ok-Err-clause-came
returns-in-Ok-Err-clause-came g c = λ request are.
    let port = c.args.port.now in
    let parts = c.args.parts.now in
    let airport = g.P.DeskPort.airport_of port in
    let early = c.in-Ok-Err.early in
    let asked = subst (λ airport. Err early ≡ asked_by airport (said_by parts)) c.airport.ensures.value (rw c.in-Ok-Err.field-0-is at c.in-Ok-Err.ensures.asked) in
    answers_early g.P.DeskPort.asks airport (g.P.DeskPort.port port) parts request are (g.W.Sink.state c.args.sink.now) (g.W.Sink.state c.write_early.new.sink) c.write_early.result
    early asked c.write_early.ensures.writes
