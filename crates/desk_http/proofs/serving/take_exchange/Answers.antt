use Rattle.std.proofs.Common.{◌∙◌, sym, subst}
use Rattle.std.proofs.lemmas.Result.{err_from_is_err_and}
use Rattle.http_framing.specs.Requests.{HasRequest}
use Rattle.desk_http.specs.Replies.{IsAnswered, Writes}
use Rattle.desk_http.specs.Serving.{SoFar}
use Rattle.desk_http.proofs.Ending.{closes_after, goes_on_after, reads_no_more, refuses}
use Rattle.desk_http.proofs.SoFar.{at, takes_piece}
use Rattle.desk_http.proofs.serving.take_exchange.Goals as goal

pub returns-then-closes-clause-goes_on : goal.returns-then-closes-clause-goes_on
returns-then-closes-clause-goes_on g c =
    let old = c.args.port.now in
    let airport = g.P.DeskPort.airport_of old in
    let comes = g.A.Answerer.comes (g.P.DeskPort.fixed old) airport in
    let now = at (g.S.Source.state c.reading.source) (g.W.Sink.state c.reading.sink) (g.P.DeskPort.port old) in
    let told = g.W.Sink.state c.answer-answered.new.sink in
    let next = g.P.DeskPort.port c.answer-answered.new.port in
    let request = c.in-Whole.ensures.is.0 in
    let parts = c.in-Whole.ensures.is.1 in
    let first : HasRequest c.reading.incoming request c.consume.new.self = rw c.consume.ensures.rest parts.first in
    let came = subst (λ p. IsAnswered (g.P.DeskPort.airport_of p) (g.A.Answerer.comes (g.P.DeskPort.fixed p) (g.P.DeskPort.airport_of p) (g.P.DeskPort.port p) request) now.sink told c.answer-answered.result next)
    c.reading.invariant.port (c.answer-answered.ensures.came request parts.parts_are) in
    rw c.and.ensures (λ start count h few.
    closes_after comes airport start now c.reading.incoming count (c.reading.invariant.so_far start count h) few request c.consume.new.self first told next c.answer-answered.result
    (sym parts.parts_are.closes ∙ c.if-closes.true) came)

pub returns-in-Whole-clause-goes_on : goal.returns-in-Whole-clause-goes_on
returns-in-Whole-clause-goes_on g c = λ start count h few.
    let old = c.args.port.now in
    let airport = g.P.DeskPort.airport_of old in
    let comes = g.A.Answerer.comes (g.P.DeskPort.fixed old) airport in
    let now = at (g.S.Source.state c.reading.source) (g.W.Sink.state c.reading.sink) (g.P.DeskPort.port old) in
    let told = g.W.Sink.state c.answer-answered.new.sink in
    let next = g.P.DeskPort.port c.answer-answered.new.port in
    let request = c.in-Whole.ensures.is.0 in
    let parts = c.in-Whole.ensures.is.1 in
    let first : HasRequest c.reading.incoming request c.consume.new.self = rw c.consume.ensures.rest parts.first in
    let came = subst (λ p. IsAnswered (g.P.DeskPort.airport_of p) (g.A.Answerer.comes (g.P.DeskPort.fixed p) (g.P.DeskPort.airport_of p) (g.P.DeskPort.port p) request) now.sink told c.answer-answered.result next)
    c.reading.invariant.port (c.answer-answered.ensures.came request parts.parts_are) in
    goes_on_after comes airport start now c.reading.incoming count (c.reading.invariant.so_far start count h) few request c.consume.new.self first told next c.answer-answered.result
    (sym parts.parts_are.closes ∙ c.if-closes.false) came

pub returns-in-Malformed-clause-goes_on : goal.returns-in-Malformed-clause-goes_on
returns-in-Malformed-clause-goes_on g c =
    let old = c.args.port.now in
    let airport = g.P.DeskPort.airport_of old in
    let comes = g.A.Answerer.comes (g.P.DeskPort.fixed old) airport in
    let now = at (g.S.Source.state c.reading.source) (g.W.Sink.state c.reading.sink) (g.P.DeskPort.port old) in
    let told = g.W.Sink.state c.write.new.sink in
    let why = c.in-Malformed.why in
    let wrote = subst (λ text. Writes text now.sink told c.write.result) c.refusal_text.ensures.text c.write.ensures.writes in
    rw (c.and-in-Malformed.ensures, c.reading.invariant.port) (λ start count h few.
    refuses comes airport start now c.reading.incoming count (c.reading.invariant.so_far start count h) few why told c.write.result c.in-Malformed.ensures.is wrote)

pub reading-preserved : goal.reading-preserved
reading-preserved g c =
    let old = c.args.port.now in
    let airport = g.P.DeskPort.airport_of old in
    let comes = g.A.Answerer.comes (g.P.DeskPort.fixed old) airport in
    let now = at (g.S.Source.state c.reading.source) (g.W.Sink.state c.reading.sink) (g.P.DeskPort.port old) in
    let left = g.S.Source.state c.take_more.new.source in
    let more = c.in_ok-take_more-in-Partial.ensures.takes in
    record {
      so_far = λ start count h. subst (λ bytes. SoFar comes airport start (at left now.sink now.port) bytes count) (sym more.2)
          (takes_piece comes airport start now left c.reading.incoming more.0 count (c.reading.invariant.so_far start count h) more.1);
      port = c.reading.invariant.port;
    }

pub returns-in_err-take_more-in-Partial-clause-goes_on : goal.returns-in_err-take_more-in-Partial-clause-goes_on
returns-in_err-take_more-in-Partial-clause-goes_on g c =
    let old = c.args.port.now in
    let airport = g.P.DeskPort.airport_of old in
    let comes = g.A.Answerer.comes (g.P.DeskPort.fixed old) airport in
    let now = at (g.S.Source.state c.reading.source) (g.W.Sink.state c.reading.sink) (g.P.DeskPort.port old) in
    let left = g.S.Source.state c.take_more.new.source in
    let outcome = c.in_err-take_more-in-Partial.field-0.0 in
    let p = err_from_is_err_and c.from_residual.result c.from_residual.ensures.1 in
    rw (p.1, p.2, c.reading.invariant.port) (λ start count h few.
    reads_no_more comes airport start now c.reading.incoming count (c.reading.invariant.so_far start count h) few left c.take_more.new.incoming outcome c.in_err-take_more-in-Partial.ensures.takes)
