use Rattle.std.proofs.Common.{◌∙◌, refl, arith}
use Rattle.desk_http.proofs.Ending.{ends_unbegun, reaches_limit}
use Rattle.desk_http.proofs.SoFar.{begins}
use Rattle.desk_http.proofs.serving.session_by.Goals as goal

pub returns-in_default-clause-by : goal.returns-in_default-clause-by
returns-in_default-clause-by g c = ends_unbegun (g.A.Answerer.comes (g.P.DeskPort.fixed c.args.port.now) (g.P.DeskPort.airport_of c.args.port.now)) _ _

pub loop-count-init : goal.loop-count-init
loop-count-init g c = record {
  so_far = begins (g.A.Answerer.comes (g.P.DeskPort.fixed c.args.port.now) (g.P.DeskPort.airport_of c.args.port.now)) _ _ c.in-Ok.incoming c.in-Ok.ensures.empty;
  airport = refl;
  fixed = refl;
}

pub returns-in-Err-clause-by : goal.returns-in-Err-clause-by
returns-in-Err-clause-by g c =
    let goes = rw (c.loop-count.invariant.fixed, c.loop-count.invariant.airport) at c.in-Err.ensures.goes_on in
    goes _ c.loop-count.count c.loop-count.invariant.so_far c.loop-count-test.true

pub loop-count-preserved : goal.loop-count-preserved
loop-count-preserved g c =
    let goes = rw (c.loop-count.invariant.fixed, c.loop-count.invariant.airport) at c.in-Ok-take_exchange.ensures.goes_on in
    record {
      so_far = goes _ c.loop-count.count c.loop-count.invariant.so_far c.loop-count-test.true;
      airport = c.take_exchange.ensures.airport ∙ c.loop-count.invariant.airport;
      fixed = c.take_exchange.ensures.fixed ∙ c.loop-count.invariant.fixed;
    }

pub returns-clause-by : goal.returns-clause-by
returns-clause-by g c = reaches_limit (g.A.Answerer.comes (g.P.DeskPort.fixed c.args.port.now) (g.P.DeskPort.airport_of c.args.port.now)) _ _ _ _ c.loop-count.count c.loop-count.invariant.so_far (omega arith)
