use Rattle.std.proofs.lemmas.Result.{err_from_is_err_and}
use Rattle.history_core.proofs.Openings.{stops_among}
use Rattle.history_core.proofs.opening.opening_of.Goals as goal

pub returns-in_err-read-clause-refused : goal.returns-in_err-read-clause-refused
returns-in_err-read-clause-refused c =
    let p = err_from_is_err_and c.from_residual-in_err-read.result c.from_residual-in_err-read.ensures.1 in
    rw (p.1, p.2)
    (stops_among c.args.airport.now c.args.entries.now c.loop-bytes.opening c.loop-bytes.bytes-index c.as_slice.result.now c.bytes-item.result
    c.in_err-read.field-0.0 c.loop-bytes.invariant.airport c.loop-bytes.invariant.texts c.as_slice.ensures.items c.loop-bytes-test.true c.bytes-item.is
    c.in_err-read.ensures.refused)
