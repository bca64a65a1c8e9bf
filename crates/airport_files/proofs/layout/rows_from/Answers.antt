use Rattle.std.proofs.Common.{sym, ◌∙◌}
use Rattle.std.proofs.lemmas.Result.{err_from_is_err_and}
use Rattle.csv_records.proofs.TableWalk.{from_ok}
use Rattle.airport_files.proofs.RowWalk.{step-ok, step-err, step-end}
use Rattle.airport_files.proofs.layout.rows_from.Goals as goal

pub loop-i-preserved : goal.loop-i-preserved
loop-i-preserved g c =
    let same = c.deref-value-items.ensures.value in
    let within = rw same at c.loop-i-test.true in
    let at = rw same at c.value-item.is in
    let items = from_ok c.push.result _ (sym c.is_err.ensures.value ∙ c.if-is_err.false) c.push.ensures.ok in
    let step = step-ok g.T.Row.read_of c.args.array.now.items c.loop-i.i c.value-item.result c.loop-i.rows c.in_ok-row.row within at c.in_ok-row.ensures.value in
    rw items (sym step ∙ c.loop-i.invariant)

pub returns-in_err-row : goal.returns-in_err-row
returns-in_err-row g c =
    let same = c.deref-value-items.ensures.value in
    let within = rw same at c.loop-i-test.true in
    let at = rw same at c.value-item.is in
    let step = step-err g.T.Row.read_of c.args.array.now.items c.loop-i.i c.value-item.result c.loop-i.rows c.in_err-row.field-0.0 within at c.in_err-row.ensures.value c.loop-i.invariant in
    let p = err_from_is_err_and c.from_residual.result c.from_residual.ensures.1 in
    rw (p.1, p.2) (record { value = step })

pub returns : goal.returns
returns g c =
    let past = rw c.deref-value-items.ensures.value at c.loop-i-test.false in
    record { value = sym c.loop-i.invariant ∙ step-end g.T.Row.read_of c.args.array.now.items c.loop-i.i c.loop-i.rows past }
