use Rattle.std.proofs.Common.{sym, ◌∙◌, inr}
use Rattle.csv_records.proofs.TableWalk.{from_ok}
use Rattle.airport_files.proofs.NumberWalk.{step-ok, step-err, step-end}
use Rattle.airport_files.proofs.rows.numbers_from.Goals as goal

pub loop-value-preserved : goal.loop-value-preserved
loop-value-preserved c =
    let same = c.deref-value-items.ensures.value in
    let within = rw same at c.loop-value-test.true in
    let at = rw same at c.value-item.is in
    let read = sym c.number.ensures.value ∙ c.in-Some.is in
    let items = from_ok c.push.result _ (sym c.is_err.ensures.value ∙ c.if-is_err.false) c.push.ensures.ok in
    let step = step-ok c.args.at c.args.array.now.items c.loop-value.value-index c.value-item.result c.loop-value.numbers c.in-Some.n within at read in
    rw items (sym step ∙ c.loop-value.invariant)

pub returns-in_default : goal.returns-in_default
returns-in_default c =
    let same = c.deref-value-items.ensures.value in
    let within = rw same at c.loop-value-test.true in
    let at = rw same at c.value-item.is in
    let none = sym c.number.ensures.value ∙ c.in_default.is in
    record { value = inr (sym c.loop-value.invariant ∙ step-err c.args.at c.args.array.now.items c.loop-value.value-index c.value-item.result c.loop-value.numbers within at none) }

pub returns : goal.returns
returns c =
    let past = rw c.deref-value-items.ensures.value at c.loop-value-test.false in
    record { value = sym c.loop-value.invariant ∙ step-end c.args.at c.args.array.now.items c.loop-value.value-index c.loop-value.numbers past }
