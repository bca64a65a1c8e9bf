use Rattle.std.proofs.lemmas.Result.{err_from_is_err_and}
use Rattle.entry_bytes.specs.Parsing.{parse_edit}
use Rattle.entry_bytes.specs.Readings.{parse_many}
use Rattle.entry_bytes.proofs.Loops.{ends, goes_on, is_done}
use Rattle.entry_bytes.proofs.commits.parse_edits_of_count.Goals as goal

pub returns-in_err-edit : goal.returns-in_err-edit
returns-in_err-edit c =
    let field = parse_edit c.args.airport.now in
    let p = err_from_is_err_and c.from_residual.result c.from_residual.ensures.1 in
    record { is = rw (p.1, p.2) (ends c.in_err-edit.field-0.0 field c.loop-taken.edits c.args.count c.loop-taken._taken c.loop-taken.reader (parse_many c.args.count field c.args.reader.now) c.loop-taken-test.true c.in_err-edit.ensures.is c.loop-taken.invariant) }

pub loop-taken-preserved : goal.loop-taken-preserved
loop-taken-preserved c =
    let field = parse_edit c.args.airport.now in
    rw c.in_ok-push.ensures.ok (goes_on field c.loop-taken.edits c.args.count c.loop-taken._taken c.loop-taken.reader c.parse_edit.new.reader c.in_ok-edit.edit (parse_many c.args.count field c.args.reader.now) c.loop-taken-test.true c.in_ok-edit.ensures.is c.loop-taken.invariant)

pub returns : goal.returns
returns c =
    let field = parse_edit c.args.airport.now in
    record { is = is_done field c.loop-taken.edits c.args.count c.loop-taken._taken c.loop-taken.reader (parse_many c.args.count field c.args.reader.now) c.loop-taken-test.false c.loop-taken.invariant }
