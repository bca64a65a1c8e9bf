use Rattle.std.proofs.Common.{rules, inl, inr}
use Rattle.std.proofs.lemmas.Result.{err_from_is_err_and}
use Rattle.airport_files.specs.Walk.{frontage_in}
use Rattle.airport_files.proofs.rows.frontage_in.Goals as goal

pub returns-in_err-name : goal.returns-in_err-name
unfolding frontage_in
returns-in_err-name c = search rules

pub returns : goal.returns
unfolding frontage_in
returns c = search rules

pub returns-in_err-objects : goal.returns-in_err-objects
unfolding frontage_in
returns-in_err-objects c =
    let p = err_from_is_err_and c.from_residual-in_err-objects.result c.from_residual-in_err-objects.ensures.1 in
    rw (p.1, p.2) (record {
      value = elim c.in_err-objects.ensures.value [
        | inl memory ↦ inl memory
        | inr read ↦ inr (rw (← c.in_ok-name.ensures.value, read))
      ];
    })
