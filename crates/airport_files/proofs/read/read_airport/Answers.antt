use Rattle.std.proofs.Common.{◌∙◌, inl, inr}
use Rattle.std.proofs.lemmas.Result.{err_from_is_err_and}
use Rattle.airport_files.proofs.Meanings.{meaning-walk}
use Rattle.airport_files.proofs.read.read_airport.Goals as goal

pub returns-in_err-layout : goal.returns-in_err-layout
returns-in_err-layout c =
    let p = err_from_is_err_and c.from_residual.result c.from_residual.ensures.1 in
    rw (p.1, p.2) (record {
      value = elim c.in_err-layout.ensures.layout [
        | inl memory ↦ inl memory
        | inr meant ↦ inr (meaning-walk c.args.airport.now c.args.types.now ∙ rw meant)
      ];
    })

pub returns-in_err-rows : goal.returns-in_err-rows
returns-in_err-rows c =
    let p = err_from_is_err_and c.from_residual-in_err-rows.result c.from_residual-in_err-rows.ensures.1 in
    rw (p.1, p.2) (record {
      value = elim c.in_err-rows.ensures.value [
        | inl memory ↦ inl memory
        | inr meant ↦ inr (meaning-walk c.args.airport.now c.args.types.now ∙ rw (c.in_ok-layout.ensures.layout, meant))
      ];
    })

pub returns : goal.returns
returns c = record { value = rw (meaning-walk c.args.airport.now c.args.types.now, c.in_ok-layout.ensures.layout, c.in_ok-rows.ensures.value, ← c.airport_parts.ensures.value) c.airport_of_parts.ensures.value }
