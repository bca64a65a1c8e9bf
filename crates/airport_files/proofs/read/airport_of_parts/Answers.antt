use Rattle.std.proofs.Common.{◌∙◌, inl, inr, None, Some, Err, ap, Ok, sym}
use Rattle.airport_files.proofs.Meanings.{made_is}
use Rattle.airport_files.proofs.read.airport_of_parts.Goals as goal

pub returns-in-Ok : goal.returns-in-Ok
returns-in-Ok c = record { value = made_is c.args.parts None c.in-Ok.ensures.fault ∙ ap Ok (sym c.in-Ok.ensures.parts) }

pub returns-in-Err : goal.returns-in-Err
returns-in-Err c = record {
  value = elim c.in-Err.ensures.fault [
    | inl memory ↦ inl (c.airport_refused.ensures.memory memory)
    | inr named ↦ elim c.airport_refused.ensures.named [
      | inl memory ↦ inl memory
      | inr same ↦ inr (made_is c.args.parts (Some c.in-Err.fault) named ∙ ap Err (sym same))
    ]
  ];
}
