use Rattle.std.proofs.Common.{rules, inl, inr}
use Rattle.std.proofs.lemmas.Result.{err_from_is_err_and}
use Rattle.airport_files.specs.Walk.{layout_of}
use Rattle.airport_files.proofs.layout.layout_of.Goals as goal

pub returns-in_err-head-clause-layout : goal.returns-in_err-head-clause-layout
unfolding layout_of
returns-in_err-head-clause-layout c = search rules

pub returns-in_err-frontages-clause-layout : goal.returns-in_err-frontages-clause-layout
unfolding layout_of
returns-in_err-frontages-clause-layout c =
    let p = err_from_is_err_and c.from_residual-in_err-frontages.result c.from_residual-in_err-frontages.ensures.1 in
    rw (p.1, p.2) (elim c.in_err-frontages.ensures.value [
      | inl memory ↦ inl memory
      | inr read ↦ inr (rw (← c.in_ok-head.ensures.head, read))
    ])

pub returns-in_err-stands-clause-layout : goal.returns-in_err-stands-clause-layout
unfolding layout_of
returns-in_err-stands-clause-layout c =
    let p = err_from_is_err_and c.from_residual-in_err-stands.result c.from_residual-in_err-stands.ensures.1 in
    rw (p.1, p.2) (elim c.in_err-stands.ensures.value [
      | inl memory ↦ inl memory
      | inr read ↦ inr (rw (← c.in_ok-head.ensures.head, c.in_ok-frontages.ensures.value, read))
    ])

pub returns-in_err-pairs-clause-layout : goal.returns-in_err-pairs-clause-layout
unfolding layout_of
returns-in_err-pairs-clause-layout c =
    let p = err_from_is_err_and c.from_residual-in_err-pairs.result c.from_residual-in_err-pairs.ensures.1 in
    rw (p.1, p.2) (elim c.in_err-pairs.ensures.value [
      | inl memory ↦ inl memory
      | inr read ↦ inr (rw (← c.in_ok-head.ensures.head, c.in_ok-frontages.ensures.value, c.in_ok-stands.ensures.value, read))
    ])

pub returns-clause-layout : goal.returns-clause-layout
unfolding layout_of
returns-clause-layout c = search rules
