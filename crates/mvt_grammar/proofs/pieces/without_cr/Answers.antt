use Rattle.std.proofs.Common.{◌≡◌, ◌+◌, ◌-◌, length, sym, ◌∙◌, ap, arith}
use Rattle.std.proofs.lemmas.Bool.Decides.{nat_tests}
use Rattle.std.proofs.lemmas.List.{nil_from_length}
use Rattle.mvt_grammar.specs.Pieces.{without_cr}
use Rattle.mvt_grammar.proofs.Trims.{without_cr-last}
use Rattle.mvt_grammar.proofs.pieces.without_cr.Goals as goal
use Rattle.mvt_grammar.proofs.pieces.without_cr.Goals.{else-not-is_empty-via-then-not-is_empty+else-text-eq13, else-not-is_empty-via-else-not-is_empty}

pub returns-then-text-eq13-clause-value : goal.returns-then-text-eq13-clause-value
returns-then-text-eq13-clause-value c =
    let more : length c.args.text.now ≡ (length c.args.text.now - 1) + 1 = grind (arith, nat_tests) in
    let last = without_cr-last c.args.text.now (length c.args.text.now - 1) more in
    grind (arith, nat_tests)

pub returns-else-not-is_empty-clause-value : goal.returns-else-not-is_empty-clause-value
returns-else-not-is_empty-clause-value c = elim c.else-not-is_empty.branch [
  | else-not-is_empty-via-then-not-is_empty+else-text-eq13 w ↦
      let more : length c.args.text.now ≡ (length c.args.text.now - 1) + 1 = grind (arith, nat_tests) in
      let last = without_cr-last c.args.text.now (length c.args.text.now - 1) more in
      grind (arith, nat_tests)
  | else-not-is_empty-via-else-not-is_empty w ↦
      let none : length c.args.text.now ≡ 0 = grind (arith, nat_tests) in
      let nil = nil_from_length c.args.text.now none in
      nil ∙ ap without_cr (sym nil)
]
