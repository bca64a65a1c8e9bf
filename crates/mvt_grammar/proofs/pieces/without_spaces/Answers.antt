use Rattle.std.proofs.Common.{◌≡◌, ◌+◌, ◌-◌, ◌<◌, length, arith}
use Rattle.std.proofs.lemmas.Bool.Decides.{nat_tests}
use Rattle.mvt_grammar.proofs.Trims.{without_spaces-take}
use Rattle.mvt_grammar.proofs.pieces.without_spaces.Goals as goal
use Rattle.mvt_grammar.proofs.pieces.without_spaces.Goals.{then-loop-end-test+else-text-end-eq32, else-loop-end-test}

pub loop-end-preserved : goal.loop-end-preserved
loop-end-preserved c =
    let more : c.loop-end.end ≡ (c.loop-end.end - 1) + 1 = omega arith in
    let inside : c.loop-end.end - 1 < length c.args.text.now = omega arith in
    let last = without_spaces-take c.args.text.now (c.loop-end.end - 1) inside in
    (omega arith, grind (arith, nat_tests))

pub returns-clause-value : goal.returns-clause-value
returns-clause-value c = elim c.loop-end-test.branch [
  | then-loop-end-test+else-text-end-eq32 w ↦
      let more : c.loop-end.end ≡ (c.loop-end.end - 1) + 1 = omega arith in
      let inside : c.loop-end.end - 1 < length c.args.text.now = omega arith in
      let last = without_spaces-take c.args.text.now (c.loop-end.end - 1) inside in
      grind (arith, nat_tests)
  | else-loop-end-test w ↦ grind arith
]
