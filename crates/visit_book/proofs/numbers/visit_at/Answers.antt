use Rattle.std.proofs.Common.{◌∙◌, Some, ap, arith, sym}
use Rattle.visit_book.proofs.ByPlace.{visit_at-outside, visit_at-within}
use Rattle.visit_book.proofs.numbers.visit_at.Goals as goal
use Rattle.visit_book.proofs.numbers.visit_at.Goals.{else-place-ge1-via-then-place-ge1+else-place-visits, else-place-ge1-via-else-place-ge1}

pub returns-then-place-visits : goal.returns-then-place-visits
returns-then-place-visits c = record {
  is = ap (λ visit. Some visit) c.index-visits-place.is
      ∙ sym (visit_at-within c.args.visits.now c.args.number c.index-visits-place.result c.requires.numbered (omega arith) (omega arith));
}

pub returns-else-place-ge1 : goal.returns-else-place-ge1
returns-else-place-ge1 c = record {
  is = sym (visit_at-outside c.args.visits.now c.args.number c.requires.numbered (λ some.
      elim c.else-place-ge1.branch [
        | else-place-ge1-via-then-place-ge1+else-place-visits w ↦ omega arith
        | else-place-ge1-via-else-place-ge1 w ↦ omega arith
      ]));
}
