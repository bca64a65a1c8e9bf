use Rattle.std.proofs.Common.{◌≡◌, ◌∙◌, ap, insert, not, subst, sym}
use Rattle.std.specs.Prelude.{position}
use Rattle.std.specs.List.{position_or_len}
use Rattle.visit_book.specs.Numbers.{has_number}
use Rattle.plan_core.specs.Working.{is_from}
use Rattle.plan_core.proofs.Once.{once_absent, once_present}
use Rattle.plan_core.proofs.edits.add_visit_once.Goals as goal

pub returns-in_ok-insert : goal.returns-in_ok-insert
returns-in_ok-insert c = record {
  ok = rw (once_absent c.args.visits.now.items c.args.visit c.index_of_visit.result
      (subst (λ vs. c.index_of_visit.result ≡ position (has_number c.args.visit.number) vs) c.as_slice.ensures.value c.index_of_visit.ensures.place)
      (c.is_none.ensures ∙ ap not c.if-is_none.true))
      (c.in_ok-insert.ensures.items ∙ ap (λ n. insert c.args.visits.now.items n c.args.visit)
      (c.count_below.ensures.count ∙ ap (position_or_len (is_from c.args.visit.number)) c.as_slice-then-is_none.ensures.value));
}

pub returns-else-is_none : goal.returns-else-is_none
returns-else-is_none c = record {
  ok = sym (once_present c.args.visits.now.items c.args.visit c.index_of_visit.result
      (subst (λ vs. c.index_of_visit.result ≡ position (has_number c.args.visit.number) vs) c.as_slice.ensures.value c.index_of_visit.ensures.place)
      (c.is_none.ensures ∙ ap not c.if-is_none.false));
}
