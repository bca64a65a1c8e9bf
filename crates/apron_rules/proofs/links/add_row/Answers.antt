use Rattle.std.proofs.Common.{◌∙◌, sym}
use Rattle.std.proofs.lemmas.Result.{on_ok_weaker}
use Rattle.apron_rules.specs.Links.{is_barred}
use Rattle.apron_rules.proofs.Linked.{added_both, added_none}
use Rattle.apron_rules.proofs.links.add_row.Goals as goal

pub returns-in_default-place-clause-added : goal.returns-in_default-place-clause-added
returns-in_default-place-clause-added c s s2 k l = added_none c.args.stands.now c.args.row.now s s2 k l _ (sym c.place-2.ensures.place ∙ c.in_default-place.is)

pub returns-clause-added : goal.returns-clause-added
returns-clause-added c =
    on_ok_weaker c.add_pair-2.result (λ added s s2 k l.
    added (is_barred s2 k l) s ∙ rw (c.in_ok-add_pair.ensures.added (is_barred s2 k l) s) (
    added_both c.args.stands.now c.args.row.now c.in-Some.a c.in-Some-place.b _ (sym c.place.ensures.place ∙ c.in-Some.is) (sym c.place-2.ensures.place ∙ c.in-Some-place.is) s s2 k l
    )) c.add_pair-2.ensures.added
