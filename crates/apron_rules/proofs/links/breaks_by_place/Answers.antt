use Rattle.std.proofs.Common.{◌∙◌}
use Rattle.apron_rules.proofs.ByPlace.{breaks_by_place}
use Rattle.apron_rules.proofs.links.breaks_by_place.Goals as goal

pub returns : goal.returns
returns c =
    let rule = breaks_by_place c.args.parts.now c.args.links.now c.args.pairs.now c.requires.linked c.args.s c.args.t c.args.w c.args.s2 c.args.t2 c.args.w2 c.requires.s c.requires.t c.requires.s2 c.requires.t2
    _ _ c.index-types-t.result c.index-types-t2.result c.index-pairs-s.result
    (rw c.as_slice-types.ensures.items at c.index-types-t.is) (rw c.as_slice-types.ensures.items at c.index-types-t2.is) c.index-pairs-s.is in
    record { is = c.first_rule.ensures.is ∙ (rw (c.span_of-k.ensures.is, c.span_of-l.ensures.is, c.as_slice.ensures.items) rule) }
