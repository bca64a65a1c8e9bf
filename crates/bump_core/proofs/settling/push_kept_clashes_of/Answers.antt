use Rattle.std.proofs.Common.{◌≡◌, ◌∙◌, ◌++◌, List, ap, subst, sym}
use Rattle.std.specs.Prelude.{OnOk, filter_map}
use Rattle.apron_rules.specs.declared.rules.Clash.{Clash}
use Rattle.clash_check.specs.Indexed.{all_slots}
use Rattle.clash_check.specs.Meetings.{by_part}
use Rattle.visit_book.specs.Slots.{slots_of}
use Rattle.bump_core.specs.declared.ranks.KeptClash.{KeptClash}
use Rattle.bump_core.specs.Lists.{kept_clash_at}
use Rattle.bump_core.proofs.Called.{met_by_clashes}
use Rattle.bump_core.proofs.settling.push_kept_clashes_of.Goals as goal

pub returns-clause-ok : goal.returns-clause-ok
returns-clause-ok g c =
    let airport = c.args.airport.now in
    let visits = c.args.plan.now.plan.visits in
    let P : List KeptClash → Type 0 = λ mets. OnOk c.push_kept_clashes.result (c.push_kept_clashes.new.mets ≡ c.args.mets.now ++ mets) in
    subst P
    (ap (λ (clashes : List Clash). filter_map (kept_clash_at airport visits c.args.own.now) clashes)
    (c.as_slice.ensures.items ∙ (rw c.index.ensures.value at c.in_ok-clashes.ensures.clashes))
    ∙ met_by_clashes airport visits c.args.own.now (by_part (all_slots c.args.plan.now.index)) c.visits-known.ensures.plan.numbered
    (c.index.ensures.ordered ∙ ap (λ airport. slots_of airport visits) (sym c.requires.airport)))
    c.push_kept_clashes.ensures.ok
