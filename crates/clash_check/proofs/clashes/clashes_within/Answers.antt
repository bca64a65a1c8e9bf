use Rattle.std.proofs.Common.{◌∙◌, rules}
use Rattle.std.proofs.lemmas.List.Sorted.{answers_always}
use Rattle.apron_rules.specs.declared.rules.Clash.{Clash}
use Rattle.clash_check.specs.Indexed.{all_slots}
use Rattle.clash_check.proofs.Everywhere.{sorted_clashes, sorted_falls}
use Rattle.clash_check.proofs.clashes.clashes_within.Goals as goal

pub returns-clause-clashes : goal.returns-clause-clashes
returns-clause-clashes g c =
    let sorted = c.sort_unstable_by_key.ensures.sorted (λ (clash : Clash). clash.b) (answers_always _ _ _ (λ f a r g h. search rules)) in
    c.from_vec.ensures.items
    ∙ sorted_clashes c.args.airport.now c.args.slot.now c.args.from c.args.end (all_slots c.args.index.now) c.in_ok-clashes.clashes.items c.sort_unstable_by_key.new.self.items
    c.requires.clear.parts c.in_ok-clashes.ensures.clashes c.sort_unstable_by_key.ensures.permutation (sorted_falls _ sorted)
