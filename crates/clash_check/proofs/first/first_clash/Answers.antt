use Rattle.std.proofs.Common.{subst, List, ◌++◌}
use Rattle.std.proofs.lemmas.Result.{IfOk-weaker}
use Rattle.apron_base.specs.declared.slot.Slot.{Slot}
use Rattle.apron_rules.specs.Clash.{IsFirstClash}
use Rattle.clash_check.specs.Indexed.{all_slots}
use Rattle.clash_check.proofs.Among.{others_none}
use Rattle.clash_check.proofs.first.first_clash.Goals as goal

pub returns-clause-first : goal.returns-clause-first
returns-clause-first g c =
    let all = others_none (all_slots c.args.index.now) in
    IfOk-weaker c.first_clash_without.result _ _ (λ found h. subst (λ (xs : List Slot). IsFirstClash c.args.airport.now (xs ++ c.args.changed.now) found) all h) c.first_clash_without.ensures.first
