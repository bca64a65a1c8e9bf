use Rattle.apron_rules.proofs.Linked.{added_at}
use Rattle.apron_rules.proofs.links.add_pair.Goals as goal

pub returns-in-Ok-clause-added : goal.returns-in-Ok-clause-added
returns-in-Ok-clause-added c = added_at c.args.pairs.now.items c.args.place c.index_mut.result.now c.push.new.self c.args.pair c.requires.inside c.index_mut.ensures.value c.in-Ok.ensures.ok
