use Rattle.std.proofs.Common.{rules}
use Rattle.watch_list.specs.Watches.{CanAddWatch}
use Rattle.watch_list.proofs.Named.{watches_push}
use Rattle.watch_list.proofs.watches.Watches.add.Goals as goal

pub invariant_of-self-2 : goal.invariant_of-self-2
invariant_of-self-2 g c =
    let place : CanAddWatch c.self.inside.kept.items c.args.watch = search rules in
    watches_push c.self.inside.kept.items c.reserve.new.self.items c.push_reserved.new.self.items c.args.watch
    c.reserve.ensures.items c.push_reserved.ensures.items place c.self.invariant
