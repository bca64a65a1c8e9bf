use Rattle.std.proofs.Common.{ℕ, ◌+◌, arith, rules}
use Rattle.apron_base.proofs.Rising.{rises_more, rises_push}
use Rattle.test_turns.proofs.counting.TallyMachine.act.Goals as goal

abbrev number : ℕ → ℕ
number call = call

pub invariant_of-self : goal.invariant_of-self
invariant_of-self c =
    rw c.reserve.ensures.items (rises_more number 1 c.self.inside.next (c.args.call + 1) c.self.inside.calls.items c.self.invariant.0 (let n = c.requires.next in search rules), omega (arith, c.requires.end))

pub invariant_of-self-2 : goal.invariant_of-self-2
invariant_of-self-2 c =
    rw (c.push_reserved.ensures.items, c.reserve.ensures.items) (rises_push number 1 c.self.inside.next (c.args.call + 1) c.self.inside.calls.items c.args.call c.self.invariant.0 (let n = c.requires.next in search rules) (omega arith), omega (arith, c.requires.end))
