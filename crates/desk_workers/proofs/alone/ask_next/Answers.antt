use Rattle.std.proofs.Common.{subst}
use Rattle.watch_list.specs.declared.watch_asks.WatchAsk.TheVariants.{Plain}
use Rattle.desk_workers.proofs.Lone.{shows_own}
use Rattle.desk_workers.proofs.alone.ask_next.Goals as goal

pub returns-in-Ok-clause-shows : goal.returns-in-Ok-clause-shows
returns-in-Ok-clause-shows g c = λ first begun.
    let laws = g.met.M.DeskMachine in
    let before = g.M.Machine.state c.args.machine.now in
    let after = g.M.Machine.state c.act_next.new.machine in
    let ask = c.args.ask.now in
    shows_own g.M.DeskMachine.airport g.M.Machine.adds g.M.Machine.answers g.M.Machine.number laws.numbers (Plain c.in-Ok.own) before after first begun c.act_next.ensures.legal ask
    (λ entry added. laws.adds_asked ask entry (subst (λ own. g.M.Machine.adds (Plain own) entry) c.in-Ok.ensures.same added))
    (λ fixed history call answer left acts. laws.answers_as fixed history call ask answer left
    (subst (λ own. g.M.Machine.answers fixed history call (Plain own) answer left) c.in-Ok.ensures.same acts))
    c.act_next.result c.act_next.ensures.unasked c.act_next.ensures.asked
