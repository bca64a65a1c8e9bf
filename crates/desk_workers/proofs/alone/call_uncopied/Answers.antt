use Rattle.std.proofs.Common.{subst, sym}
use Rattle.desk_http.specs.FeedPorts.{version_ask}
use Rattle.desk_http.specs.Alone.{AloneAsks, port_over}
use Rattle.desk_http.specs.Ports.{ShowsAsk}
use Rattle.watch_list.specs.declared.watch_asks.WatchAsk.TheVariants.{Plain}
use Rattle.desk_workers.proofs.Lone.{shows_uncopied}
use Rattle.desk_workers.proofs.alone.call_uncopied.Goals as goal

pub returns-clause-shows : goal.returns-clause-shows
returns-clause-shows g c = λ first ask begun.
    let laws = g.met.M.DeskMachine in
    let before = g.M.Machine.state c.args.machine.now in
    let after = g.M.Machine.state c.act_next.new.machine in
    subst (λ answer. ShowsAsk AloneAsks (g.M.DeskMachine.airport before.fixed) (port_over first before) ask answer (port_over first after)) (sym c.answer_if_uncopied.ensures.is)
    (shows_uncopied g.M.DeskMachine.airport g.M.Machine.adds g.M.Machine.answers g.M.Machine.number laws.numbers (Plain version_ask) before after first begun c.act_next.ensures.legal
    (λ fixed history call answer left. laws.answers_as fixed history call version_ask answer left) ask
    c.act_next.result c.act_next.ensures.unasked c.act_next.ensures.asked)
