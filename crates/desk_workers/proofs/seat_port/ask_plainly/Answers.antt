use Rattle.watch_list.specs.declared.watch_asks.WatchAsk.TheVariants.{Plain}
use Rattle.desk_workers.proofs.Plain.{asks_plain}
use Rattle.desk_workers.proofs.seat_port.ask_plainly.Goals as goal

pub ask-requires-clause-valid : goal.ask-requires-clause-valid
ask-requires-clause-valid g c = g.met.M.DeskMachine.can_ask c.args.board.now.start.fixed c.args.ask c.requires.valid

pub returns-clause-asks : goal.returns-clause-asks
returns-clause-asks g c =
    let laws = g.met.M.DeskMachine in
    let ask = c.args.ask in
    asks_plain g.M.Machine.state g.M.DeskMachine.airport g.M.Machine.adds g.M.Machine.answers (Plain ask) ask
    (λ entry. laws.adds_asked ask entry) (λ fixed history call told left. laws.answers_as fixed history call ask told left)
    g.M.Machine.number c.args.seat.now c.ask.new.seat c.ask.result laws.numbers
    (record { spent = c.ask.ensures.spent; unasked = c.ask.ensures.unasked; answered = c.ask.ensures.answered })
