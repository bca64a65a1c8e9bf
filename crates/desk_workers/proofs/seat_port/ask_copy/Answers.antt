use Rattle.desk_workers.proofs.seat_port.ask_copy.Goals as goal

pub returns-in-Err-clause-asks : goal.returns-in-Err-clause-asks
returns-in-Err-clause-asks g c = c.call_uncopied.ensures.asks c.args.ask.now
