use Rattle.std.proofs.Common.{subst, sym}
use Rattle.desk_asks.specs.Commands.{IsCommandOf}
use Rattle.watch_list.proofs.Repeated.{next_below, next_taken, next_valid}
use Rattle.watch_list.proofs.noted_board.NotedBoard+SteadyKeeper.repeat.Goals as goal

pub ask-requires-clause-valid : goal.ask-requires-clause-valid
ask-requires-clause-valid c =
    let old = c.args.self.now in
    subst (IsCommandOf old.airport) (sym c.in_ok-copy.ensures.same) (next_valid old.airport old.history c.args.entry.now c.requires.legal)

pub ask-requires-clause-last : goal.ask-requires-clause-last
ask-requires-clause-last c = let old = c.args.self.now in next_below old.airport old.history c.args.entry.now c.requires.legal

pub returns-in-Reply-clause-last : goal.returns-in-Reply-clause-last
returns-in-Reply-clause-last c =
    let old = c.args.self.now in
    next_taken old.airport old.history c.args.entry.now c.requires.legal c.ask.new.self.history c.in_ok-copy.field-0 c.ask.result c.in-Reply.field-0
    c.in_ok-copy.ensures.same c.in-Reply.is c.ask.ensures.asks.acts
