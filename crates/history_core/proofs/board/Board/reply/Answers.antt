use Rattle.std.proofs.Common.{◌∙◌, ap}
use Rattle.desk_words.specs.Replies.{reply_text}
use Rattle.history_core.specs.Board.{BoardHeld}
use Rattle.history_core.proofs.Acts.{replied_acts}
use Rattle.history_core.proofs.board.Board.reply.Goals as goal

pub returns-in-Ok : goal.returns-in-Ok
returns-in-Ok g c =
    let reply = c.args.reply.now in
    record {
      acts = λ call what asked up replies. replied_acts g.K.Keeper.state c.args.self.now call what asked reply c.in-Ok.bytes up replies
          (c.in-Ok.ensures.text ∙ ap (λ (b : BoardHeld g.row.K.Denot). reply_text b.airport reply) c.self.view_is);
    }
