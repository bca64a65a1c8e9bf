use Rattle.std.proofs.Common.{◌∙◌, ℕ, ap, refl, sym, subst}
use Rattle.plan_core.specs.PlanState.{PlanState}
use Rattle.desk_words.specs.declared.replies.Reply.{Reply}
use Rattle.history_core.specs.Acceptance.{reply_at}
use Rattle.history_core.specs.Answer.{Replies, Sought}
use Rattle.history_core.specs.Board.{BoardHeld}
use Rattle.history_core.specs.History.{replay}
use Rattle.history_core.proofs.board.Board.reply_with.Goals as goal

pub returns-in-Ok : goal.returns-in-Ok
returns-in-Ok g c =
    let old = c.args.self.now in
    let plan = replay old.airport old.history in
    let reply : Reply = record { version = c.version-version.result; told = c.in-Ok.told } in
    let version = c.version-version.ensures.value ∙ (ap (λ (p : PlanState). p.version) c.self.invariant.plan_is
    ∙ ap (λ (b : BoardHeld g.row.K.Denot). (replay b.airport b.history).version) c.self.view_is) in
    record {
      acts = λ call what asked up is. c.reply.ensures.acts call what asked up
          (subst (λ (s : Sought). Replies plan old.history call s reply old.history) (sym (rw c.in-Ok.is at is))
          (ap (λ (v : ℕ). reply_at v c.in-Ok.told) version, refl));
    }
