use Rattle.std.proofs.Common.{◌≡◌}
use Rattle.std.proofs.lemmas.Result.{IfOk-weaker}
use Rattle.desk_words.specs.Replies.{reply_text}
use Rattle.desk_words.proofs.replies.reply_bytes.Goals as goal

pub returns : goal.returns
unfolding reply_text
returns c = record {
  text = IfOk-weaker c.with_body-2.result _ (λ bytes. bytes ≡ reply_text c.args.airport.now c.args.reply.now)
      (λ bytes h. rw (c.as_slice-2.ensures.value, c.in_ok-body.ensures.text, c.parts.ensures.value) at h)
      c.with_body-2.ensures.text;
}

pub returns-in-Chart : goal.returns-in-Chart
unfolding reply_text
returns-in-Chart c = record {
  text = IfOk-weaker c.with_body.result _ (λ bytes. bytes ≡ reply_text c.args.airport.now c.args.reply.now)
      (λ bytes h. rw c.in-Chart.is (rw (c.as_slice.ensures.items, c.in-Chart.is) at h)) c.with_body.ensures.text;
}
