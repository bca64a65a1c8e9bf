use Rattle.std.proofs.Common.{◌≡◌}
use Rattle.std.proofs.lemmas.Result.{IfOk-weaker}
use Rattle.watch_list.specs.FeedReplies.{fed_text}
use Rattle.watch_list.proofs.feed_words.fed_bytes.Goals as goal

pub returns : goal.returns
unfolding fed_text
returns c = record {
  text = IfOk-weaker c.text_of.result _ (λ bytes. bytes ≡ fed_text c.args.airport.now c.args.version c.args.fed.now)
      (λ bytes h. rw (c.fed_code.ensures.is, c.as_slice.ensures.value, c.in_ok-body.ensures.text, c.parts.ensures.value) at h)
      c.text_of.ensures.text;
}
