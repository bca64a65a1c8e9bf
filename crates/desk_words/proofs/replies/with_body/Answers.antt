use Rattle.std.proofs.Common.{◌≡◌, [], ◌∷◌}
use Rattle.std.proofs.lemmas.Result.{IfOk-weaker}
use Rattle.desk_words.specs.Replies.{media_of, status_code}
use Rattle.desk_words.specs.Texts.{text_of, version_line}
use Rattle.desk_words.proofs.replies.with_body.Goals as goal

pub returns : goal.returns
returns c = record {
  text = IfOk-weaker c.text_of.result _
      (λ bytes. bytes ≡ text_of (status_code c.args.reply.now.told) (media_of c.args.reply.now.told) (version_line c.args.reply.now.version ∷ []) c.args.body.now)
      (λ bytes h. rw (c.code.ensures.is, c.media.ensures.is) at h) c.text_of.ensures.text;
}
