use Rattle.std.proofs.Common.{◌≡◌, ◌∙◌, ◌∷◌, [], sym, string_bytes}
use Rattle.std.proofs.lemmas.Result.{IfOk-weaker}
use Rattle.desk_words.specs.Texts.{reply_head, version_line}
use Rattle.desk_words.proofs.Heads.{versioned_head}
use Rattle.desk_words.proofs.replies.head_of.Goals as goal

pub returns : goal.returns
returns c = record {
  text = IfOk-weaker c.format.result _ (λ s. string_bytes s ≡ reply_head c.args.code c.args.media.now (version_line c.args.version ∷ []) c.args.length)
      (λ s h. h ∙ sym (versioned_head c.args.code c.args.media.now c.args.length c.args.version)) c.format.ensures.ok;
}
