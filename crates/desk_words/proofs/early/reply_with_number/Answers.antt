use Rattle.std.proofs.Common.{◌≡◌, ◌∙◌, ◌++◌, [], ℕ, List, subst}
use Rattle.desk_words.specs.Texts.{json_media, text_of}
use Rattle.desk_words.proofs.Numbered.{pieces_are_text}
use Rattle.desk_words.proofs.early.reply_with_number.Goals as goal

pub returns : goal.returns
returns c = record {
  text = λ code status. subst (λ (number : List ℕ). c.push-7.new.self ≡ text_of code json_media [] (c.args.start.now ++ (number ++ c.args.end.now)))
      (c.as_bytes-number.ensures.value ∙ c.format.ensures.text)
      (pieces_are_text code c.args.status.now c.args.start.now c.as_bytes-number.result.now c.args.end.now c.as_bytes.result.now c.of-text.result
      c.push.new.self c.push-2.new.self c.push-3.new.self c.push-4.new.self c.push-5.new.self c.push-6.new.self c.push-7.new.self status
      (c.as_bytes.ensures.value ∙ c.format-length.ensures.text) c.of-text.ensures.bytes c.push.ensures.bytes c.push-2.ensures.bytes
      c.push-3.ensures.bytes c.push-4.ensures.bytes c.push-5.ensures.bytes c.push-6.ensures.bytes c.push-7.ensures.bytes);
}
