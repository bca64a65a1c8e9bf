use Rattle.std.proofs.Common.{◌∙◌, [], ℕ, ap}
use Rattle.desk_words.specs.Texts.{json_media, text_of}
use Rattle.desk_words.proofs.Numbered.{stand_body, stand_text, unprocessable}
use Rattle.desk_words.proofs.early.bad_stand.Goals as goal

pub returns : goal.returns
returns c = record {
  text = c.reply_with_number.ensures.text 422 unprocessable
      ∙ (ap (λ (edit : ℕ). text_of 422 json_media [] (stand_body edit)) c.from.ensures ∙ stand_text c.args.edit);
}
