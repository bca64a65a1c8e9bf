use Rattle.std.proofs.Common.{◌∙◌, ap, sym}
use Rattle.std.specs.Fmt.{digits}
use Rattle.serde_json.proofs.OnLiterals.{serde_json_on_literals}
use Rattle.desk_words.specs.Early.{early_text}
use Rattle.desk_words.specs.declared.early.EarlyReply.TheVariants.{NotMvt}
use Rattle.desk_words.proofs.Numbered.{bad_request, element_text, twice_text}
use Rattle.desk_words.proofs.early.not_mvt.Goals as goal

pub returns-in-TooLong : goal.returns-in-TooLong
unfolding digits serde_json_on_literals early_text
returns-in-TooLong c = record { text = c.of.ensures.bytes ∙ ap (λ fault. early_text (NotMvt fault)) (sym c.in-TooLong.is) }

pub returns-in-NoIdentifier : goal.returns-in-NoIdentifier
unfolding digits serde_json_on_literals early_text
returns-in-NoIdentifier c = record { text = c.of-in-NoIdentifier.ensures.bytes ∙ ap (λ fault. early_text (NotMvt fault)) (sym c.in-NoIdentifier.is) }

pub returns-in-BadFlightLine : goal.returns-in-BadFlightLine
unfolding digits serde_json_on_literals early_text
returns-in-BadFlightLine c = record { text = c.of-in-BadFlightLine.ensures.bytes ∙ ap (λ fault. early_text (NotMvt fault)) (sym c.in-BadFlightLine.is) }

pub returns-in-BadElement : goal.returns-in-BadElement
returns-in-BadElement c = record {
  text = c.reply_with_number.ensures.text 400 bad_request ∙ element_text c.in-BadElement.place ∙ ap (λ fault. early_text (NotMvt fault)) (sym c.in-BadElement.is);
}

pub returns-in-Twice : goal.returns-in-Twice
returns-in-Twice c = record {
  text = c.reply_with_number-in-Twice.ensures.text 400 bad_request ∙ twice_text c.in-Twice.place ∙ ap (λ fault. early_text (NotMvt fault)) (sym c.in-Twice.is);
}
