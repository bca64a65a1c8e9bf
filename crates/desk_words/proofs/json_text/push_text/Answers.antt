use Rattle.std.proofs.Common.{append_assoc}
use Rattle.desk_words.proofs.PlainTexts.{quoted_plain}
use Rattle.desk_words.proofs.json_text.push_text.Goals as goal

pub returns : goal.returns
returns c = record {
  text = rw (
    c.in_ok-push-2.ensures.items,
    c.in_ok-extend_from_slice.ensures.items,
    c.in_ok-push.ensures.items,
    quoted_plain c.args.text.now c.requires.plain,
  ) (simp append_assoc);
}
