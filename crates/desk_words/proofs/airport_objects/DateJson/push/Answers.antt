use Rattle.std.proofs.Common.{append_assoc}
use Rattle.desk_words.proofs.Dates.{date_quoted}
use Rattle.desk_words.proofs.airport_objects.DateJson.push.Goals as goal

pub returns : goal.returns
returns g c = record {
  text = rw (
    c.in_ok-push-4.ensures.items,
    c.in_ok-push_number-5.ensures.text,
    c.in_ok-push_number-4.ensures.text,
    c.in_ok-push-3.ensures.items,
    c.in_ok-push_number-3.ensures.text,
    c.in_ok-push_number-2.ensures.text,
    c.in_ok-push-2.ensures.items,
    c.in_ok-push_number.ensures.text,
    c.in_ok-push.ensures.items,
    date_quoted c.args.self.now c.requires.can,
  ) (simp append_assoc);
}
