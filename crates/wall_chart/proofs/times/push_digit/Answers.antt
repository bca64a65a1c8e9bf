use Rattle.std.proofs.Common.{◌∙◌, ◌++◌, ℕ, List, ap, sym}
use Rattle.std.proofs.lemmas.Fmt.{decimal_digit}
use Rattle.wall_chart.proofs.times.push_digit.Goals as goal

pub returns : goal.returns
returns c = record {
  text = c.in_ok-push.ensures.items ∙ ap (λ (digits : List ℕ). c.args.text.now.items ++ digits) (sym (decimal_digit c.args.number c.requires.small));
}
