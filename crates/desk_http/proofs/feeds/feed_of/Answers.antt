use Rattle.std.proofs.Common.{◌∙◌, ◌+◌, ap, sym, take}
use Rattle.std.proofs.lemmas.List.{take_rest}
use Rattle.desk_http.specs.FeedTargets.{feed_named, feed_of}
use Rattle.desk_http.proofs.FeedTargets.{behind, feed_at, no_feed_at}
use Rattle.desk_http.proofs.feeds.feed_of.Goals as goal

pub returns-in_err-end : goal.returns-in_err-end
returns-in_err-end c =
    let cases = c.in_ok-named.ensures.cases in
    let none = sym c.slash_at.ensures.place ∙ c.in_err-end.was in
    let is = no_feed_at c.in_ok-named.named.now none ∙ ap feed_of (sym (behind c.args.target.now c.in_ok-named.named.now cases.0 cases.1)) in
    record { is = c.from_residual-in_err-end.ensures ∙ is }

pub returns : goal.returns
returns c =
    let cases = c.in_ok-named.ensures.cases in
    let rest = c.in_ok-named.named.now in
    let end = c.in_ok-end.end in
    let some = sym c.slash_at.ensures.place ∙ c.in_ok-end.was in
    let is = feed_at rest end some ∙ ap feed_of (sym (behind c.args.target.now rest cases.0 cases.1)) in
    record { is = c.feed_named.ensures.is ∙ ap (feed_named (take end rest)) (take_rest rest (end + 1)) ∙ is }
