use Rattle.std.proofs.Common.{◌≡◌, ◌∙◌, ap, sym, true}
use Rattle.http_framing.specs.Blank.{is_blank}
use Rattle.http_framing.proofs.StreamLaws.{partial_ended}
use Rattle.http_framing.proofs.incoming.Incoming.end.Goals as goal

pub returns-then-are_blank : goal.returns-then-are_blank
returns-then-are_blank c =
    let blank : is_blank c.args.self.now ≡ true = ap is_blank (sym c.self.view_is ∙ sym c.as_slice.ensures.value) ∙ (sym c.are_blank.ensures.is ∙ c.if-are_blank.true) in
    record { is = partial_ended c.args.self.now c.requires.partial blank }
