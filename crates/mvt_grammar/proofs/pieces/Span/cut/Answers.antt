use Rattle.std.proofs.Common.{◌≡◌, Some, None, sym}
use Rattle.mvt_grammar.specs.Bytes.{split_once}
use Rattle.mvt_grammar.proofs.Cuts.{cut_at-some, cut_at-none}
use Rattle.mvt_grammar.proofs.pieces.Span.cut.Goals as goal

pub returns-in-Some : goal.returns-in-Some
returns-in-Some c =
    let found : split_once c.args.byte c.args.self.text.now ≡ Some (c.in-Some.front.now, c.in-Some.rest.now) = sym c.in-Some.ensures.parts in
    record { value = cut_at-some c.args.byte c.args.self.at c.args.self.text.now c.in-Some.front.now c.in-Some.rest.now found }

pub returns-in-None : goal.returns-in-None
returns-in-None c =
    let none : split_once c.args.byte c.args.self.text.now ≡ None = sym c.in-None.ensures.parts in
    record { value = cut_at-none c.args.byte c.args.self.at c.args.self.text.now none }
