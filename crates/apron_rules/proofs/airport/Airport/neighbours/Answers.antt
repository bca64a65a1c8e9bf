use Rattle.std.proofs.Common.{◌≡◌, ◌∙◌, ◌<◌, [], sym, subst, ap, length, arith}
use Rattle.std.specs.Prelude.{slice_index_or}
use Rattle.std.proofs.lemmas.List.{get_or_read}
use Rattle.apron_rules.specs.declared.parts.AirportParts.{AirportParts}
use Rattle.apron_rules.specs.Neighbours.{neighbours_of}
use Rattle.apron_rules.proofs.airport.Airport.neighbours.Goals as goal

pub returns-clause-neighbours : goal.returns-clause-neighbours
returns-clause-neighbours c =
    let a = c.self.inside in
    let s = c.args.s in
    let inside : s.0 < length a.parts.stands = subst (λ (parts : AirportParts). s.0 < length parts.stands) (sym c.self.view_is) c.requires.s in
    let below : s.0 < length a.neighbours.items = omega (arith, inside, c.self.invariant.bordered.counted) in
    let at : slice_index_or a.neighbours.items s.0 [] ≡ c.index.result.now = sym (get_or_read a.neighbours.items s.0 c.index.result.now below c.index.ensures []) in
    c.as_slice.ensures.items ∙ (sym at ∙ (c.self.invariant.bordered.each s below ∙ ap (λ (parts : AirportParts). neighbours_of parts s) c.self.view_is))
