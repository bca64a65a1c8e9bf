use Rattle.std.proofs.lemmas.List.Elements.{All-get_or, All-push}
use Rattle.visit_book.specs.NewVisits.{IsNewVisitOf, new_of}
use Rattle.test_formats.proofs.tests.seasons.visits.Goals as goal

pub loop-place-preserved : goal.loop-place-preserved
loop-place-preserved c =
    let airport = c.args.airport.now in
    let season = c.args.season.now in
    let new = c.index-season-place.result in
    let among = All-get_or (IsNewVisitOf airport) season c.loop-place.place new c.loop-place-test.true c.requires.new in
    let here = rw (← c.index-season-place.is) at among in
    rw c.in_ok-push.ensures.items (All-push (λ visit. IsNewVisitOf airport (new_of visit)) c.loop-place.visits.items c.visit_of.result c.loop-place.invariant (rw c.visit_of.ensures.new here))
