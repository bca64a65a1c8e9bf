use Rattle.std.proofs.Common.{All}
use Rattle.visit_book.specs.NewVisits.{IsNewVisitOf, new_of}
use Rattle.test_formats.proofs.tests.seasons.visits.Given as goal

abbrev pub invariant-loop-place : goal.invariant-loop-place
invariant-loop-place l = All (λ visit. IsNewVisitOf l.airport (new_of visit)) l.visits.items
