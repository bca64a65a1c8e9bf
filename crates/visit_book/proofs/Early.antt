-- The minutes of a well-formed visit are small numbers.
use Rattle.std.proofs.Common.{◌≡◌, ◌≤◌, ◌<◌, ◌+◌, ◌^◌, ℕ, List, [], ◌∷◌, length, arith}
use Rattle.std.specs.List.{AllByRecursion}
use Rattle.std.specs.Prelude.{slice_index_or}
use Rattle.std.proofs.lemmas.List.Elements.{All-from_recursion}
use Rattle.apron_rules.specs.declared.parts.AirportParts.{AirportParts}
use Rattle.apron_rules.specs.Rules.{IsAirport, least_of}
use Rattle.visit_book.specs.declared.visits.Part.{Part}
use Rattle.visit_book.specs.declared.visits.Visit.{Visit}
use Rattle.visit_book.specs.PartFields.{no_part}
use Rattle.visit_book.specs.WellFormed.{IsSpaced, IsWellFormed, latest_end}
use Rattle.visit_book.proofs.Least.{least_of_few}

spaced_up : (tow start : ℕ) (parts : List Part) → IsSpaced tow start parts → AllByRecursion (λ part. part.from < part.to) parts
spaced_up tow start [] h = tt
spaced_up tow start (part ∷ parts) h = (h.1, spaced_up tow (part.to + tow) parts h.2)

-- a part that is read from a slice of the parts starts and ends early enough
pub part_early : (airport : AirportParts) (visit : Visit) (slice : List Part) (place : ℕ) → IsAirport airport → IsWellFormed airport visit
    → slice ≡ visit.parts → place < length visit.parts
    → ((slice_index_or slice place no_part).from < 2 ^ 16) × ((slice_index_or slice place no_part).to < 2 ^ 16)
part_early airport visit slice place airports h same inside =
    let part : Part = slice_index_or visit.parts place no_part in
    let days : airport.days ≤ 28 = airports.days in
    let tow : airport.tow ≤ 240 = airports.tow in
    let least : least_of airport visit.kind ≤ 600 = least_of_few airport visit.kind airports in
    let end : part.to ≤ latest_end airport visit.kind = h.ends place no_part inside in
    let up : part.from < part.to = All-from_recursion (λ part. part.from < part.to) visit.parts (spaced_up airport.tow 0 visit.parts h.spaced) place no_part inside in
    rw same (omega arith, omega arith)
