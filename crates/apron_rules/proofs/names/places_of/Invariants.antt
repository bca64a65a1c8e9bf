use Rattle.std.proofs.Common.{◌≡◌, take, drop}
use Rattle.apron_rules.specs.Names.{repeated_after, first_repeated}
use Rattle.apron_rules.specs.Tables.{IsPlaces}
use Rattle.apron_rules.proofs.names.places_of.Given as goal

abbrev pub invariant-loop-place : goal.invariant-loop-place
invariant-loop-place l = IsPlaces l.places (take l.place l.names) × (repeated_after (take l.place l.names) (drop l.place l.names) ≡ first_repeated l.names)
