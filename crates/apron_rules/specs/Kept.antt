-- What an airport keeps besides its parts.
use Rattle.std.specs.Prelude.{◌≡◌, ◌<◌, ℕ, [], List, length, map, slice_index_or}
use Rattle.apron_base.specs.declared.numbers.StandNo.{StandNo}
use Rattle.apron_rules.specs.declared.links.StandLinks.{StandLinks}
use Rattle.apron_rules.specs.declared.links.StandPair.{StandPair}
use Rattle.apron_rules.specs.declared.parts.AirportParts.{AirportParts}
use Rattle.apron_rules.specs.Links.{links_of, ArePairs}
use Rattle.apron_rules.specs.Names.{frontage_names, stand_names, type_names}
use Rattle.apron_rules.specs.Neighbours.{neighbours_of}
use Rattle.apron_rules.specs.Rules.{IsAirport}

-- the parts are those of an airport, and the links and the pair restrictions of each stand are
-- theirs
pub record IsLinked (parts : AirportParts) (links : List StandLinks)
    (pairs : List (List StandPair)) : Type 0 where
  pub airport : IsAirport parts
  pub linked : links ≡ map (links_of (frontage_names parts) (stand_names parts)) parts.stands
  pub paired : ArePairs (stand_names parts) parts.pairs pairs
  pub counted : length pairs ≡ length parts.stands

-- each stand has its neighbours
pub record AreAllNeighbours (parts : AirportParts) (neighbours : List (List StandNo)) : Type 0 where
  pub counted : length neighbours ≡ length parts.stands
  pub each : (s : StandNo)
      → s.0 < length neighbours
      → slice_index_or neighbours s.0 [] ≡ neighbours_of parts s

-- the parts are those of an airport, and the names, the links, the pair restrictions and the
-- neighbours of each stand are theirs
pub record IsKeptAirport (parts : AirportParts) (stands types : List (List ℕ))
    (links : List StandLinks) (pairs : List (List StandPair))
    (neighbours : List (List StandNo)) : Type 0 where
  pub stands_named : stands ≡ stand_names parts
  pub types_named : types ≡ type_names parts
  pub linked : IsLinked parts links pairs
  pub bordered : AreAllNeighbours parts neighbours
