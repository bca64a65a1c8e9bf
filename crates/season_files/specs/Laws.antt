-- What is written is read back.
use Rattle.std.specs.Prelude.{◌≡◌, List, All, Ok}
use Rattle.apron_base.specs.Name.{IsName}
use Rattle.apron_rules.specs.Rules.{IsAirport}
use Rattle.apron_rules.specs.declared.parts.AirportParts.{AirportParts}
use Rattle.apron_rules.specs.declared.parts.TypeRow.{TypeRow}
use Rattle.visit_book.specs.NewVisits.{IsNewVisitOf, new_of}
use Rattle.visit_book.specs.declared.visits.Visit.{Visit}
use Rattle.season_files.specs.Seasons.{season_in}
use Rattle.season_files.specs.Texts.{season_of, season_text}

-- the name of the type is a name; a definition has to say so, since here texts range over all lists
abbrev pub HasName : TypeRow → Type 0
HasName row = IsName row.name

-- a visit with a name, added with data valid at the airport, as each visit of a plan of the airport
-- was
pub record IsVisitOf (airport : AirportParts) (visit : Visit) : Type 0 where
  pub name : IsName visit.name
  pub new : IsNewVisitOf airport (new_of visit)

-- the season file of visits of an airport is read as the data that the uncancelled ones were added
-- with
abbrev pub SeasonIsReadBack : Type 0
SeasonIsReadBack =
    (airport : AirportParts) (visits : List Visit)
    → IsAirport airport
    → All HasName airport.types
    → All (IsVisitOf airport) visits
    → season_in airport (season_text airport (season_of visits)) ≡ Ok (season_of visits)
