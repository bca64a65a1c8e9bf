-- A type is found by its name.
use Rattle.std.proofs.Common.{◌≡◌, ◌∙◌, ◌<◌, ℕ, length, refl, ap, arith, Option, None, Some, get_or, inl, inr}
use Rattle.std.specs.Prelude.{All, slice_get}
use Rattle.std.specs.Option.{option_map}
use Rattle.std.proofs.lemmas.List.Elements.{All-get_or}
use Rattle.std.proofs.lemmas.Option.{slice_get-map, slice_get_cases, slice_get_read}
use Rattle.apron_base.specs.Name.{IsName}
use Rattle.apron_base.specs.declared.numbers.TypeNo.{TypeNo}
use Rattle.apron_base.proofs.NameTests.{name_decides}
use Rattle.apron_rules.specs.Names.{frontage_names, first_repeated, place_of, stand_names, type_names}
use Rattle.apron_rules.specs.Refusals.{airport_fault, duplicate_of, later_fault_of}
use Rattle.apron_rules.specs.declared.parts.AirportParts.{AirportParts}
use Rattle.apron_rules.specs.declared.parts.TypeRow.{TypeRow}
use Rattle.apron_rules.proofs.Airports.{left_none, right_none}
use Rattle.apron_rules.proofs.ByPlace.{place_at}
use Rattle.season_files.specs.Laws.{HasName}
use Rattle.season_files.specs.Records.{type_named}
use Rattle.season_files.specs.Texts.{name_of_type}

unmapped : {A B : Type 0} (f : A → B) (o : Option A) → option_map f o ≡ None → o ≡ None
unmapped f None h = refl
unmapped f (Some x) h = absurd (cc)

-- no name of a type occurs twice
types_once : (parts : AirportParts) → airport_fault parts ≡ None → first_repeated (type_names parts) ≡ None
unfolding airport_fault
types_once parts h =
    let once = unmapped _ (duplicate_of parts) (left_none _ (later_fault_of parts) h) in
    right_none (first_repeated (stand_names parts)) _ (right_none (first_repeated (frontage_names parts)) _ once)

-- the place of a type's name is the type's number
type_place : (parts : AirportParts) (k : ℕ) (row : TypeRow) → airport_fault parts ≡ None → slice_get parts.types k ≡ Some row → place_of row.name (type_names parts) ≡ Some k
type_place parts k row none at =
    place_at (type_names parts) k row.name (types_once parts none) (slice_get-map (λ (row : TypeRow). row.name) parts.types k ∙ ap (option_map (λ (row : TypeRow). row.name)) at)

-- the row of a type of the airport
pub record IsRowOf (airport : AirportParts) (kind : TypeNo) (row : TypeRow) : Type 0 where
  pub at : slice_get airport.types kind.0 ≡ Some row
  pub name : IsName row.name

pub row_is : (airport : AirportParts) (kind : TypeNo) (row : TypeRow) → kind.0 < length airport.types → row ≡ get_or airport.types kind.0 row → IsName row.name → IsRowOf airport kind row
row_is airport kind row h at name = record { at = slice_get_read airport.types (length airport.types) kind.0 row refl h at; name = name }

pub type_row : (airport : AirportParts) (kind : TypeNo) → All HasName airport.types → kind.0 < length airport.types → (row : TypeRow) × IsRowOf airport kind row
type_row airport kind named h = elim (slice_get_cases airport.types kind.0).1 [
  | inl found ↦ (found.0, record { at = found.2; name = rw found.3 at (All-get_or HasName airport.types kind.0 found.0 h named) })
  | inr past ↦ absurd (omega (arith, past.0))
]

pub name_of_type-is : (airport : AirportParts) (kind : TypeNo) (row : TypeRow) → slice_get airport.types kind.0 ≡ Some row → name_of_type airport kind ≡ row.name
name_of_type-is airport kind row at = rw at refl

-- a type is found by its name
pub type-back : (airport : AirportParts) (kind : TypeNo) (row : TypeRow) → airport_fault airport ≡ None → IsRowOf airport kind row → type_named airport (name_of_type airport kind) ≡ Some kind
type-back airport kind row none h =
    rw (name_of_type-is airport kind row h.at, (name_decides row.name).1 h.name, type_place airport kind.0 row none h.at) refl
