-- The body of a visit that is to be added.
use Rattle.std.specs.Prelude.{ℕ, List, codes, Option, Some, None, option_map}
use Rattle.apron_base.specs.OptionChain.{◌>>=◌}
use Rattle.serde_json.specs.Data.{Data, null}
use Rattle.serde_json.specs.Find.{get}
use Rattle.mvt_grammar.specs.Flights.{flight_of}
use Rattle.visit_book.specs.WellFormed.{greatest_class}
use Rattle.visit_book.specs.declared.visits.Key.{Key}
use Rattle.desk_bodies.specs.Commits.{name_at}
use Rattle.desk_bodies.specs.Fields.{body_data, max_u32, max_u8, number_at, text_at}

-- what is said of a visit, with its name and its type by their bytes
pub record VisitSaid : Type 0 where
  pub name : List ℕ
  pub kind : List ℕ
  pub class : ℕ
  pub on : ℕ
  pub off : ℕ
  pub arr : Option Key
  pub dep : Option Key

-- {"flight":FLIGHT,"day":D}
abbrev pub json_key : Data → Option Key
json_key d = do
  flight ← text_at (codes "flight") d >>= flight_of
  day ← number_at (codes "day") max_u8 d
  Some (record { flight = flight; day = day })

-- a key, or none if it is null or missing
abbrev pub json_key_if : Option Data → Option (Option Key)
json_key_if None = Some None
json_key_if (Some null) = Some None
json_key_if (Some d) = option_map Some (json_key d)

-- the key under a name
abbrev pub json_key_at : List ℕ → Data → Option (Option Key)
json_key_at name d = json_key_if (get name d)

-- {"name":NAME,"type":TYPE,"class":C,"on":M,"off":M,"arr":KEY,"dep":KEY}
unfoldable pub json_visit : Data → Option VisitSaid
json_visit d = do
  name ← name_at (codes "name") d
  kind ← text_at (codes "type") d
  class ← number_at (codes "class") greatest_class d
  on ← number_at (codes "on") max_u32 d
  off ← number_at (codes "off") max_u32 d
  arr ← json_key_at (codes "arr") d
  dep ← json_key_at (codes "dep") d
  Some (record { name = name; kind = kind; class = class; on = on; off = off; arr = arr; dep = dep })

-- the visit of a body
abbrev pub body_visit : List ℕ → Option VisitSaid
body_visit bytes = body_data bytes >>= json_visit
