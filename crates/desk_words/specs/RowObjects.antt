-- The parts of a plan, as replies list them.
use Rattle.std.specs.Prelude.{ℕ, List, codes, map}
use Rattle.serde_json.specs.Data.{Data, boolean, array, object, member, no_members}
use Rattle.serde_json.specs.View.{items_of}
use Rattle.apron_rules.specs.declared.parts.AirportParts.{AirportParts}
use Rattle.visit_book.specs.Places.{is_actual, stand_of}
use Rattle.visit_book.specs.declared.visits.PartRow.{PartRow}
use Rattle.desk_words.specs.PartObjects.{or_null, stand_data, whole}
use Rattle.desk_words.specs.VisitObjects.{bump_data, bump_of}

-- {"actual":BOOL,"from":M,"part":P,"stand":STAND,"to":M,"visit":N}
abbrev pub placed_data : AirportParts → PartRow → Data
placed_data airport row =
    object (member (codes "actual") (boolean (is_actual row.part.place))
    (member (codes "from") (whole row.part.from)
    (member (codes "part") (whole row.id.part)
    (member (codes "stand") (or_null (stand_data airport) (stand_of row.part.place))
    (member (codes "to") (whole row.part.to)
    (member (codes "visit") (whole row.id.visit.0) no_members))))))

-- {"bump":BUMP,"from":M,"part":P,"to":M,"visit":N}
abbrev pub waiting_data : AirportParts → PartRow → Data
waiting_data airport row =
    object (member (codes "bump") (or_null (bump_data airport) (bump_of row.part.place))
    (member (codes "from") (whole row.part.from)
    (member (codes "part") (whole row.id.part)
    (member (codes "to") (whole row.part.to)
    (member (codes "visit") (whole row.id.visit.0) no_members)))))

-- {"parts":[..],"version":N}
abbrev pub list_data : List Data → ℕ → Data
list_data parts version =
    object (member (codes "parts") (array (items_of parts))
    (member (codes "version") (whole version) no_members))

-- the parts of a plan on a day
abbrev pub plan_data : AirportParts → List PartRow → ℕ → Data
plan_data airport parts version = list_data (map (placed_data airport) parts) version

-- the parts that wait for a stand
abbrev pub unplaced_data : AirportParts → List PartRow → ℕ → Data
unplaced_data airport parts version = list_data (map (waiting_data airport) parts) version
