-- A visit, as replies give it.
use Rattle.std.specs.Prelude.{ℕ, Bool, List, Option, None, Some, codes, map, if◌then◌else◌}
use Rattle.serde_json.specs.Data.{Data, Members, boolean, string, array, object, member, no_members}
use Rattle.serde_json.specs.View.{items_of}
use Rattle.mvt_grammar.specs.Canonical.{flight_text}
use Rattle.apron_rules.specs.declared.parts.AirportParts.{AirportParts}
use Rattle.visit_book.specs.Places.{is_actual, stand_of}
use Rattle.visit_book.specs.declared.visits.Bump.{Bump}
use Rattle.visit_book.specs.declared.visits.End.{End}
use Rattle.visit_book.specs.declared.visits.End.TheVariants.{Live, Gone, Cancelled}
use Rattle.visit_book.specs.declared.visits.Key.{Key}
use Rattle.visit_book.specs.declared.visits.Part.{Part}
use Rattle.visit_book.specs.declared.visits.Place.{Place}
use Rattle.visit_book.specs.declared.visits.Place.TheVariants.{Unplaced}
use Rattle.visit_book.specs.declared.visits.Visit.{Visit}
use Rattle.apron_rules.specs.RuleWords.{rule_word}
use Rattle.desk_words.specs.PartObjects.{or_null, part_data, stand_data, type_data, whole}

-- {"blocker":PART,"entry":N,"minute":M,"rule":WORD,"stand":STAND}
abbrev pub bump_data : AirportParts → Bump → Data
bump_data airport bump =
    object (member (codes "blocker") (part_data bump.blocker)
    (member (codes "entry") (whole bump.entry)
    (member (codes "minute") (whole bump.minute)
    (member (codes "rule") (string (rule_word bump.rule))
    (member (codes "stand") (stand_data airport bump.stand) no_members)))))

-- what took the stand of a part that is on no stand, if anything did
abbrev pub bump_of : Place → Option Bump
bump_of (Unplaced bump) = bump
bump_of place = None

-- {"actual":BOOL,"bump":BUMP,"from":M,"stand":STAND,"to":M}, with null for what there is not
abbrev pub stay_data : AirportParts → Part → Data
stay_data airport part =
    object (member (codes "actual") (boolean (is_actual part.place))
    (member (codes "bump") (or_null (bump_data airport) (bump_of part.place))
    (member (codes "from") (whole part.from)
    (member (codes "stand") (or_null (stand_data airport) (stand_of part.place))
    (member (codes "to") (whole part.to) no_members)))))

-- the state of a visit: cancelled, gone, on block, or expected
abbrev pub state_word : End → Bool → List ℕ
state_word Cancelled on_block = codes "cancelled"
state_word Gone on_block = codes "gone"
state_word Live on_block = if on_block then codes "onblock" else codes "expected"

-- {"day":D,"flight":FLIGHT}, the number of the flight without leading zeros
abbrev pub key_data : Key → Data
key_data key =
    object (member (codes "day") (whole key.day)
    (member (codes "flight") (string (flight_text key.flight)) no_members))

-- the last members of a visit: the plan's version if it is given, and the number
abbrev pub last_members : Option ℕ → Visit → Members
last_members None visit = member (codes "visit") (whole visit.number.0) no_members
last_members (Some version) visit =
    member (codes "version") (whole version)
    (member (codes "visit") (whole visit.number.0) no_members)

-- a visit with its parts. The plan's version is given, and is among the members, if the visit stands
-- alone
abbrev pub visit_data : AirportParts → Option ℕ → Visit → Data
visit_data airport version visit =
    object (member (codes "arr") (or_null key_data visit.arr)
    (member (codes "class") (whole visit.class)
    (member (codes "dep") (or_null key_data visit.dep)
    (member (codes "edited") (whole visit.edited)
    (member (codes "name") (string visit.name)
    (member (codes "off") (whole visit.off)
    (member (codes "on") (whole visit.on)
    (member (codes "parts") (array (items_of (map (stay_data airport) visit.parts)))
    (member (codes "state") (string (state_word visit.end visit.on_block))
    (member (codes "type") (type_data airport visit.kind) (last_members version visit)))))))))))

-- {"version":N,"visits":[VISIT, ..]}
abbrev pub day_data : AirportParts → List Visit → ℕ → Data
day_data airport visits version =
    object (member (codes "version") (whole version)
    (member (codes "visits")
    (array (items_of (map (visit_data airport None) visits))) no_members))
