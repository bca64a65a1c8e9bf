-- Some replies, byte for byte.
use Rattle.std.specs.Prelude.{◌≡◌, [], ◌∷◌, None, Some, false, codes}
use Rattle.apron_base.specs.declared.letter.Letter.TheVariants.{C}
use Rattle.apron_rules.specs.declared.parts.AirportParts.{AirportParts}
use Rattle.apron_rules.specs.declared.parts.StandRow.{StandRow}
use Rattle.apron_rules.specs.declared.parts.TypeRow.{TypeRow}
use Rattle.apron_rules.specs.declared.rules.Rule.TheVariants.{Clearance, Same}
use Rattle.apron_rules.specs.declared.rules.UnfitBy.TheVariants.{Object}
use Rattle.apron_rules.specs.declared.rules.Clash.{Clash as TheClash}
use Rattle.mvt_grammar.specs.declared.message.Flight.{Flight}
use Rattle.visit_book.specs.declared.visits.End.TheVariants.{Live}
use Rattle.visit_book.specs.declared.visits.Part.{Part}
use Rattle.visit_book.specs.declared.visits.Bump.{Bump}
use Rattle.visit_book.specs.declared.visits.Place.TheVariants.{Planned, Actual, Unplaced as Nowhere}
use Rattle.visit_book.specs.declared.visits.Visit.{Visit}
use Rattle.visit_book.specs.declared.edits.EditFault.TheVariants.{Unfit, Clash}
use Rattle.visit_book.specs.declared.visits.PartRow.{PartRow}
use Rattle.desk_words.specs.declared.replies.ReplyBody.TheVariants.{Committed, Visit as AVisit, Plan, Unplaced, Chart, Edit}
use Rattle.desk_words.specs.Replies.{reply_text}

-- a commit made version 7, and the plan is at version 9
abbrev pub CommittedIsSpelt : Type 0
CommittedIsSpelt =
    (airport : AirportParts) → reply_text airport (record { version = 9; told = Committed 7 })
    ≡ codes "HTTP/1.1 200 OK\r\nContent-Type: application/json\r\nContent-Length: 13\r\nX-Version: 9\r\n\r\n{\"version\":7}"

-- a stand
abbrev pub example_stand : StandRow
example_stand = record {
  name = codes "N1";
  frontage = codes "N";
  centre = 4000;
  letter = C;
  buffer = 10;
  half_of = None;
}

-- a type
abbrev pub example_type : TypeRow
example_type = record { name = codes "A320"; span = 3580; least = 40; parked = 3580; fold = 0 }

-- an airport of that stand and that type
abbrev pub example_airport : AirportParts
example_airport = record {
  station = codes "APR";
  first = record { year = 2026; month = 3; day = 27 };
  days = 3;
  taxi_in = 5;
  tow = 20;
  frontages = record { name = codes "N"; objects = [] } ∷ [];
  stands = example_stand ∷ [];
  pairs = [];
  types = example_type ∷ [];
}

-- from 600 to 660 on the stand, by the plan
abbrev pub example_part : Part
example_part = record { from = 600; to = 660; place = Planned (record { 0 = 0 }) }

-- flight 27 of LH, which is written without leading zeros
abbrev pub example_arrival : Flight
example_arrival = record { airline = codes "LH"; number = 27; suffix = None }

-- flight 1400 of LH with the suffix A
abbrev pub example_departure : Flight
example_departure = record { airline = codes "LH"; number = 1400; suffix = Some 65 }

-- a visit of the type with that part and those flights, last edited by the commit that made version
-- 2
abbrev pub example_visit : Visit
example_visit = record {
  number = record { 0 = 1 };
  name = codes "V1";
  kind = record { 0 = 0 };
  class = 3;
  on = 600;
  off = 660;
  arr = Some (record { flight = example_arrival; day = 0 });
  dep = Some (record { flight = example_departure; day = 1 });
  parts = example_part ∷ [];
  on_block = false;
  end = Live;
  added = 1;
  edited = 2;
}

-- that visit at that airport, at version 3
abbrev pub VisitIsSpelt : Type 0
VisitIsSpelt =
    reply_text example_airport (record { version = 3; told = AVisit example_visit })
    ≡ codes "HTTP/1.1 200 OK\r\nContent-Type: application/json\r\nContent-Length: 247\r\nX-Version: 3\r\n\r\n{\"arr\":{\"day\":0,\"flight\":\"LH27\"},\"class\":3,\"dep\":{\"day\":1,\"flight\":\"LH1400A\"},\"edited\":2,\"name\":\"V1\",\"off\":660,\"on\":600,\"parts\":[{\"actual\":false,\"bump\":null,\"from\":600,\"stand\":\"N1\",\"to\":660}],\"state\":\"expected\",\"type\":\"A320\",\"version\":3,\"visit\":1}"

-- part 1 of visit 2 from 600 to 660, on the stand in fact
abbrev pub example_placed : PartRow
example_placed = record {
  id = record { visit = record { 0 = 2 }; part = 1 };
  part = record { from = 600; to = 660; place = Actual (record { 0 = 0 }) };
}

-- only that part holds a stand of that airport on a day, at version 4
abbrev pub PlanIsSpelt : Type 0
PlanIsSpelt =
    reply_text example_airport (record { version = 4; told = Plan (example_placed ∷ []) })
    ≡ codes "HTTP/1.1 200 OK\r\nContent-Type: application/json\r\nContent-Length: 91\r\nX-Version: 4\r\n\r\n{\"parts\":[{\"actual\":true,\"from\":600,\"part\":1,\"stand\":\"N1\",\"to\":660,\"visit\":2}],\"version\":4}"

-- what took the stand of a part: by entry 5 it clashed with part 1 of visit 1 from minute 680 on
abbrev pub example_bump : Bump
example_bump = record {
  stand = record { 0 = 0 };
  entry = 5;
  blocker = record { visit = record { 0 = 1 }; part = 1 };
  minute = 680;
  rule = Same;
}

-- part 1 of visit 2, which lost its stand that way
abbrev pub example_bumped : PartRow
example_bumped = record {
  id = record { visit = record { 0 = 2 }; part = 1 };
  part = record { from = 680; to = 740; place = Nowhere (Some example_bump) };
}

-- part 3 of visit 1, which was on no stand yet
abbrev pub example_waiting : PartRow
example_waiting = record {
  id = record { visit = record { 0 = 1 }; part = 3 };
  part = record { from = 10; to = 20; place = Nowhere None };
}

-- those two parts wait for a stand of that airport, at version 5
abbrev pub UnplacedIsSpelt : Type 0
UnplacedIsSpelt =
    reply_text example_airport
    (record { version = 5; told = Unplaced (example_bumped ∷ example_waiting ∷ []) })
    ≡ codes "HTTP/1.1 200 OK\r\nContent-Type: application/json\r\nContent-Length: 205\r\nX-Version: 5\r\n\r\n{\"parts\":[{\"bump\":{\"blocker\":{\"part\":1,\"visit\":1},\"entry\":5,\"minute\":680,\"rule\":\"same\",\"stand\":\"N1\"},\"from\":680,\"part\":1,\"to\":740,\"visit\":2},{\"bump\":null,\"from\":10,\"part\":3,\"to\":20,\"visit\":1}],\"version\":5}"

-- a chart is sent as its text
abbrev pub ChartIsSpelt : Type 0
ChartIsSpelt =
    (airport : AirportParts)
    → reply_text airport (record { version = 7; told = Chart (codes "END\n") })
    ≡ codes "HTTP/1.1 200 OK\r\nContent-Type: text/plain\r\nContent-Length: 4\r\nX-Version: 7\r\n\r\nEND\n"

-- edit 2 is refused at version 10, since its type would come too near to object 3 of the stand's
-- frontage
abbrev pub UnfitIsSpelt : Type 0
UnfitIsSpelt =
    (airport : AirportParts)
    → reply_text airport (record { version = 10; told = Edit (Unfit 2 (Object 3)) })
    ≡ codes "HTTP/1.1 422 Unprocessable Entity\r\nContent-Type: application/json\r\nContent-Length: 57\r\nX-Version: 10\r\n\r\n{\"by\":{\"object\":3},\"edit\":2,\"error\":\"unfit\",\"version\":10}"

-- part 1 of visit 3 and part 2 of visit 40 come too near to each other from minute 480 on
abbrev pub example_clash : TheClash
example_clash = record {
  minute = 480;
  a = record { visit = record { 0 = 3 }; part = 1 };
  b = record { visit = record { 0 = 40 }; part = 2 };
  rule = Clearance;
}

-- that clash, at version 12
abbrev pub ClashIsSpelt : Type 0
ClashIsSpelt =
    (airport : AirportParts)
    → reply_text airport (record { version = 12; told = Edit (Clash example_clash) })
    ≡ codes "HTTP/1.1 422 Unprocessable Entity\r\nContent-Type: application/json\r\nContent-Length: 113\r\nX-Version: 12\r\n\r\n{\"a\":{\"part\":1,\"visit\":3},\"b\":{\"part\":2,\"visit\":40},\"error\":\"clash\",\"minute\":480,\"rule\":\"clearance\",\"version\":12}"
