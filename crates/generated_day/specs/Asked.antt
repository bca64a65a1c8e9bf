-- What is asked while a day is made.
use Rattle.std.specs.Prelude.{ℕ, ◌+◌, ◌%◌, ◌∷◌, [], List, codes, decimal, Some, None}
use Rattle.std.specs.Option.{option_map_or}
use Rattle.mvt_grammar.specs.Reading.{message_head}
use Rattle.mvt_grammar.specs.declared.message.Flight.{Flight}
use Rattle.mvt_grammar.specs.declared.message.Mvt.{Mvt}
use Rattle.visit_book.specs.Numbers.{visit_at}
use Rattle.visit_book.specs.declared.edits.Edit.TheVariants.{Put}
use Rattle.visit_book.specs.declared.visits.NewVisit.{NewVisit}
use Rattle.visit_book.specs.declared.visits.Visit.{Visit}
use Rattle.desk_asks.specs.declared.asks.Command.{Command}
use Rattle.desk_asks.specs.declared.asks.Command.TheVariants.{Commit}
use Rattle.desk_asks.specs.declared.asks.DeskMessage.{DeskMessage}
use Rattle.generated_day.specs.Draws.{draw_below, seed_after}

-- the flight that the visit of this number comes by
abbrev pub day_flight : ℕ → Flight
day_flight number = record { airline = codes "MK"; number = number; suffix = None }

-- the visit of this number, by four draws: of its type, its class, its minute on block, and how
-- long it stays beyond 90 minutes
unfoldable pub drawn_visit : ℕ → ℕ → NewVisit
drawn_visit number seed = let on = 30 + draw_below 1300 (seed_after 3 seed) in record {
  name = 77 ∷ decimal number;
  kind = record { 0 = draw_below 5 (seed_after 1 seed) };
  class = draw_below 10 (seed_after 2 seed);
  on = on;
  off = on + 90 + draw_below 60 (seed_after 4 seed);
  arr = Some (record { flight = day_flight number; day = 1 });
  dep = None;
}

-- a commit of one edit, over this version, which puts the first part of the visit on the stand
unfoldable pub put_first : ℕ → ℕ → ℕ → ℕ → Command
put_first draft version number stand = Commit (record {
  desk = codes "MAKE";
  number = draft;
  base = version;
  edits = Put (record { 0 = number }) 1 (record { 0 = stand }) ∷ [];
})

-- the scheduled minute on block of the visit of this number
abbrev pub scheduled_on : List Visit → ℕ → ℕ
scheduled_on visits number =
    option_map_or (λ visit. visit.on) (visit_at visits (record { 0 = number })) 0

-- a message that the visit of this number is estimated on the ground this many minutes after this
-- one, as a clock time
unfoldable pub estimate : ℕ → ℕ → ℕ → Mvt
estimate number on delay =
    record (message_head (day_flight number) 27 (codes "GEN") (codes "MUC")) {
      ea = Some (record { day = None; minute = (on + delay) % 1440 }, codes "APR");
    }

-- the message, as the desk of this day passes it on
abbrev pub passed_on : Mvt → DeskMessage
passed_on message = record { desk = codes "MAKE"; message = message }
