use Rattle.std.proofs.Common.{◌≡◌, ℕ, ◌+◌, ◌-◌, List, Some, All}
use Rattle.csv.specs.declared.parser.State.{State}
use Rattle.visit_book.specs.NewVisits.{IsNewVisitOf}
use Rattle.csv_records.specs.Reading.{IsReading}
use Rattle.season_files.specs.Seasons.{visits_left}
use Rattle.csv_records.proofs.TableWalk.{joined}
use Rattle.season_files.proofs.read.read_visits.Given as goal

abbrev pub invariant-loop-k : goal.invariant-loop-k
invariant-loop-k l = record {
  read : (s : State) (left : List ℕ) → IsReading (λ b. Some b.now) l.fn.rdr s left
      → (t : State) × (rest : List ℕ) × IsReading (λ b. Some b.now) l.rdr t rest
      × (joined l.visits (visits_left l.airport (l.k + 2) (l.turns - l.k) t rest) ≡ visits_left l.airport 2 l.turns s left);
  new : All (IsNewVisitOf l.airport) l.visits;
}
