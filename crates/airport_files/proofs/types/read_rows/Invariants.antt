use Rattle.std.proofs.Common.{◌≡◌, ℕ, ◌+◌, ◌-◌, List, Some}
use Rattle.csv.specs.declared.parser.State.{State}
use Rattle.csv_records.specs.Reading.{IsReading}
use Rattle.airport_files.specs.Table.{rows_left}
use Rattle.csv_records.proofs.TableWalk.{joined}
use Rattle.airport_files.proofs.types.read_rows.Given as goal

abbrev pub invariant-loop-k : goal.invariant-loop-k
invariant-loop-k l = (s : State) (left : List ℕ) → IsReading (λ b. Some b.now) l.fn.rdr s left
    → (t : State) × (rest : List ℕ) × IsReading (λ b. Some b.now) l.rdr t rest
    × (joined l.rows (rows_left l.columns (l.k + 2) (l.turns - l.k) t rest) ≡ rows_left l.columns 2 l.turns s left)
