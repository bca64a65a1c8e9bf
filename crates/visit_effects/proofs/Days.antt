-- The latest day is one of those that are tried.
use Rattle.std.proofs.Common.{◌≤◌, ◌<◌, ◌+◌, ℕ, zero, suc, Bool, true, false, arith}
use Rattle.std.specs.Prelude.{Option, Some, IfSome, if◌then◌else◌}
use Rattle.visit_effects.specs.ClockTimes.{latest_day}

holds_when : (Holds : ℕ → Type 0) (b : Bool) (day : ℕ) (earlier : Option ℕ) → Holds day → IfSome earlier Holds → IfSome (if b then Some day else earlier) Holds
holds_when Holds true day earlier h k = h
holds_when Holds false day earlier h k = k

-- what holds of each of this many days holds of the latest
pub latest_holds : (Holds : ℕ → Type 0) (test : ℕ → Bool) (first count : ℕ) → ((day : ℕ) → first ≤ day → day < first + count → Holds day)
    → IfSome (latest_day test first count) Holds
latest_holds Holds test first zero h = tt
latest_holds Holds test first (suc more) h =
    holds_when Holds (test (first + more)) (first + more) (latest_day test first more) (h (first + more) (omega arith) (omega arith))
    (latest_holds Holds test first more (λ day low high. h day low (omega (arith, high))))
