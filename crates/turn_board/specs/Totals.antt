-- Totals over seats, and how often a number was called.
use Rattle.std.specs.Prelude.{ℕ, ◌+◌, ◌-◌, ◌<◌, ◌==◌, nat_lt, cond, List, [], ◌∷◌}
use Rattle.apron_base.specs.Histories.{Every}
use Rattle.turn_board.specs.declared.view.Call.{Call}

-- the total of an amount over these views
abbrev pub total : {View : Type 0} → (View → ℕ) → List View → ℕ
total amount [] = 0
total amount (view ∷ views) = amount view + total amount views

-- 1 if two numbers are the same, and 0 otherwise
abbrev pub same : ℕ → ℕ → ℕ
same number other = cond (number == other) 1 0

-- 1 if a number is below an end, and 0 otherwise
abbrev pub below : ℕ → ℕ → ℕ
below number end = cond (nat_lt number end) 1 0

-- how many of the calls have this number
abbrev pub times : {Entry : Type 0} → ℕ → List (Call Entry) → ℕ
times number [] = 0
times number (call ∷ calls) = same number call.number + times number calls

-- by how much the machine's count of faults rose over a call
abbrev pub rise_of : {Entry : Type 0} → Call Entry → ℕ
rise_of call = call.left - call.found

-- all calls have lower numbers
abbrev pub AreBelow : {Entry : Type 0} → ℕ → List (Call Entry) → Type 0
AreBelow {Entry} number calls = Every (λ (call : Call Entry). call.number < number) calls
