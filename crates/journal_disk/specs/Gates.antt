-- What is at a gate, after a front of whole records.
use Rattle.std.specs.Prelude.{◌≡◌, ℕ, List, [], ◌∷◌, ◌++◌, length, Bool, true, false}
use Rattle.std.proofs.Common.{◌≢◌}
use Rattle.journal_disk.specs.Disk.{DiskState, DoneCall, EachImage, safe_write}
use Rattle.journal_disk.specs.Entries.{open_gate, with_length}

-- a gate that isn't open, and anything after it
pub record IsClosed (front bytes : List ℕ) : Type 0 where
  pub gate : ℕ
  pub rest : List ℕ
  pub text : bytes ≡ front ++ gate ∷ rest
  pub shut : gate ≢ open_gate

-- this gate, this entry with its length, a gate that isn't open, and anything after that
pub record IsRecord (gate : ℕ) (entry front bytes : List ℕ) : Type 0 where
  pub next : ℕ
  pub rest : List ℕ
  pub text : bytes ≡ front ++ gate ∷ (with_length entry ++ next ∷ rest)
  pub shut : next ≢ open_gate

-- the same with any gate, open or not
abbrev pub IsWhole : List ℕ → List ℕ → List ℕ → Type 0
IsWhole entry front bytes = (gate : ℕ) × IsRecord gate entry front bytes

-- a gate that isn't open or, if it may have been opened, this entry whole after it
abbrev pub GateIs : Bool → List ℕ → List ℕ → List ℕ → Type 0
GateIs false entry front bytes = IsClosed front bytes
GateIs true entry front bytes = IsWhole entry front bytes

-- the calls that close the gate at a place, if it may have been opened
abbrev pub mending_calls : Bool → ℕ → List DoneCall
mending_calls true place = safe_write place 1
mending_calls false place = []

-- what holds for each front of this length after which a crash leaves a closed gate
abbrev pub FromClosed : ℕ → DiskState → (List ℕ → Type 0) → Type 0
FromClosed place disk Q =
    (front : List ℕ) → length front ≡ place → EachImage disk (IsClosed front) → Q front

-- what holds for each front of this length and each entry that a crash leaves whole after it
abbrev pub FromWhole : ℕ → DiskState → (List ℕ → List ℕ → Type 0) → Type 0
FromWhole place disk Q =
    (entry front : List ℕ)
    → length front ≡ place
    → EachImage disk (IsWhole entry front)
    → Q entry front

-- the same for a gate that may have been opened or not
abbrev pub FromGate : ℕ → Bool → DiskState → (List ℕ → List ℕ → Type 0) → Type 0
FromGate place unclean disk Q =
    (entry front : List ℕ)
    → length front ≡ place
    → EachImage disk (GateIs unclean entry front)
    → Q entry front
