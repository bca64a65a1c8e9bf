-- A step of the walk over the records of a text.
use Rattle.std.proofs.Common.{◌≡◌, ℕ, zero, suc, ◌+◌, false, List, [], ◌∷◌, ◌++◌, Option, Some, None, Result, Ok, Err, refl, sym, append_assoc, add-one}
use Rattle.std.specs.Prelude.{is_err, OnOk}
use Rattle.std.proofs.lemmas.Bool.{false≢true}
use Rattle.std.proofs.lemmas.List.{append-nil}
use Rattle.apron_base.specs.ResultChain.{◌>>=◌}
use Rattle.csv.specs.Machine.{Read, next_record}
use Rattle.csv.specs.Reading.{default_config, records_from}
use Rattle.csv.specs.declared.parser.State.{State}
use Rattle.csv_records.specs.Tables.{each_from, rows_left, table_left, table_of}

-- the rows found so far, and those of the rest
abbrev pub joined : {A : Type 0} → List A → Result (List A) ℕ → Result (List A) ℕ
joined found rest = rest >>= (λ more. Ok (found ++ more))

joined-cons : {A : Type 0} (found : List A) (row : A) (rest : Result (List A) ℕ) → joined found (rest >>= (λ more. Ok (row ∷ more))) ≡ joined (found ++ row ∷ []) rest
joined-cons found row (Ok more) = rw append_assoc
joined-cons found row (Err e) = refl

joined-nil : {A : Type 0} (rest : Result (List A) ℕ) → joined [] rest ≡ rest
joined-nil (Ok more) = refl
joined-nil (Err e) = refl

module _ {A : Type 0} (row_of : List (List ℕ) → Option A) where
  pub walk-start : (m n : ℕ) (s : State) (left : List ℕ) (found : List A) → found ≡ [] → m ≡ n → joined found (rows_left row_of 2 m s left) ≡ rows_left row_of 2 n s left
  walk-start m n s left found none same = rw (none, same) (joined-nil (rows_left row_of 2 n s left))

  pub step-row : (k j m n : ℕ) (s : State) (left : List ℕ) (p : Read) (found : List A) (row : A) → j ≡ k + 1 → m ≡ n + 1 → next_record default_config s [] [] left ≡ Some p → row_of p.0 ≡ Some row
      → joined found (rows_left row_of k m s left) ≡ joined (found ++ row ∷ []) (rows_left row_of j n p.1 p.2)
  unfolding records_from each_from
  step-row k j m n s left p found row after turn next good = rw (after, turn, add-one n, next, good) (joined-cons found row _)

  pub step-bad : (k m n : ℕ) (s : State) (left : List ℕ) (p : Read) (found : List A) → m ≡ n + 1 → next_record default_config s [] [] left ≡ Some p → row_of p.0 ≡ None
      → joined found (rows_left row_of k m s left) ≡ Err k
  unfolding records_from each_from
  step-bad k m n s left p found turn next bad = rw (turn, add-one, next, bad)

  pub step-end : (k n : ℕ) (s : State) (left : List ℕ) (found : List A) → next_record default_config s [] [] left ≡ None → joined found (rows_left row_of k n s left) ≡ Ok found
  unfolding records_from each_from
  step-end k zero s left found none = rw (append-nil found)
  step-end k (suc n) s left found none = rw (none, append-nil found)

  pub out_of_turns : (k n : ℕ) (s : State) (left : List ℕ) (found : List A) → n ≡ 0 → joined found (rows_left row_of k n s left) ≡ Ok found
  unfolding records_from each_from
  out_of_turns k n s left found over = rw (over, append-nil found)

module _ {A : Type 0} (rows_after : List (List ℕ) → Option (List (List ℕ) → Option A)) where
  pub header-none : (n : ℕ) (s : State) (left : List ℕ) → next_record default_config s [] [] left ≡ None → table_left rows_after (n + 1) s left ≡ Err 1
  unfolding records_from table_of
  header-none n s left none = rw (add-one, none)

  pub header-bad : (n : ℕ) (s : State) (left : List ℕ) (p : Read) → next_record default_config s [] [] left ≡ Some p → rows_after p.0 ≡ None → table_left rows_after (n + 1) s left ≡ Err 1
  unfolding records_from table_of
  header-bad n s left p next bad = rw (add-one, next, bad)

  pub header-good : (n : ℕ) (s : State) (left : List ℕ) (p : Read) (row_of : List (List ℕ) → Option A) → next_record default_config s [] [] left ≡ Some p → rows_after p.0 ≡ Some row_of
      → table_left rows_after (n + 1) s left ≡ rows_left row_of 2 n p.1 p.2
  unfolding records_from table_of
  header-good n s left p row_of next good = rw (add-one, next, good)

-- what a call that wasn't refused promises
pub from_ok : {T E : Type 0} (r : Result T E) (P : Type 0) → is_err r ≡ false → OnOk r P → P
from_ok (Ok x) P h p = p
from_ok (Err e) P h p = absurd (false≢true (sym h))
