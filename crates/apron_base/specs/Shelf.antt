-- What is known of a shelf, and what reading a file changes of it.
use Rattle.std.specs.Prelude.{◌≡◌, ◌≤◌, ◌<◌, ◌+◌, ℕ, Bool, true, false, ⊤, List, length, Option, Result, Ok, Err, Vec, vec_len, IfSome, MatchOption}
use Rattle.apron_base.specs.Counts.{Counts, RoseBy}
use Rattle.apron_base.specs.declared.shelf.ShelfFault.{ShelfFault}
use Rattle.apron_base.specs.declared.shelf.ShelfFault.TheVariants.{Failed, TooLong}

-- the bytes of the file of a name, if the shelf exposes them; how often it has failed; and how many
-- bytes were read
pub record ShelfState : Type 0 where
  pub file : List ℕ → Option (List ℕ)
  pub faults : ℕ
  pub read : ℕ

-- the shelf failed
abbrev pub is_failed : {V : Type 0} → Result V ShelfFault → Bool
is_failed (Err Failed) = true
is_failed _ = false

-- a file is given whole, within the limit, and its bytes were read; a file that is too long is
-- longer than the limit, or more than the limit was read
abbrev pub IsAnswerOf : {A : Type 0} → ShelfState → ShelfState → List ℕ → ℕ
    → Result (Vec ℕ A) ShelfFault → Type 0
IsAnswerOf before after name limit (Ok given) =
    IfSome (before.file name) (λ bytes. given.items ≡ bytes)
    × (vec_len given ≤ limit)
    × RoseBy (vec_len given) before.read after.read
IsAnswerOf before after name limit (Err TooLong) =
    MatchOption (before.file name) (RoseBy (limit + 1) before.read after.read)
    (λ bytes. limit < length bytes)
IsAnswerOf before after name limit _ = ⊤

-- what reading a file gives: no file changes, and the count of bytes read never falls
pub record GivesFile {A : Type 0} (before after : ShelfState) (name : List ℕ) (limit : ℕ)
    (result : Result (Vec ℕ A) ShelfFault) : Type 0 where
  pub answer : IsAnswerOf before after name limit result
  pub faults : Counts (is_failed result) before.faults after.faults
  pub read : before.read ≤ after.read
  pub files : (other : List ℕ) → after.file other ≡ before.file other
