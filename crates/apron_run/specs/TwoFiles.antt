-- What a word does that begins with an airport file and a type file.
use Rattle.std.specs.Prelude.{ℕ, List, MatchResult, Result}
use Rattle.apron_base.specs.Shelf.{ShelfState}
use Rattle.apron_check.specs.Files.{FindsFiles}
use Rattle.apron_check.specs.declared.files.AirportFiles.{AirportFiles}
use Rattle.apron_check.specs.declared.faults.FilesFault.{FilesFault}
use Rattle.apron_run.specs.End.{EndsUntouched}
use Rattle.apron_run.specs.World.{World}
use Rattle.apron_run.specs.declared.end.End.{End}
use Rattle.apron_run.specs.declared.end.End.TheVariants as ended

-- by what it does at their airport
module _ {In Out : Type 0} (At : AirportFiles → World In Out → World In Out → End → Type 0) where
  -- the airport file and the type file of these names were read, and this was done at the airport
  -- that they make, or nothing if they make none
  pub record WithFiles (airport types : List ℕ) (before after : World In Out)
      (end : End) : Type 0 where
    pub found : Result AirportFiles FilesFault
    pub shelf : ShelfState
    pub finds : FindsFiles before.shelf shelf airport types found
    pub at : MatchResult found (λ files. At files (record before { shelf = shelf }) after end)
        (λ fault. EndsUntouched (ended.Faulty fault) (record before { shelf = shelf }) after end)
