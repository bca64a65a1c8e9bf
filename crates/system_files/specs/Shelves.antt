-- What contracts see of a shelf over a folder.
use Rattle.std.specs.Prelude.{ℕ, List, Option}
use Rattle.apron_base.specs.Shelf.{ShelfState}

-- a shelf over a folder: the folder, how often a call has failed, and how many bytes were read
pub record ShelfHeld (F : Type 0) : Type 0 where
  pub folder : F
  pub faults : ℕ
  pub read : ℕ

-- as a shelf, its files are those of its folder
abbrev pub shelf_of : {F : Type 0} → (F → List ℕ → Option (List ℕ)) → ShelfHeld F → ShelfState
shelf_of file shelf = record { file = file shelf.folder; faults = shelf.faults; read = shelf.read }
