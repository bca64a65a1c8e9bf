-- What contracts see of the shelves in memory.
use Rattle.std.specs.Prelude.{ℕ, ◌||◌, Bool, List, [], Option, None, Some, find, is_none}
use Rattle.std.specs.Option.{option_map}
use Rattle.std.specs.Str.{bytes_eq}
use Rattle.apron_base.specs.Fails.{FailsHeld, is_to_fail}
use Rattle.apron_base.specs.Shelf.{ShelfState}
use Rattle.apron_base.specs.declared.shelf.map_shelf.ShelfFile.{ShelfFile}

-- the first file of a name
abbrev pub file_named : List ShelfFile → List ℕ → Option ShelfFile
file_named files name = find (λ kept. bytes_eq kept.name name) files

-- the bytes of the first file of a name
abbrev pub file_in : List ShelfFile → List ℕ → Option (List ℕ)
file_in files name = option_map (λ kept. kept.bytes) (file_named files name)

-- the bytes of a file, or an empty list if there is none
abbrev pub bytes_or_empty : Option ShelfFile → List ℕ
bytes_or_empty None = []
bytes_or_empty (Some kept) = kept.bytes

-- the bytes of the first file of a name, or an empty list if there is none
abbrev pub file_or_empty : List ShelfFile → List ℕ → List ℕ
file_or_empty files name = bytes_or_empty (file_named files name)

-- the files, the calls that fail, and how many bytes were read
pub record ShelfHeld : Type 0 where
  pub files : List ShelfFile
  pub fails : FailsHeld
  pub read : ℕ

-- what is known of such a shelf
abbrev pub shelf_state : ShelfHeld → ShelfState
shelf_state shelf = record {
  file = file_in shelf.files;
  faults = shelf.fails.faults;
  read = shelf.read;
}

-- a read of this name is among those that are to fail, or there is no such file
abbrev pub refuses_read : ShelfHeld → List ℕ → Bool
refuses_read shelf name = is_to_fail shelf.fails || is_none (file_named shelf.files name)

-- the files of a shelf that never fails, and how many bytes were read
pub record SteadyShelfHeld : Type 0 where
  pub files : List ShelfFile
  pub read : ℕ

-- what is known of a shelf that never fails
abbrev pub steady_shelf_state : SteadyShelfHeld → ShelfState
steady_shelf_state shelf = record {
  file = λ name. Some (file_or_empty shelf.files name);
  faults = 0;
  read = shelf.read;
}
