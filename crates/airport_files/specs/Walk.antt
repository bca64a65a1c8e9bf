-- The walk over an airport file, as it is taken: key by key, up to the first fault, which has the key
-- without its text.
use Rattle.std.specs.Prelude.{◌≡◌, ◌⊎◌, ℕ, ◌+◌, List, [], ◌∷◌, Bool, true, false, Option, Some, None, is_some, Result, Ok, Err, codes, if◌then◌else◌}
use Rattle.apron_base.specs.ResultChain.{◌>>=◌}
use Rattle.toml.specs.Data.{Data, Members, Items, get_member, as_table, table, array, item, no_items}
use Rattle.apron_base.specs.declared.letter.Letter.{Letter}
use Rattle.apron_rules.specs.declared.parts.Frontage.{Frontage}
use Rattle.apron_rules.specs.declared.parts.StandRow.{StandRow}
use Rattle.apron_rules.specs.declared.parts.PairRow.{PairRow}
use Rattle.airport_files.specs.declared.keys.HeadKey.{HeadKey}
use Rattle.airport_files.specs.declared.keys.HeadKey.TheVariants.{Station, FirstDay, Days, TaxiIn, Tow}
use Rattle.airport_files.specs.declared.keys.FrontageKey.TheVariants as frontage
use Rattle.airport_files.specs.declared.keys.StandKey.{StandKey}
use Rattle.airport_files.specs.declared.keys.StandKey.TheVariants as stand
use Rattle.airport_files.specs.declared.keys.PairKey.{PairKey}
use Rattle.airport_files.specs.declared.keys.PairKey.TheVariants as pair
use Rattle.airport_files.specs.declared.keys.FileKey.{FileKey}
use Rattle.airport_files.specs.declared.keys.FileKey.TheVariants as key
use Rattle.airport_files.specs.declared.keys.WalkFault.{WalkFault}
use Rattle.airport_files.specs.declared.keys.WalkFault.TheVariants.{Missing, Wrong, Memory}
use Rattle.airport_files.specs.declared.layout.Layout.{Layout}
use Rattle.airport_files.specs.declared.rows.AirportTable.{AirportTable}
use Rattle.airport_files.specs.Forms.{date_of, letter_of, name_of, station_of, toml_number}
use Rattle.airport_files.specs.Words.{head_word, frontage_word, stand_word, pair_word}

-- what was read is what the walk reads, unless memory ran out
abbrev pub ReadsRow : {A : Type 0} → Result A WalkFault → Result A WalkFault → Type 0
ReadsRow (Ok x) read = read ≡ Ok x
ReadsRow (Err e) read = (e ≡ Memory) ⊎ (read ≡ Err e)

-- a value in a form, or a fault at its key
abbrev pub in_form : {A : Type 0} → FileKey → Option A → Result A WalkFault
in_form at None = Err (Wrong at)
in_form at (Some x) = Ok x

-- what a key holds, in a form
abbrev pub at_key : {A : Type 0} → (Data → Option A) → FileKey → Option Data → Result A WalkFault
at_key form at None = Err (Missing at)
at_key form at (Some d) = in_form at (form d)

-- a value in a form, if there is one, or a fault at its key
abbrev pub in_form_if_there : {A : Type 0} → FileKey → Option A → Result (Option A) WalkFault
in_form_if_there at None = Err (Wrong at)
in_form_if_there at (Some x) = Ok (Some x)

-- the same for a key that may be missing
abbrev pub if_there : {A : Type 0} → (Data → Option A) → FileKey → Option Data
    → Result (Option A) WalkFault
if_there form at None = Ok None
if_there form at (Some d) = in_form_if_there at (form d)

-- a number of the table `airport`
abbrev pub head_number : Members → HeadKey → Result ℕ WalkFault
head_number ms word = at_key toml_number (key.Head word) (get_member (head_word word) ms)

-- the table `airport`
unfoldable pub head_in : Members → Result AirportTable WalkFault
head_in ms = do
  station ← at_key station_of (key.Head Station) (get_member (head_word Station) ms)
  first ← at_key date_of (key.Head FirstDay) (get_member (head_word FirstDay) ms)
  days ← head_number ms Days
  taxi_in ← head_number ms TaxiIn
  tow ← head_number ms Tow
  Ok (record { station = station; first = first; days = days; taxi_in = taxi_in; tow = tow })

-- the table `airport`, if it is a table
abbrev pub head_value : Option Data → Result AirportTable WalkFault
head_value None = Err (Missing key.Airport)
head_value (Some (table ms)) = head_in ms
head_value (Some _) = Err (Wrong key.Airport)

-- the table `airport` of a document
abbrev pub head_table : Members → Result AirportTable WalkFault
head_table ms = head_value (get_member (codes "airport") ms)

-- an array of numbers
unfoldable pub toml_numbers : FileKey → Items → Result (List ℕ) WalkFault
toml_numbers at no_items = Ok []
toml_numbers at (item d ds) = do
  first ← in_form at (toml_number d)
  rest ← toml_numbers at ds
  Ok (first ∷ rest)

-- an array of numbers, if it is an array
abbrev pub numbers_value : FileKey → Data → Result (List ℕ) WalkFault
numbers_value at (array ds) = toml_numbers at ds
numbers_value at _ = Err (Wrong at)

-- an array of numbers at a key
abbrev pub numbers_at : FileKey → Option Data → Result (List ℕ) WalkFault
numbers_at at None = Err (Missing at)
numbers_at at (Some d) = numbers_value at d

-- the name of the k-th frontage
abbrev pub frontage_name : ℕ → Members → Result (List ℕ) WalkFault
frontage_name k ms =
    at_key name_of (key.Frontage k frontage.Name) (get_member (frontage_word frontage.Name) ms)

-- the objects of the k-th frontage
abbrev pub frontage_objects : ℕ → Members → Result (List ℕ) WalkFault
frontage_objects k ms =
    numbers_at (key.Frontage k frontage.Objects) (get_member (frontage_word frontage.Objects) ms)

-- the k-th frontage
unfoldable pub frontage_in : ℕ → Members → Result Frontage WalkFault
frontage_in k ms = do
  name ← frontage_name k ms
  objects ← frontage_objects k ms
  Ok (record { name = name; objects = objects })

-- the k-th frontage, if it is a table
abbrev pub frontage_value : ℕ → Data → Result Frontage WalkFault
frontage_value k (table ms) = frontage_in k ms
frontage_value k _ = Err (Wrong key.Frontages)

-- a name of the k-th stand
abbrev pub stand_row_name : ℕ → Members → StandKey → Result (List ℕ) WalkFault
stand_row_name k ms word = at_key name_of (key.Stand k word) (get_member (stand_word word) ms)

-- a number of the k-th stand
abbrev pub stand_row_number : ℕ → Members → StandKey → Result ℕ WalkFault
stand_row_number k ms word = at_key toml_number (key.Stand k word) (get_member (stand_word word) ms)

-- the letter of the k-th stand
abbrev pub stand_letter : ℕ → Members → Result Letter WalkFault
stand_letter k ms =
    at_key letter_of (key.Stand k stand.Letter) (get_member (stand_word stand.Letter) ms)

-- the stand that the k-th stand is a half of
abbrev pub stand_half : ℕ → Members → Result (Option (List ℕ)) WalkFault
stand_half k ms =
    if_there name_of (key.Stand k stand.HalfOf) (get_member (stand_word stand.HalfOf) ms)

-- the k-th stand
unfoldable pub stand_in : ℕ → Members → Result StandRow WalkFault
stand_in k ms = do
  name ← stand_row_name k ms stand.Name
  frontage ← stand_row_name k ms stand.Frontage
  centre ← stand_row_number k ms stand.Centre
  letter ← stand_letter k ms
  buffer ← stand_row_number k ms stand.Buffer
  half_of ← stand_half k ms
  Ok (record {
    name = name;
    frontage = frontage;
    centre = centre;
    letter = letter;
    buffer = buffer;
    half_of = half_of;
  })

-- the k-th stand, if it is a table
abbrev pub stand_value : ℕ → Data → Result StandRow WalkFault
stand_value k (table ms) = stand_in k ms
stand_value k _ = Err (Wrong key.Stands)

-- a name of the k-th pair restriction
abbrev pub pair_name : ℕ → Members → PairKey → Result (List ℕ) WalkFault
pair_name k ms word = at_key name_of (key.Pair k word) (get_member (pair_word word) ms)

-- a letter of the k-th pair restriction
abbrev pub pair_letter : ℕ → Members → PairKey → Result Letter WalkFault
pair_letter k ms word = at_key letter_of (key.Pair k word) (get_member (pair_word word) ms)

-- the k-th pair restriction
unfoldable pub pair_in : ℕ → Members → Result PairRow WalkFault
pair_in k ms = do
  a ← pair_name k ms pair.A
  la ← pair_letter k ms pair.La
  b ← pair_name k ms pair.B
  lb ← pair_letter k ms pair.Lb
  Ok (record { a = a; la = la; b = b; lb = lb })

-- the k-th pair restriction, if it is a table
abbrev pub pair_value : ℕ → Data → Result PairRow WalkFault
pair_value k (table ms) = pair_in k ms
pair_value k _ = Err (Wrong key.Pairs)

-- the rows from the k-th on, each read in turn
unfoldable pub walk_rows_from : {A : Type 0} → (ℕ → Data → Result A WalkFault) → ℕ → Items
    → Result (List A) WalkFault
walk_rows_from read k no_items = Ok []
walk_rows_from read k (item d ds) = do
  first ← read k d
  rest ← walk_rows_from read (k + 1) ds
  Ok (first ∷ rest)

-- a table
abbrev pub is_table : Data → Bool
is_table d = is_some (as_table d)

-- only tables
abbrev pub are_tables : Items → Bool
are_tables no_items = true
are_tables (item d ds) = if is_table d then are_tables ds else false

-- an array with another item is wrong before any row is looked at
abbrev pub rows_in : {A : Type 0} → (ℕ → Data → Result A WalkFault) → FileKey → Items
    → Result (List A) WalkFault
rows_in read at ds = if are_tables ds then walk_rows_from read 1 ds else Err (Wrong at)

-- a missing array is empty
abbrev pub rows_value : {A : Type 0} → (ℕ → Data → Result A WalkFault) → FileKey → Option Data
    → Result (List A) WalkFault
rows_value read at None = Ok []
rows_value read at (Some (array ds)) = rows_in read at ds
rows_value read at (Some _) = Err (Wrong at)

-- the frontages of a document
abbrev pub frontages_of : Members → Result (List Frontage) WalkFault
frontages_of ms = rows_value frontage_value key.Frontages (get_member (codes "frontage") ms)

-- the stands of a document
abbrev pub stands_of : Members → Result (List StandRow) WalkFault
stands_of ms = rows_value stand_value key.Stands (get_member (codes "stand") ms)

-- the pair restrictions of a document
abbrev pub pairs_of : Members → Result (List PairRow) WalkFault
pairs_of ms = rows_value pair_value key.Pairs (get_member (codes "pair") ms)

-- the table `airport`, then the frontages, the stands and the pair restrictions
unfoldable pub layout_of : Members → Result Layout WalkFault
layout_of ms = do
  head ← head_table ms
  frontages ← frontages_of ms
  stands ← stands_of ms
  pairs ← pairs_of ms
  Ok (record { head = head; frontages = frontages; stands = stands; pairs = pairs })
