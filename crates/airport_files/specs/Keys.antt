-- What a table of an airport file holds at a key; a fault names the key by its text.
use Rattle.std.specs.Prelude.{ℕ, List, [], ◌++◌, codes, decimal, Option, Some, None, option_map, unwrap_or, ok_or, Result}
use Rattle.apron_base.specs.ResultChain.{◌>>=◌}
use Rattle.csv_records.specs.Tables.{each_from}
use Rattle.toml.specs.Data.{Data, Members, as_table, get_member}
use Rattle.airport_files.specs.declared.read.FileFault.{FileFault}
use Rattle.airport_files.specs.declared.read.FileFault.TheVariants.{MissingKey, WrongKind}
use Rattle.airport_files.specs.Forms.{array_of}

-- the value in a form that a table has at the key of this word; a fault has the text of the key,
-- which is this start and the word
abbrev pub needed : {A : Type 0} → (Data → Option A) → List ℕ → Members → List ℕ
    → Result A FileFault
needed form start table word = do
  value ← ok_or (get_member word table) (MissingKey (start ++ word))
  ok_or (form value) (WrongKind (start ++ word))

-- no value, or a value in a form
abbrev pub form_if_there : {A : Type 0} → (Data → Option A) → Option Data → Option (Option A)
form_if_there form None = Some None
form_if_there form (Some value) = option_map Some (form value)

-- the same at a key that may be missing
abbrev pub optional : {A : Type 0} → (Data → Option A) → List ℕ → Members → List ℕ
    → Result (Option A) FileFault
optional form start table word =
    ok_or (form_if_there form (get_member word table)) (WrongKind (start ++ word))

-- how the texts of the keys of the k-th row of an array begin
abbrev pub row_start : List ℕ → ℕ → List ℕ
row_start array k = array ++ codes " " ++ decimal k ++ codes "."

-- what each row of an array of tables says in turn; a missing array has none
abbrev pub rows_at : {A : Type 0} → (List ℕ → Members → Result A FileFault) → Members → List ℕ
    → Result (List A) FileFault
rows_at says file array = do
  tables ← optional (array_of as_table) [] file array
  each_from (λ k. says (row_start array k)) 1 (unwrap_or tables [])
