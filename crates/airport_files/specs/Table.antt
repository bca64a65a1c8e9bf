-- The table of a text, or its first bad record.
use Rattle.std.specs.Prelude.{◌≡◌, ℕ, List, Result, Ok, Err}
use Rattle.csv.specs.declared.parser.State.{State}
use Rattle.csv_records.specs.Tables.{rows_left as records_left, table_left}
use Rattle.apron_rules.specs.declared.parts.TypeRow.{TypeRow}
use Rattle.airport_files.specs.declared.types.TableFault.{TableFault}
use Rattle.airport_files.specs.declared.types.TableFault.TheVariants.{BadRow, Memory}
use Rattle.airport_files.specs.declared.type_rows.Columns.{Columns}
use Rattle.airport_files.specs.TypeRows.{type_of}
use Rattle.airport_files.specs.Types.{types_after}

-- the types of at most `turns` further records, read from this state and the bytes that are left
abbrev pub rows_left : Columns → ℕ → ℕ → State → List ℕ → Result (List TypeRow) ℕ
rows_left columns k turns s left = records_left (type_of columns) k turns s left

-- the table of at most `turns` records, the header included
abbrev pub table_from : ℕ → State → List ℕ → Result (List TypeRow) ℕ
table_from turns s left = table_left types_after turns s left

-- the fault is that of the text, unless memory ran out
abbrev pub RefusesTable : TableFault → Result (List TypeRow) ℕ → Type 0
RefusesTable (BadRow k) told = told ≡ Err k
RefusesTable Memory told = Unit {0}

-- what was read is what the text gives, unless memory ran out
abbrev pub ReadsTable : Result (List TypeRow) TableFault → Result (List TypeRow) ℕ → Type 0
ReadsTable (Ok types) told = told ≡ Ok types
ReadsTable (Err fault) told = RefusesTable fault told
