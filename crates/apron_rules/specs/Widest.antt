-- The widest type of a table.
use Rattle.std.specs.Prelude.{◌<◌, ◌≤◌, ℕ, List, length, slice_index_or}
use Rattle.apron_base.specs.declared.numbers.TypeNo.{TypeNo}
use Rattle.apron_rules.specs.declared.parts.TypeRow.{TypeRow}

-- no type before this place is wider than the one at w
abbrev pub IsWidestBelow : List TypeRow → ℕ → ℕ → Type 0
IsWidestBelow types high w =
    (i : ℕ) (d : TypeRow)
    → i < high
    → (slice_index_or types i d).span ≤ (slice_index_or types w d).span

-- the type is one of the table, and no other type of it is wider
pub record IsWidest (types : List TypeRow) (t : TypeNo) : Type 0 where
  pub inside : t.0 < length types
  pub widest : IsWidestBelow types (length types) t.0
