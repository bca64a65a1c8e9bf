-- The entry at risk: one that was asked for but not acknowledged, and may be found after the
-- history when its keeper is read again.
use Rattle.std.specs.Prelude.{◌≡◌, ℕ, List, Bool, Option, option_and_then}
use Rattle.std.specs.Result.{result_ok}
use Rattle.apron_base.specs.Machine.{ActsAtRisk, Standing}
use Rattle.apron_rules.specs.declared.parts.AirportParts.{AirportParts}
use Rattle.desk_asks.specs.declared.asks.Entry.{Entry}
use Rattle.desk_asks.specs.declared.asks.What.{What}
use Rattle.desk_asks.specs.declared.asks.What.TheVariants.{Change}
use Rattle.entry_bytes.specs.Parsing.{decode_entry}

-- what is asked with this call number is a command, and its entry is this one
abbrev pub IsAskedFor : ℕ → What → Entry → Type 0
IsAskedFor call what entry = (entry.call ≡ call) × (what ≡ Change entry.command)

-- what is at risk once this was asked with this call number: no entry; or the one that was before,
-- if none was added; or, if an append failed, the one that was asked for
abbrev pub LeavesAtRisk : Standing Entry → ℕ → What → Bool → Standing Entry → Type 0
LeavesAtRisk before call what failed after = ActsAtRisk (IsAskedFor call what) failed before after

-- The entry of the bytes at risk. Only the model of a board cites it: clauses say by their entry
-- which bytes are at risk.
abbrev pub entry_read : AirportParts → Option (List ℕ) → Option Entry
entry_read airport risk = option_and_then (λ bytes. result_ok (decode_entry airport bytes)) risk
