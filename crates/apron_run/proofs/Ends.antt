-- What the line of a run's end says of its status.
use Rattle.std.proofs.Common.{◌≡◌, ◌≤◌, ◌⊎◌, ℕ, List, [], ◌∷◌, ◌++◌, Option, None, Some, inl, inr, refl, ap, arith}
use Rattle.std.specs.Prelude.{MatchOption}
use Rattle.apron_base.specs.Counts.{Rose}
use Rattle.apron_base.specs.Ends.{SinkState}
use Rattle.apron_run.specs.End.{line_of}
use Rattle.apron_run.specs.Imported.{imported_text}
use Rattle.apron_run.specs.Print.{Writes}
use Rattle.apron_run.specs.declared.end.End.TheVariants.{Imported as Imports}
use Rattle.apron_run.specs.declared.imported.Imported.{Imported}
use Rattle.apron_run.specs.declared.imported.Imported.TheVariants as imports
use Rattle.apron_run.specs.declared.status.Status.{Status}

-- the status of a line that stays if the sink fails at it
pub written_is : (text : List ℕ) (of : Status) (before after : SinkState) (status : Status) → Writes text of of before after status → status ≡ of
written_is text of before after status (inl (is, wrote)) = is
written_is text of before after status (inr (is, cut)) = is

-- a line, if there is one, was written with its status, or a front of it with the other
abbrev pub Tells : Option (List ℕ) → Status → Status → SinkState → SinkState → Status → Type 0
Tells line whole cut before after status =
    MatchOption line ((after ≡ before) × (status ≡ whole)) (λ text. Writes text whole cut before after status)

module _ (whole cut : Status) (before after : SinkState) (status : Status) where
  -- the sink's count doesn't fall
  pub sink_least : (line : Option (List ℕ)) → Tells line whole cut before after status → before.faults ≤ after.faults
  sink_least None (same, is) = let count : after.faults ≡ before.faults = ap (λ (s : SinkState). s.faults) same in omega arith
  sink_least (Some text) (inl (is, wrote)) = let count : after.faults ≡ before.faults = wrote.faults in omega arith
  sink_least (Some text) (inr (is, (count, wrote))) = let rose = wrote.faults in rose.0

  -- and it rose if the status is the other one
  pub told_by : (line : Option (List ℕ)) → Tells line whole cut before after status → (status ≡ whole) ⊎ ((status ≡ cut) × Rose before.faults after.faults)
  told_by None (same, is) = inl is
  told_by (Some text) (inl (is, wrote)) = inl is
  told_by (Some text) (inr (is, (count, wrote))) = let rose = wrote.faults in inr (is, rose.1)

-- an import that didn't run out of call numbers has a line
pub imported_line : (imported : Imported) → (imported ≡ imports.Spent → ⊥) → line_of (Imports imported) ≡ Some (imported_text imported ++ 10 ∷ [])
imported_line imports.Spent other = absurd (other refl)
imported_line imported other = refl
