-- What is known of a source and of a sink, and what calls change of it.
use Rattle.std.specs.Prelude.{◌≡◌, ◌<◌, ℕ, Bool, true, false, List, [], length, take, Option, Result, MatchResult}
use Rattle.std.specs.Io.KnownBytes.{Appends, Consumes, IsAtEnd}
use Rattle.apron_base.specs.Counts.{Counts}

-- what is left, if the source exposes it, and how often the source has failed
pub record SourceState : Type 0 where
  pub left : Option (List ℕ)
  pub faults : ℕ

-- some reads took these bytes from what was left, and one of them failed or none did
pub record Took (failed : Bool) (before after : SourceState) (bytes : List ℕ) : Type 0 where
  pub left : Consumes before.left after.left bytes
  pub faults : Counts failed before.faults after.faults

-- a read took the front of what it was to fill, and nothing only if nothing is left; or it failed
-- and took nothing
abbrev pub Reads : {E : Type 0} → SourceState → SourceState → Result ℕ E → List ℕ → Type 0
Reads before after result into = MatchResult result
    (λ count. Took false before after (take count into)
    × (count ≡ 0 → 0 < length into → IsAtEnd after.left))
    (λ _. Took true before after [])

-- what was written, if the sink exposes it, and how often the sink has failed
pub record SinkState : Type 0 where
  pub told : Option (List ℕ)
  pub faults : ℕ

-- some puts wrote these bytes after what was written, and one of them failed or none did
pub record Wrote (failed : Bool) (before after : SinkState) (bytes : List ℕ) : Type 0 where
  pub told : Appends before.told after.told bytes
  pub faults : Counts failed before.faults after.faults

-- a put wrote its whole piece, or it failed and wrote a front of it
abbrev pub Puts : {T E : Type 0} → SinkState → SinkState → Result T E → List ℕ → Type 0
Puts before after result piece = MatchResult result
    (λ _. Wrote false before after piece)
    (λ _. (count : ℕ) × Wrote true before after (take count piece))
