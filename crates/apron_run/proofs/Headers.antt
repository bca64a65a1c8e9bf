-- The header of a journal that opens, and of one that goes on.
use Rattle.std.proofs.Common.{◌≡◌, ◌≤◌, ◌∙◌, ℕ, Bool, true, false, not, List, refl, sym, arith, inl, inr, Option, None, Some, Result, Ok}
use Rattle.std.specs.Prelude.{IfSome, cond, ◌||◌}
use Rattle.std.specs.Str.{bytes_eq}
use Rattle.std.proofs.lemmas.Slice.Eq.{bytes_eq-Decides}
use Rattle.journal_disk.specs.Disk.{Between, Continues, DiskState, IfExposed}
use Rattle.journal_disk.specs.Extent.{AppendsSafely, Extent, StandsFor}
use Rattle.journal_disk.specs.Header.{digests_in, has_magic, opening_of, unless}
use Rattle.journal_disk.specs.declared.fault.JournalFault.{JournalFault}
use Rattle.apron_run.specs.Journal.{IsOf}
use Rattle.apron_run.proofs.Disks.{if_told, known}

-- what opens has passed the test of its digests
passed : (short starts same : Bool) (one two : JournalFault) (read : Result (List (List ℕ)) JournalFault) (entries : List (List ℕ))
    → unless (cond (short || not starts) (Some one) (cond (not same) (Some two) None)) read ≡ Ok entries → same ≡ true
passed true starts same one two read entries is = absurd cc
passed false false same one two read entries is = absurd cc
passed false true false one two read entries is = absurd cc
passed false true true one two read entries is = refl

-- bytes that open as a journal of these digests have them in their header
pub opens_of : (digests bytes : List ℕ) (entries : List (List ℕ)) → opening_of digests bytes ≡ Ok entries → IsOf digests bytes
opens_of digests bytes entries is =
    (bytes_eq-Decides (digests_in bytes) digests).0 (passed _ (has_magic bytes) (bytes_eq (digests_in bytes) digests) _ _ _ entries is)

-- a disk that was opened as the journal of these files, and reads as before
pub opened_of : (digests given : List ℕ) (before now : DiskState) (entries : List (List ℕ)) → given ≡ digests → IfExposed before (λ bytes. opening_of given bytes ≡ Ok entries)
    → now.contents ≡ before.contents → IfSome now.contents (IsOf digests)
opened_of digests given before now entries same opens reads =
    if_told now.contents (IsOf digests) (λ bytes is. opens_of given bytes entries (opens bytes (sym reads ∙ is)) ∙ same)

-- so does an image that a crash may leave of bytes which have them
pub stands_of : (digests : List ℕ) (extent : Extent) (bytes image : List ℕ) (AtRisk : List ℕ → Type 0) → IsOf digests bytes → StandsFor extent bytes AtRisk image → IsOf digests image
stands_of digests extent bytes image AtRisk are (front, inl opens) = opens_of (digests_in bytes) image _ opens ∙ are
stands_of digests extent bytes image AtRisk are (front, inr (entry, at, opens)) = opens_of (digests_in bytes) image _ opens ∙ are

-- a disk that tells what it reads as has told it before
pub told_before : (before now : Option (List ℕ)) (bytes : List ℕ) → Between (λ _ _. Unit {0}) before now → now ≡ Some bytes → (old : List ℕ) × (before ≡ Some old)
told_before (Some old) now bytes alike is = (old, refl)
told_before None None bytes alike is = absurd cc
told_before None (Some now) bytes alike is = absurd alike

-- and one that told it tells it still
pub told_after : (before now : Option (List ℕ)) (bytes : List ℕ) → Between (λ _ _. Unit {0}) before now → before ≡ Some bytes → (new : List ℕ) × (now ≡ Some new)
told_after (Some old) (Some new) bytes alike is = (new, refl)
told_after (Some old) None bytes alike is = absurd alike
told_after None now bytes alike is = absurd cc

-- an append leaves the header as it was
pub still_of : (digests appended : List ℕ) (extent : Extent) (before now : DiskState) → IfSome before.contents (IsOf digests) → Continues before now
    → AppendsSafely extent before now appended → IfExposed now (now.images now.moment) → IfSome now.contents (IsOf digests)
still_of digests appended extent before now are goes safe reads = if_told now.contents (IsOf digests) (λ bytes is.
    let (old, was) = told_before before.contents now.contents bytes goes.tells is in
    let clock = goes.clock in
    let least : now.moment ≤ now.moment = omega arith in
    stands_of digests extent old bytes _ (known before.contents (IsOf digests) old are was) (safe old was now.moment bytes clock.later least (reads bytes is)))
