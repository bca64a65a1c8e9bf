-- The line that identifies a message, among the lines that are still looked at.
use Rattle.std.proofs.Common.{◌≡◌, ℕ, zero, suc, ◌+◌, ◌-◌, ◌<◌, ◌≤◌, List, [], ◌∷◌, Err, Ok, cond, refl, ap, arith}
use Rattle.mvt_grammar.specs.Pieces.{Piece}
use Rattle.mvt_grammar.specs.Reading.{is_identifier, after_identifier}
use Rattle.mvt_grammar.specs.declared.message.MvtFault.TheVariants.{NoIdentifier}

pub identifier-none : (more : ℕ) → after_identifier more [] ≡ Err NoIdentifier
identifier-none zero = refl
identifier-none (suc more) = refl

pub identifier-past : (k : ℕ) (lines : List Piece) → 21 ≤ k → after_identifier (21 - k) lines ≡ Err NoIdentifier
identifier-past k lines h =
    let none : 21 - k ≡ 0 = omega arith in
    ap (λ n. after_identifier n lines) none

pub identifier-step : (k : ℕ) (line : Piece) (lines : List Piece) → k < 21 → after_identifier (21 - k) (line ∷ lines) ≡ cond (is_identifier line) (Ok lines) (after_identifier (21 - (k + 1)) lines)
identifier-step k line lines h =
    let more : 21 - k ≡ suc (21 - (k + 1)) = omega arith in
    ap (λ n. after_identifier n (line ∷ lines)) more
