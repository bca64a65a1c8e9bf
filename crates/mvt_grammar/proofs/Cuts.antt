-- Cutting a text at its first separator.
use Rattle.std.proofs.Common.{◌≡◌, ℕ, ◌+◌, ◌≤◌, Bool, cond, ltb, List, [], ◌∷◌, length, take, drop, Option, Some, None, inl, inr, refl, ap, ◌∙◌, sym, arith}
use Rattle.std.specs.Prelude.{position, ◌==◌}
use Rattle.std.specs.List.{slice_split, position_or_len}
use Rattle.std.proofs.lemmas.Bool.{ltb-true, ltb-false, cases_Bool}
use Rattle.std.proofs.lemmas.Option.{some_pair_parts, cond_some}
use Rattle.std.proofs.lemmas.List.Splits.{slice_split_first, slice_split_none}
use Rattle.std.proofs.lemmas.List.Sums.{fails_before_first}
use Rattle.mvt_grammar.specs.Bytes.{parted_at, split_once}
use Rattle.mvt_grammar.specs.Pieces.{piece, placed_texts, split_at}

split_some : (byte : ℕ) (text front rest : List ℕ) (o : Option ℕ) → position (λ b. b == byte) text ≡ o → parted_at text o ≡ Some (front, rest) → slice_split (λ b. b == byte) text ≡ front ∷ slice_split (λ b. b == byte) rest
split_some byte text front rest None e h = cc
split_some byte text front rest (Some k) e h =
    let p : ℕ → Bool = λ b. b == byte in
    let there = cond_some (ltb (position_or_len p text) (length text)) (position_or_len p text) k e in
    let parts = some_pair_parts (take k text) front (drop (k + 1) text) rest h in
    let split = slice_split_first p text 0 (ltb-true _ _ there.0) in
    let fronts : take (position_or_len p text) text ≡ front = ap (λ n. take n text) there.1 ∙ parts.0 in
    let rests : drop (position_or_len p text + 1) text ≡ rest = ap (λ n. drop (n + 1) text) there.1 ∙ parts.1 in
    split ∙ ap (λ x. x ∷ slice_split p (drop (position_or_len p text + 1) text)) fronts ∙ ap (λ x. front ∷ slice_split p x) rests

-- if there is a separator, the first piece ends before it
pub cut_at-some : (byte at : ℕ) (text front rest : List ℕ) → split_once byte text ≡ Some (front, rest) → split_at byte (piece at text) ≡ piece at front ∷ split_at byte (piece (at + length front + 1) rest)
cut_at-some byte at text front rest h = ap (placed_texts at) (split_some byte text front rest (position (λ b. b == byte) text) refl h)

no_place : (p : ℕ → Bool) (text : List ℕ) → position p text ≡ None → length text ≤ position_or_len p text
no_place p text e = elim (cases_Bool (ltb (position_or_len p text) (length text))) [
  | inl t ↦ absurd (let s : Some (position_or_len p text) ≡ None = sym (ap (λ b. cond b (Some (position_or_len p text)) None) t) ∙ e in cc)
  | inr f ↦ ltb-false _ _ f
]

split_none : (byte : ℕ) (text : List ℕ) (o : Option ℕ) → position (λ b. b == byte) text ≡ o → parted_at text o ≡ None → slice_split (λ b. b == byte) text ≡ text ∷ []
split_none byte text (Some k) e h = cc
split_none byte text None e h =
    let p : ℕ → Bool = λ b. b == byte in
    let past = no_place p text e in
    slice_split_none p text (λ k d l. fails_before_first p text k d (omega arith))

-- if there is none, the whole is the only piece
pub cut_at-none : (byte at : ℕ) (text : List ℕ) → split_once byte text ≡ None → split_at byte (piece at text) ≡ piece at text ∷ []
cut_at-none byte at text h = ap (placed_texts at) (split_none byte text (position (λ b. b == byte) text) refl h)
