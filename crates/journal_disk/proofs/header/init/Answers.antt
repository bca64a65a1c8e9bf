use Rattle.std.proofs.Common.{◌∙◌, ap, arith, List, ℕ, length, ◌≡◌, ◌+◌, ◌++◌}
use Rattle.std.proofs.lemmas.List.{drop_all, append-nil}
use Rattle.journal_disk.specs.Disk.{with_piece_at}
use Rattle.journal_disk.proofs.header.init.Goals as goal

written_whole : (piece old : List ℕ) → length old ≡ 0 → with_piece_at 0 piece old ≡ piece
written_whole piece old empty = ap (λ (l : List ℕ). piece ++ l) (drop_all (0 + length piece) old (omega (arith, empty))) ∙ append-nil piece

pub returns-clause-made : goal.returns-clause-made
returns-clause-made g c = λ bytes told image left.
    let empty : length bytes ≡ 0 = omega (arith, c.in_ok-length.ensures.length bytes told, c.if-branch-ne0.false) in
    c.in_ok-write_safely.ensures.safe bytes (c.length.ensures.stays.contents ∙ told) image left ∙ written_whole _ bytes empty ∙ c.empty_journal.ensures.text
