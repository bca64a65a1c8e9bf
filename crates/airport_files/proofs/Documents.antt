-- The document of bytes that are text, and of bytes that are not.
use Rattle.std.proofs.Common.{◌≡◌, ℕ, List, None, inl, inr}
use Rattle.std.specs.Str.{IsUtf8, is_utf8}
use Rattle.std.proofs.lemmas.Bool.{cases_Bool}
use Rattle.std.proofs.lemmas.Str.{IsUtf8-from_is_utf8, is_utf8-from_IsUtf8}
use Rattle.toml.specs.Parse.{parse_document}
use Rattle.airport_files.specs.Document.{document}

pub document-text : (bytes : List ℕ) → IsUtf8 bytes → document bytes ≡ parse_document bytes
document-text bytes h = rw (is_utf8-from_IsUtf8 bytes h)

pub document-no_text : (bytes : List ℕ) → ¬ (IsUtf8 bytes) → document bytes ≡ None
document-no_text bytes h = elim (cases_Bool (is_utf8 bytes)) [
  | inl true_is ↦ absurd (h (IsUtf8-from_is_utf8 bytes true_is))
  | inr false_is ↦ rw false_is
]
