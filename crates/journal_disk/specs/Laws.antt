-- A journal that was just made can be opened.
use Rattle.std.specs.Prelude.{◌≡◌, ℕ, List, [], length, Ok}
use Rattle.journal_disk.specs.Header.{opening_of, empty_journal}
use Rattle.journal_disk.specs.Limits.{digests_length}

-- a journal that was just made opens, and has no entry
abbrev pub EmptyOpens : Type 0
EmptyOpens =
    (digests : List ℕ)
    → length digests ≡ digests_length
    → opening_of digests (empty_journal digests) ≡ Ok []
