-- The head of a request, as `httparse` reads it by default, with at most 64 fields and 8,192 bytes.
use Rattle.std.specs.Prelude.{ℕ, ◌<◌, ◌≤◌, ◌⊎◌, List, length}
use Rattle.httparse.specs.Grammar.{RequestHead, print_request, ReadsRequest, HasNoRequest, MayBecomeRequest}
use Rattle.httparse.specs.Spans.{RequestOverflows}

-- the most fields of a head
abbrev pub max_fields : ℕ
max_fields = 64

-- the most bytes of a head, with the empty lines before it
abbrev pub max_head : ℕ
max_head = 8192

-- the bytes are a head within the limits and then rest
pub record HasHead (bytes : List ℕ) (head : RequestHead) (rest : List ℕ) : Type 0 where
  pub reads : ReadsRequest bytes head rest
  pub few : length head.fields ≤ max_fields
  pub short : length (print_request head) ≤ max_head

-- no bytes that follow complete a head of at most 64 fields
abbrev pub IsHopeless : List ℕ → Type 0
IsHopeless bytes = RequestOverflows max_fields bytes

-- the longest head is there, and no head ends within it
pub record IsHeadTooLong (bytes : List ℕ) : Type 0 where
  pub long : max_head ≤ length bytes
  pub none : (head : RequestHead) (rest : List ℕ)
      → ReadsRequest bytes head rest
      → max_head < length (print_request head)

-- no head within the limits can come
abbrev pub IsBadHead : List ℕ → Type 0
IsBadHead bytes = IsHopeless bytes ⊎ IsHeadTooLong bytes

-- there is no head, but one may still come (inside a target `httparse` does not say), and there is
-- room for more bytes of it
pub record IsUnfinished (bytes : List ℕ) : Type 0 where
  pub none : HasNoRequest bytes
  pub hopeful : MayBecomeRequest bytes
  pub short : length bytes < max_head
