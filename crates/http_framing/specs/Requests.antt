-- The request at the front of some bytes, and what is there if there is no whole one.
use Rattle.std.specs.Prelude.{◌≡◌, ℕ, ◌<◌, ◌⊎◌, List, ◌++◌, length, Ok, Err}
use Rattle.httparse.specs.Grammar.{RequestHead}
use Rattle.http_framing.specs.Heads.{HasHead, IsBadHead, IsUnfinished}
use Rattle.http_framing.specs.Fields.{pairs}
use Rattle.http_framing.specs.Bodies.{length_by_fields}
use Rattle.http_framing.specs.declared.bodies.RequestRefusal.{RequestRefusal}
use Rattle.http_framing.specs.declared.bodies.RequestRefusal.TheVariants.{Head}

-- a head and its body
pub record Request : Type 0 where
  pub head : RequestHead
  pub body : List ℕ

-- the bytes are the request and then rest
pub record HasRequest (bytes : List ℕ) (request : Request) (rest : List ℕ) : Type 0 where
  pub head : HasHead bytes request.head (request.body ++ rest)
  pub body : length_by_fields request.head.method (pairs request.head) ≡ Ok (length request.body)

-- a whole head is there, but its body is cut
pub record IsBodyCut (bytes : List ℕ) (first : RequestHead) (after : List ℕ)
    (wanted : ℕ) : Type 0 where
  pub head : HasHead bytes first after
  pub framed_as : length_by_fields first.method (pairs first) ≡ Ok wanted
  pub cut : length after < wanted

-- a whole head is there, but its fields are refused
pub record IsRequestRefused (bytes : List ℕ) (first : RequestHead) (after : List ℕ)
    (why : RequestRefusal) : Type 0 where
  pub head : HasHead bytes first after
  pub framed_as : length_by_fields first.method (pairs first) ≡ Err why

-- the bytes end inside a request, or before one
abbrev pub IsPartial : List ℕ → Type 0
IsPartial bytes = IsUnfinished bytes
    ⊎ ((first : RequestHead) × (after : List ℕ) × (wanted : ℕ) × IsBodyCut bytes first after wanted)

-- the front of the bytes is refused for this reason
abbrev pub IsMalformed : List ℕ → RequestRefusal → Type 0
IsMalformed bytes why =
    ((why ≡ Head) × IsBadHead bytes)
    ⊎ ((first : RequestHead) × (after : List ℕ) × IsRequestRefused bytes first after why)
