-- The requests of a stream of bytes in order, and how it ends.
use Rattle.std.specs.Prelude.{◌≡◌, ℕ, ◌<◌, List, [], ◌∷◌, length, true, false}
use Rattle.http_framing.specs.Heads.{max_head}
use Rattle.http_framing.specs.Blank.{is_blank}
use Rattle.http_framing.specs.Closing.{is_closing}
use Rattle.http_framing.specs.Requests.{Request, HasRequest, IsPartial, IsMalformed}
use Rattle.http_framing.specs.declared.bodies.RequestRefusal.{RequestRefusal}

-- how a stream ends: after its last request, inside a request, after a request that closes, or at
-- one that is refused
pub data Ending : Type 0 where
  ended : Ending
  cut : Ending
  closed : Ending
  malformed : RequestRefusal → Ending

-- the bytes hold no whole request, and a stream that ends with them has this ending
abbrev pub EndsStream : List ℕ → Ending → Type 0
EndsStream bytes ended = (is_blank bytes ≡ true) × (length bytes < max_head)
EndsStream bytes cut = IsPartial bytes × (is_blank bytes ≡ false)
EndsStream bytes closed = ⊥
EndsStream bytes (malformed why) = IsMalformed bytes why

-- the session goes on after the request
abbrev pub IsOpen : Request → Type 0
IsOpen request = is_closing request.head ≡ false

-- a stream of these bytes has these requests in order, and this ending
abbrev pub Requests : List ℕ → List Request → Ending → Type 0
Requests bytes [] ending = EndsStream bytes ending
Requests bytes (request ∷ requests) ending =
    (rest : List ℕ) × HasRequest bytes request rest
    × (is_closing request.head ≡ true → (requests ≡ []) × (ending ≡ closed))
    × (is_closing request.head ≡ false → Requests rest requests ending)

-- the bytes are these requests, one after another, and then rest
abbrev pub Splits : List ℕ → List Request → List ℕ → Type 0
Splits bytes [] rest = bytes ≡ rest
Splits bytes (request ∷ requests) rest =
    (after : List ℕ) × HasRequest bytes request after × Splits after requests rest
