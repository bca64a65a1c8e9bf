-- The laws of the framing.
use Rattle.std.specs.Prelude.{◌≡◌, ℕ, ◌⊎◌, List, ◌++◌, ⊤}
use Rattle.http_framing.specs.Requests.{Request, IsMalformed}
use Rattle.http_framing.specs.Heads.{IsHopeless, IsUnfinished}
use Rattle.http_framing.specs.Streams.{Requests, Splits, Ending, cut, malformed}
use Rattle.http_framing.specs.declared.bodies.RequestRefusal.{RequestRefusal}
use Rattle.http_framing.specs.declared.bodies.RequestRefusal.TheVariants.{Head}

-- the head itself is refused
abbrev pub IsHeadRefusal : RequestRefusal → Type 0
IsHeadRefusal Head = ⊤
IsHeadRefusal why = ⊥

-- the two endings to choose from: the stream is cut, or its head is malformed
abbrev pub IsChoice : Ending → Ending → Type 0
IsChoice cut (malformed why) = IsHeadRefusal why
IsChoice (malformed why) cut = IsHeadRefusal why
IsChoice ending other = ⊥

-- the bytes are these requests and then the front of a head that no bytes complete
abbrev pub EndsInHopelessHead : List ℕ → List Request → Type 0
EndsInHopelessHead bytes requests =
    (rest : List ℕ) × Splits bytes requests rest × IsUnfinished rest × IsHopeless rest

-- a stream has one list of requests and one ending, except that a stream which ends inside a head
-- that no bytes complete has the choice
abbrev pub HaveOneReading : Type 0
HaveOneReading =
    (bytes : List ℕ) (requests others : List Request) (ending other : Ending)
    → Requests bytes requests ending → Requests bytes others other
    → (requests ≡ others)
    × ((ending ≡ other) ⊎ (IsChoice ending other × EndsInHopelessHead bytes requests))

-- the requests at the front of some bytes stay, whatever bytes follow
abbrev pub StayWithMore : Type 0
StayWithMore =
    (bytes more rest : List ℕ) (requests : List Request)
    → Splits bytes requests rest → Splits (bytes ++ more) requests (rest ++ more)

-- so does a refusal
abbrev pub RefusalsStay : Type 0
RefusalsStay =
    (bytes more : List ℕ) (why : RequestRefusal)
    → IsMalformed bytes why
    → IsMalformed (bytes ++ more) why
