-- What the front of some bytes is found to be.
use Rattle.std.specs.Prelude.{◌≡◌, ℕ, ◌+◌, ◌≤◌, List, codes, length, drop}
use Rattle.httparse.specs.Grammar.{RequestHead, print_request}
use Rattle.httparse.specs.Spans.{IsRequestAt, IsRequestWithin}
use Rattle.httparse.specs.declared.spans.HeaderSpan.{HeaderSpan}
use Rattle.http_framing.specs.Closing.{is_closing}
use Rattle.http_framing.specs.Fields.{number_field, pairs, text_field, text_shown}
use Rattle.http_framing.specs.Heads.{HasHead, IsBadHead, IsUnfinished}
use Rattle.http_framing.specs.Requests.{Request, HasRequest, IsPartial, IsMalformed}
use Rattle.http_framing.specs.Streams.{EndsStream, ended, cut}
use Rattle.http_framing.specs.declared.front.Front.{Front}
use Rattle.http_framing.specs.declared.front.Front.TheVariants.{Whole, Partial, Malformed}
use Rattle.http_framing.specs.declared.front.RequestParts.{RequestParts}
use Rattle.http_framing.specs.declared.heads.HeadFront as head
use Rattle.http_framing.specs.declared.incoming.StreamEnd.{StreamEnd}
use Rattle.http_framing.specs.declared.incoming.StreamEnd.TheVariants.{Ended, Cut}

-- the parts are those of the request
pub record ArePartsOf (request : Request) (parts : RequestParts) : Type 0 where
  pub method : parts.method.now ≡ request.head.method
  pub target : parts.target.now ≡ request.head.target
  pub seen : parts.seen ≡ number_field (codes "x-seen") (pairs request.head)
  pub desk : text_shown parts.desk ≡ text_field (codes "x-desk") (pairs request.head)
  pub body : parts.body.now ≡ request.body
  pub closes : parts.closes ≡ is_closing request.head
  pub whole : parts.length ≡ length (print_request request.head) + length request.body

-- the bytes begin with the request, and the parts are its parts
pub record HasParts (bytes : List ℕ) (request : Request) (parts : RequestParts) : Type 0 where
  pub first : HasRequest bytes request (drop parts.length bytes)
  pub fits : parts.length ≤ length bytes
  pub parts_are : ArePartsOf request parts

-- what the front of the bytes is
abbrev pub IsFront : List ℕ → Front → Type 0
IsFront bytes (Whole parts) = (request : Request) × HasParts bytes request parts
IsFront bytes Partial = IsPartial bytes
IsFront bytes (Malformed why) = IsMalformed bytes why

-- how a stream ends with these bytes, which hold no whole request
abbrev pub IsEnd : List ℕ → StreamEnd → Type 0
IsEnd bytes Ended = EndsStream bytes ended
IsEnd bytes Cut = EndsStream bytes cut

-- what the head at the front of a window is
abbrev pub IsHeadFront : List ℕ → List HeaderSpan → head.HeadFront → Type 0
IsHeadFront bytes fields (head.TheVariants.Whole spans) =
    IsRequestWithin bytes fields spans
    × (h : RequestHead) × HasHead bytes h (drop spans.len bytes) × IsRequestAt bytes fields spans h
IsHeadFront bytes fields head.TheVariants.Partial = IsUnfinished bytes
IsHeadFront bytes fields head.TheVariants.Bad = IsBadHead bytes
