-- How the requests of a stream are put together as its bytes come.
use Rattle.std.proofs.Common.{◌≡◌, ℕ, ◌<◌, true, false, true≢false, List, [], ◌∷◌, ◌++◌, All, length, refl, sym, ap, ◌∙◌, subst, append_assoc, arith, inl, inr, length-append}
use Rattle.std.proofs.lemmas.List.Elements.{All-head, All-tail}
use Rattle.httparse.specs.Grammar.{print_request}
use Rattle.http_framing.specs.Blank.{is_blank}
use Rattle.http_framing.specs.Closing.{is_closing}
use Rattle.http_framing.specs.Fields.{pairs}
use Rattle.http_framing.specs.Heads.{HasHead}
use Rattle.http_framing.specs.Requests.{Request, HasRequest, IsPartial, IsMalformed}
use Rattle.http_framing.specs.declared.bodies.RequestRefusal.{RequestRefusal}
use Rattle.http_framing.specs.Rooms.{max_request}
use Rattle.http_framing.specs.Streams.{Ending, ended, cut, closed, EndsStream, IsOpen, Requests, Splits}
use Rattle.http_framing.proofs.BlankLaws.{HasHead-not_blank}
use Rattle.http_framing.proofs.BodyLaws.{framed_bound}
use Rattle.http_framing.proofs.HeadLaws.{HasHead-append, IsBadHead-append}

-- a whole request stays whole, whatever bytes follow
pub whole_more : (bytes more : List ℕ) (r : Request) (rest : List ℕ) → HasRequest bytes r rest → HasRequest (bytes ++ more) r (rest ++ more)
whole_more bytes more r rest x = record {
  head = subst (HasHead (bytes ++ more) r.head) (append_assoc r.body rest more) (HasHead-append bytes more r.head (r.body ++ rest) x.head);
  body = x.body;
}

-- so do many
pub splits_more : (bytes more rest : List ℕ) (requests : List Request) → Splits bytes requests rest → Splits (bytes ++ more) requests (rest ++ more)
splits_more bytes more rest [] x = ap (λ t. t ++ more) x
splits_more bytes more rest (r ∷ rs) x = (x.0 ++ more, whole_more bytes more r x.0 x.1, splits_more x.0 more rest rs x.2)

-- and a refusal
pub malformed_more : (bytes more : List ℕ) (why : RequestRefusal) → IsMalformed bytes why → IsMalformed (bytes ++ more) why
malformed_more bytes more why (inl (e, bad)) = inl (e, IsBadHead-append bytes more bad)
malformed_more bytes more why (inr (h, after, x)) = inr (h, after ++ more, record { head = HasHead-append bytes more h after x.head; framed_as = x.framed_as })

-- one more request is there
pub splits_push : (bytes rest more : List ℕ) (requests : List Request) (r : Request) → Splits bytes requests rest → HasRequest rest r more
    → Splits bytes (requests ++ r ∷ []) more
splits_push bytes rest more [] r x y = (more, subst (λ t. HasRequest t r more) (sym x) y, refl)
splits_push bytes rest more (q ∷ qs) r x y = (x.0, x.1, splits_push x.0 rest more qs r x.2 y)

-- what is not a whole request yet has room for more bytes
pub partial_short : (bytes : List ℕ) → IsPartial bytes → length bytes < max_request
partial_short bytes (inl x) = let short = x.short in omega arith
partial_short bytes (inr (h, after, wanted, x)) =
    let long = ap length x.head.reads.1 in
    let short = x.head.short in
    let few = framed_bound h.method (pairs h) wanted x.framed_as in
    let less = x.cut in
    omega (arith, length-append (print_request h) after)

-- a stream that ends there has ended between requests if the bytes are empty lines
pub partial_ended : (bytes : List ℕ) → IsPartial bytes → is_blank bytes ≡ true → EndsStream bytes ended
partial_ended bytes (inl x) blank = (blank, x.short)
partial_ended bytes (inr (h, after, wanted, x)) blank = absurd (true≢false (sym blank ∙ HasHead-not_blank bytes h after x.head))

-- and is cut if they are not
pub partial_cut : (bytes : List ℕ) → IsPartial bytes → is_blank bytes ≡ false → EndsStream bytes cut
partial_cut bytes x other = (x, other)

-- the requests so far, if each leaves the session open, and how the rest ends
pub requests_of : (bytes rest : List ℕ) (requests : List Request) (ending : Ending) → Splits bytes requests rest → All IsOpen requests → EndsStream rest ending
    → Requests bytes requests ending
requests_of bytes rest [] ending x open_all ends = subst (λ t. EndsStream t ending) (sym x) ends
requests_of bytes rest (r ∷ rs) ending x open_all ends =
    let first = All-head IsOpen r rs open_all in (
      x.0,
      x.1,
      λ closing. absurd (true≢false (sym closing ∙ first)),
      λ _. requests_of x.0 rest rs ending x.2 (All-tail IsOpen r rs open_all) ends,
    )

-- the same if the last request closes the session
pub requests_closed : (bytes rest : List ℕ) (before : List Request) (last : Request) → Splits bytes (before ++ last ∷ []) rest → All IsOpen before
    → is_closing last.head ≡ true → Requests bytes (before ++ last ∷ []) closed
requests_closed bytes rest [] last x open_all closing = (x.0, x.1, λ _. (refl, refl), λ stays. absurd (true≢false (sym closing ∙ stays)))
requests_closed bytes rest (r ∷ rs) last x open_all closing =
    let first = All-head IsOpen r rs open_all in (
      x.0,
      x.1,
      λ now. absurd (true≢false (sym now ∙ first)),
      λ _. requests_closed x.0 rest rs last x.2 (All-tail IsOpen r rs open_all) closing,
    )
