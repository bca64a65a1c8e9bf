-- A stream has one reading.
use Rattle.std.proofs.Common.{◌≡◌, ℕ, true, false, true≢false, List, [], ◌∷◌, ◌++◌, length, take, drop, refl, sym, ap, ap₂, ◌∙◌, Result, Ok, subst, arith, inl, inr, ◌⊎◌, length-append}
use Rattle.std.proofs.lemmas.List.{take_at, drop_at}
use Rattle.httparse.specs.Grammar.{RequestHead}
use Rattle.http_framing.specs.Fields.{pairs}
use Rattle.http_framing.specs.Heads.{HasHead, IsHopeless, IsUnfinished}
use Rattle.http_framing.specs.Bodies.{length_by_fields}
use Rattle.http_framing.specs.Closing.{is_closing}
use Rattle.http_framing.specs.Laws.{EndsInHopelessHead, IsChoice, HaveOneReading, IsHeadRefusal}
use Rattle.http_framing.specs.Requests.{Request, HasRequest, IsPartial, IsMalformed}
use Rattle.http_framing.specs.Streams.{EndsStream, Ending, ended, cut, closed, malformed, Requests}
use Rattle.http_framing.specs.declared.bodies.RequestRefusal.{RequestRefusal}
use Rattle.http_framing.proofs.HeadLaws.{HasHead-unique, HasHead-good, HasHead-finished}
use Rattle.http_framing.proofs.BlankLaws.{HasHead-not_blank, is_blank-hopeful}

same_framing : (bytes : List ℕ) (h k : RequestHead) (r q : List ℕ) (a b : Result ℕ RequestRefusal) → HasHead bytes h r → HasHead bytes k q
    → length_by_fields h.method (pairs h) ≡ a → length_by_fields k.method (pairs k) ≡ b → a ≡ b
same_framing bytes h k r q a b x y e f =
    let same = HasHead-unique bytes h k r q x y in sym e ∙ (ap (λ h. length_by_fields h.method (pairs h)) same.0 ∙ f)

body_length : (a b : ℕ) → (let x : Result ℕ RequestRefusal = Ok a in x ≡ Ok b) → a ≡ b
body_length a b e = cc

-- one request, one rest
pub HasRequest-unique : (bytes : List ℕ) (r q : Request) (s t : List ℕ) → HasRequest bytes r s → HasRequest bytes q t → (r ≡ q) × (s ≡ t)
HasRequest-unique bytes r q s t x y =
    let same = HasHead-unique bytes r.head q.head (r.body ++ s) (q.body ++ t) x.head y.head in
    let long = body_length (length r.body) (length q.body) (same_framing bytes r.head q.head _ _ _ _ x.head y.head x.body y.body) in
    let body : r.body ≡ q.body = sym (take_at r.body s (length r.body) refl) ∙ (ap (take (length r.body)) same.1 ∙ take_at q.body t (length r.body) (sym long)) in
    let rest : s ≡ t = sym (drop_at r.body s (length r.body) refl) ∙ (ap (drop (length r.body)) same.1 ∙ drop_at q.body t (length r.body) (sym long)) in
    (λ i. record { head = same.0 i; body = body i }, rest)

blank_malformed : (bytes : List ℕ) (why : RequestRefusal) → EndsStream bytes ended → IsMalformed bytes why → ⊥
blank_malformed bytes why x (inl (e, inl hopeless)) = is_blank-hopeful bytes x.0 hopeless
blank_malformed bytes why x (inl (e, inr long)) = let a = x.1 in let b = long.long in absurd (omega arith)
blank_malformed bytes why x (inr (h, after, y)) = true≢false (sym x.0 ∙ HasHead-not_blank bytes h after y.head)

partial_malformed : (bytes : List ℕ) (why : RequestRefusal) → IsPartial bytes → IsMalformed bytes why → IsHeadRefusal why
partial_malformed bytes why (inl x) (inl (e, bad)) = subst IsHeadRefusal (sym e) tt
partial_malformed bytes why (inl x) (inr (h, after, y)) = absurd (HasHead-finished bytes h after y.head x)
partial_malformed bytes why (inr (h, after, wanted, x)) (inl (e, bad)) = absurd (HasHead-good bytes h after x.head bad)
partial_malformed bytes why (inr (h, after, wanted, x)) (inr (k, rest, y)) =
    let e = same_framing bytes h k after rest _ _ x.head y.head x.framed_as y.framed_as in absurd (cc)

malformed_malformed : (bytes : List ℕ) (why other : RequestRefusal) → IsMalformed bytes why → IsMalformed bytes other → why ≡ other
malformed_malformed bytes why other (inl (e, bad)) (inl (f, worse)) = e ∙ sym f
malformed_malformed bytes why other (inl (e, bad)) (inr (h, after, y)) = absurd (HasHead-good bytes h after y.head bad)
malformed_malformed bytes why other (inr (h, after, x)) (inl (f, bad)) = absurd (HasHead-good bytes h after x.head bad)
malformed_malformed bytes why other (inr (h, after, x)) (inr (k, rest, y)) =
    let e = same_framing bytes h k after rest _ _ x.head y.head x.framed_as y.framed_as in cc

-- one ending, except for the choice
Ends-unique : (bytes : List ℕ) (e f : Ending) → EndsStream bytes e → EndsStream bytes f → (e ≡ f) ⊎ IsChoice e f
Ends-unique bytes ended ended x y = inl refl
Ends-unique bytes ended cut x y = absurd (true≢false (sym x.0 ∙ y.1))
Ends-unique bytes ended closed x y = absurd y
Ends-unique bytes ended (malformed why) x y = absurd (blank_malformed bytes why x y)
Ends-unique bytes cut ended x y = absurd (true≢false (sym y.0 ∙ x.1))
Ends-unique bytes cut cut x y = inl refl
Ends-unique bytes cut closed x y = absurd y
Ends-unique bytes cut (malformed why) x y = inr (partial_malformed bytes why x.0 y)
Ends-unique bytes closed f x y = absurd x
Ends-unique bytes (malformed why) ended x y = absurd (blank_malformed bytes why y x)
Ends-unique bytes (malformed why) cut x y = inr (partial_malformed bytes why y.0 x)
Ends-unique bytes (malformed why) closed x y = absurd y
Ends-unique bytes (malformed why) (malformed other) x y = inl (ap malformed (malformed_malformed bytes why other x y))

-- a stream that ends holds no request
pub request_ends : (bytes : List ℕ) (r : Request) (rest : List ℕ) (e : Ending) → HasRequest bytes r rest → EndsStream bytes e → ⊥
request_ends bytes r rest ended x y = true≢false (sym y.0 ∙ HasHead-not_blank bytes r.head _ x.head)
request_ends bytes r rest cut x y = on_partial y.0
  where
    on_partial : IsPartial bytes → ⊥
    on_partial (inl z) = HasHead-finished bytes r.head _ x.head z
    on_partial (inr (h, after, wanted, z)) =
        let same = HasHead-unique bytes r.head h _ after x.head z.head in
        let long = body_length (length r.body) wanted (same_framing bytes r.head h _ after _ _ x.head z.head x.body z.framed_as) in
        let less = z.cut in
        absurd (omega (arith, ap length same.1, length-append r.body rest))
request_ends bytes r rest closed x y = y
request_ends bytes r rest (malformed why) x y = on_malformed y
  where
    on_malformed : IsMalformed bytes why → ⊥
    on_malformed (inl (e, bad)) = HasHead-good bytes r.head _ x.head bad
    on_malformed (inr (h, after, z)) =
        let e = same_framing bytes r.head h _ after _ _ x.head z.head x.body z.framed_as in absurd (cc)

-- a stream has one list of requests and one ending, except for the choice
pub one_reading : (bytes : List ℕ) (requests others : List Request) (ending other : Ending) → Requests bytes requests ending → Requests bytes others other
    → (requests ≡ others) × ((ending ≡ other) ⊎ IsChoice ending other)
one_reading bytes [] [] e f x y = (refl, Ends-unique bytes e f x y)
one_reading bytes [] (q ∷ qs) e f x y = absurd (request_ends bytes q y.0 e y.1 x)
one_reading bytes (r ∷ rs) [] e f x y = absurd (request_ends bytes r x.0 f x.1 y)
one_reading bytes (r ∷ rs) (q ∷ qs) e f x y =
    let same = HasRequest-unique bytes r q x.0 y.0 x.1 y.1 in
    elim (is_closing r.head) as (λ b. is_closing r.head ≡ b → (r ∷ rs ≡ q ∷ qs) × ((e ≡ f) ⊎ IsChoice e f)) [
      | true ↦ λ on.
          let a = x.2 on in
          let b = y.2 (ap (λ r. is_closing r.head) (sym same.0) ∙ on) in
          (ap₂ (λ r rs. r ∷ rs) same.0 (a.0 ∙ sym b.0), inl (a.1 ∙ sym b.1))
      | false ↦ λ on.
          let a = x.3 on in
          let b = y.3 (ap (λ r. is_closing r.head) (sym same.0) ∙ on) in
          let rest = one_reading x.0 rs qs e f a (subst (λ t. Requests t qs f) (sym same.1) b) in
          (ap₂ (λ r rs. r ∷ rs) same.0 rest.0, rest.1)
    ] refl

-- a head that is partial and malformed is unfinished and hopeless
hopeless_head : (bytes : List ℕ) (why : RequestRefusal) → IsHeadRefusal why → IsPartial bytes → IsMalformed bytes why → IsUnfinished bytes × IsHopeless bytes
hopeless_head bytes why refusal (inl x) (inl (e, inl hopeless)) = (x, hopeless)
hopeless_head bytes why refusal (inl x) (inl (e, inr long)) = let a = x.short in let b = long.long in absurd (omega arith)
hopeless_head bytes why refusal (inl x) (inr (h, after, y)) = absurd (HasHead-finished bytes h after y.head x)
hopeless_head bytes why refusal (inr (h, after, wanted, x)) (inl (e, bad)) = absurd (HasHead-good bytes h after x.head bad)
hopeless_head bytes why refusal (inr (h, after, wanted, x)) (inr (k, rest, y)) =
    let e = same_framing bytes h k after rest _ _ x.head y.head x.framed_as y.framed_as in absurd (cc)

-- bytes with both endings of the choice are an unfinished and hopeless head
chosen_ends : (bytes : List ℕ) (e f : Ending) → EndsStream bytes e → EndsStream bytes f → IsChoice e f → IsUnfinished bytes × IsHopeless bytes
chosen_ends bytes cut (malformed why) x y choice = hopeless_head bytes why choice x.0 y
chosen_ends bytes (malformed why) cut x y choice = hopeless_head bytes why choice y.0 x
chosen_ends bytes e f x y choice = absurd choice

not_closed : (e f : Ending) → IsChoice e f → e ≡ closed → ⊥
not_closed cut f choice is = cc
not_closed (malformed why) f choice is = cc
not_closed e f choice is = choice

chosen : (bytes : List ℕ) (requests : List Request) (e f : Ending) → Requests bytes requests e → Requests bytes requests f → IsChoice e f → EndsInHopelessHead bytes requests
chosen bytes [] e f x y choice =
    let ends = chosen_ends bytes e f x y choice in (bytes, refl, ends.0, ends.1)
chosen bytes (r ∷ rs) e f x y choice =
    let same = HasRequest-unique bytes r r x.0 y.0 x.1 y.1 in
    elim (is_closing r.head) as (λ b. is_closing r.head ≡ b → EndsInHopelessHead bytes (r ∷ rs)) [
      | true ↦ λ on. absurd (not_closed e f choice (x.2 on).1)
      | false ↦ λ on.
          let rest = chosen x.0 rs e f (x.3 on) (subst (λ t. Requests t rs f) (sym same.1) (y.3 on)) choice in
          (rest.0, (x.0, x.1, rest.1), rest.2, rest.3)
    ] refl

pub one_reading_law : HaveOneReading
one_reading_law bytes requests others e f x y =
    let same = one_reading bytes requests others e f x y in (
      same.0,
      elim (same.1) [
        | inl is ↦ inl is
        | inr choice ↦ inr (choice, chosen bytes requests e f x (subst (λ rs. Requests bytes rs f) (sym same.0) y) choice)
      ],
    )
