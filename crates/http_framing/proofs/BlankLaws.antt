-- Empty lines: they begin some head, and no head is made of them.
use Rattle.std.proofs.Common.{◌≡◌, ◌==◌, ℕ, true, false, true≢false, cond, List, [], ◌∷◌, ◌++◌, codes, refl, sym, ap, ◌∙◌, subst, append_assoc, arith}
use Rattle.std.proofs.lemmas.List.Elements.{All-nil, All-cons}
use Rattle.std.proofs.lemmas.Str.{IsUtf8-from_ascii}
use Rattle.std.proofs.lemmas.Str.Ascii.{IsAscii-cons, IsAscii-nil}
use Rattle.std.proofs.lemmas.Bool.{eqb-true}
use Rattle.httparse.specs.Grammar.{LineEnd, crlf, lf, print_blank, RequestHead, print_request, IsToken, is_token_byte, is_uri_byte}
use Rattle.httparse.proofs.GrammarLemmas.{print_request-append}
use Rattle.http_framing.specs.Heads.{IsHopeless, HasHead}
use Rattle.http_framing.specs.Blank.{is_blank, is_blank_after_cr}

pub is_blank-print : (ends : List LineEnd) (rest : List ℕ) → is_blank (print_blank ends ++ rest) ≡ is_blank rest
is_blank-print [] rest = refl
is_blank-print (crlf ∷ ends) rest = is_blank-print ends rest
is_blank-print (lf ∷ ends) rest = is_blank-print ends rest

-- a token begins with no CR or LF
token_not_blank : (m : ℕ) (rest : List ℕ) → is_token_byte m ≡ true → is_blank (m ∷ rest) ≡ false
unfolding is_token_byte
token_not_blank m rest is =
    elim (m == 10) as (λ b. (m == 10) ≡ b → cond b (is_blank rest) (cond (m == 13) (is_blank_after_cr rest) false) ≡ false) [
      | true ↦ λ e. absurd (true≢false (sym (subst (λ x. is_token_byte x ≡ true) (eqb-true m 10 e) is) ∙ refl))
      | false ↦ λ e. elim (m == 13) as (λ b. (m == 13) ≡ b → cond b (is_blank_after_cr rest) false ≡ false) [
        | true ↦ λ e. absurd (true≢false (sym (subst (λ x. is_token_byte x ≡ true) (eqb-true m 13 e) is) ∙ refl))
        | false ↦ λ e. refl
      ] refl
    ] refl

-- no head is made of empty lines
pub HasHead-not_blank : (bytes : List ℕ) (h : RequestHead) (rest : List ℕ) → HasHead bytes h rest → is_blank bytes ≡ false
HasHead-not_blank bytes h rest x =
    let parts = x.reads.1 ∙ print_request-append h rest in
    rw parts (is_blank-print h.blank _ ∙ method_not_blank h.method _ x.reads.0.method)
  where
    method_not_blank : (method rest : List ℕ) → IsToken method → is_blank (method ++ rest) ≡ false
    method_not_blank [] rest is = let some = is.0 in absurd (omega arith)
    method_not_blank (m ∷ method) rest is = token_not_blank m (method ++ rest) (is.1 0 m (omega arith))

-- some bytes make empty lines whole
abbrev mutual
  pub completed : (bytes : List ℕ) → is_blank bytes ≡ true → (ends : List LineEnd) × (more : List ℕ) × (bytes ++ more ≡ print_blank ends)
  completed [] is = ([], [], refl)
  completed (b ∷ bytes) is =
      elim (b == 10) as (λ v. (b == 10) ≡ v → cond v (is_blank bytes) (cond (b == 13) (is_blank_after_cr bytes) false) ≡ true
      → (ends : List LineEnd) × (more : List ℕ) × ((b ∷ bytes) ++ more ≡ print_blank ends)) [
        | true ↦ λ e on. let r = completed bytes on in (lf ∷ r.0, r.1, rw (eqb-true b 10 e) (ap (λ t. 10 ∷ t) r.2))
        | false ↦ λ e on. elim (b == 13) as (λ v. (b == 13) ≡ v → cond v (is_blank_after_cr bytes) false ≡ true
            → (ends : List LineEnd) × (more : List ℕ) × ((b ∷ bytes) ++ more ≡ print_blank ends)) [
              | true ↦ λ e on. let r = completed_after_cr bytes on in (r.0, r.1, rw (eqb-true b 13 e) r.2)
              | false ↦ λ e on. absurd (true≢false (sym on))
            ] refl on
      ] refl is

  pub completed_after_cr : (bytes : List ℕ) → is_blank_after_cr bytes ≡ true → (ends : List LineEnd) × (more : List ℕ) × (13 ∷ (bytes ++ more) ≡ print_blank ends)
  completed_after_cr [] is = (crlf ∷ [], 10 ∷ [], refl)
  completed_after_cr (b ∷ bytes) is =
      elim (b == 10) as (λ v. (b == 10) ≡ v → cond v (is_blank bytes) false ≡ true
      → (ends : List LineEnd) × (more : List ℕ) × (13 ∷ ((b ∷ bytes) ++ more) ≡ print_blank ends)) [
        | true ↦ λ e on. let r = completed bytes on in (crlf ∷ r.0, r.1, rw (eqb-true b 10 e) (ap (λ t. 13 ∷ 10 ∷ t) r.2))
        | false ↦ λ e on. absurd (true≢false (sym on))
      ] refl is

-- the shortest head after these empty lines
shortest : List LineEnd → RequestHead
shortest ends = record {
  blank = ends;
  method = 65 ∷ [];
  target = 47 ∷ [];
  minor = 0;
  line_end = lf;
  fields = [];
  last = lf;
}

letter_is_token : is_token_byte 65 ≡ true
unfolding is_token_byte
letter_is_token = refl

slash_is_target : is_uri_byte 47 ≡ true
slash_is_target = refl

-- empty lines are not hopeless
pub is_blank-hopeful : (bytes : List ℕ) → is_blank bytes ≡ true → IsHopeless bytes → ⊥
unfolding shortest
is_blank-hopeful bytes is hopeless =
    let r = completed bytes is in
    let line = codes "A / HTTP/1.0" ++ 10 ∷ 10 ∷ [] in
    let h = shortest r.0 in
    let whole : bytes ++ (r.1 ++ line) ≡ print_request h ++ [] =
    sym (append_assoc bytes r.1 line) ∙ (ap (λ t. t ++ line) r.2 ∙ sym (print_request-append h [])) in
    let over = hopeless (r.1 ++ line) h [] (
      record {
        method = (omega arith, All-cons (λ v. is_token_byte v ≡ true) 65 [] letter_is_token (All-nil _));
        target = (omega arith, All-cons (λ v. is_uri_byte v ≡ true) 47 [] slash_is_target (All-nil _));
        target_text = IsUtf8-from_ascii _ (IsAscii-cons 47 [] (omega arith) IsAscii-nil);
        minor = omega arith;
        fields = All-nil _;
      },
      whole,
    ) in
    absurd (omega arith)
