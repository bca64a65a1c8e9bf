-- Laws of heads: what is found in a window of a stream holds of the stream.
use Rattle.std.proofs.Common.{◌≡◌, ℕ, ◌≤◌, List, [], ◌++◌, length, take, drop, refl, sym, ap, ◌∙◌, subst, append_assoc, arith, inl, inr, length-append}
use Rattle.std.proofs.lemmas.Bool.{cases_lt}
use Rattle.std.proofs.lemmas.List.{take-append-drop, take-append-le, take_at, length-take-le, drop-append-le, take_all}
use Rattle.httparse.specs.Grammar.{RequestHead, print_request, ReadsRequest}
use Rattle.httparse.proofs.GrammarLemmas.{request_unique, ReadsRequest-append}
use Rattle.http_framing.specs.Heads.{HasHead, IsHopeless, IsHeadTooLong, IsBadHead, IsUnfinished, max_head}

-- if two ways to split a text meet, the shorter front begins the longer one
pub front_within : (a more p rest : List ℕ) → a ++ more ≡ p ++ rest → length p ≤ length a → a ≡ p ++ drop (length p) a
front_within a more p rest e fits =
    let cut : take (length p) a ≡ p =
    sym (take-append-le (length p) a more fits) ∙ (ap (take (length p)) e ∙ take_at p rest (length p) refl) in
    sym (take-append-drop (length p) a) ∙ ap (λ t. t ++ drop (length p) a) cut

-- a head stays, whatever bytes follow
pub HasHead-append : (bytes more : List ℕ) (h : RequestHead) (rest : List ℕ) → HasHead bytes h rest → HasHead (bytes ++ more) h (rest ++ more)
HasHead-append bytes more h rest x = record {
  reads = ReadsRequest-append bytes h rest more x.reads;
  few = x.few;
  short = x.short;
}

-- a hopeless head stays so
pub IsHopeless-append : (bytes more : List ℕ) → IsHopeless bytes → IsHopeless (bytes ++ more)
IsHopeless-append bytes more x = λ later h rest reads. x (more ++ later) h rest (subst (λ t. ReadsRequest t h rest) (append_assoc bytes more later) reads)

-- so does one that is too long
pub IsTooLong-append : (bytes more : List ℕ) → IsHeadTooLong bytes → IsHeadTooLong (bytes ++ more)
IsTooLong-append bytes more x = record {
  long = let l = x.long in omega (arith, length-append bytes more);
  none = λ h rest reads. elim (cases_lt max_head (length (print_request h))) [
    | inl over ↦ over
    | inr under ↦ x.none h (drop (length (print_request h)) bytes) (reads.0, front_within bytes more (print_request h) rest reads.1 (let l = x.long in omega arith))
  ];
}

pub IsBadHead-append : (bytes more : List ℕ) → IsBadHead bytes → IsBadHead (bytes ++ more)
IsBadHead-append bytes more (inl x) = inl (IsHopeless-append bytes more x)
IsBadHead-append bytes more (inr x) = inr (IsTooLong-append bytes more x)

-- one head, one rest
pub HasHead-unique : (bytes : List ℕ) (h k : RequestHead) (r q : List ℕ) → HasHead bytes h r → HasHead bytes k q → (h ≡ k) × (r ≡ q)
HasHead-unique bytes h k r q x y = request_unique bytes h k r q x.reads y.reads

-- a head within the limits is not answered as malformed
pub HasHead-good : (bytes : List ℕ) (h : RequestHead) (r : List ℕ) → HasHead bytes h r → IsBadHead bytes → ⊥
HasHead-good bytes h r x (inl hopeless) = let over = hopeless [] h (r ++ []) (ReadsRequest-append bytes h r [] x.reads) in let few = x.few in absurd (omega arith)
HasHead-good bytes h r x (inr long) = let over = long.none h r x.reads in let short = x.short in absurd (omega arith)

-- nor is it unfinished
pub HasHead-finished : (bytes : List ℕ) (h : RequestHead) (r : List ℕ) → HasHead bytes h r → IsUnfinished bytes → ⊥
HasHead-finished bytes h r x y = y.none h r x.reads

-- what is read in a window is in the whole
pub HasHead-window : (n : ℕ) (bytes : List ℕ) (h : RequestHead) (len : ℕ) → len ≤ length (take n bytes)
    → HasHead (take n bytes) h (drop len (take n bytes)) → HasHead bytes h (drop len bytes)
HasHead-window n bytes h len fits x =
    let whole = take-append-drop n bytes in
    let rest : drop len (take n bytes) ++ drop n bytes ≡ drop len bytes =
    sym (drop-append-le len (take n bytes) (drop n bytes) fits) ∙ ap (drop len) whole in
    let at_whole = HasHead-append (take n bytes) (drop n bytes) h (drop len (take n bytes)) x in
    subst (λ t. HasHead t h (drop len bytes)) whole (subst (λ r. HasHead (take n bytes ++ drop n bytes) h r) rest at_whole)

pub IsBadHead-window : (n : ℕ) (bytes : List ℕ) → IsBadHead (take n bytes) → IsBadHead bytes
IsBadHead-window n bytes x = subst IsBadHead (take-append-drop n bytes) (IsBadHead-append (take n bytes) (drop n bytes) x)

-- a window that is not full is the whole
pub IsUnfinished-window : (bytes : List ℕ) → IsUnfinished (take max_head bytes) → IsUnfinished bytes
IsUnfinished-window bytes x =
    elim (cases_lt (length bytes) max_head) [
      | inl short ↦ subst IsUnfinished (take_all max_head bytes (omega arith)) x
      | inr long ↦ let full = length-take-le max_head bytes long in let less = x.short in absurd (omega arith)
    ]
