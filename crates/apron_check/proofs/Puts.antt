-- What is written by one put after another.
use Rattle.std.proofs.Common.{◌≡◌, ◌∙◌, ◌+◌, ℕ, List, [], ◌∷◌, ◌++◌, length, take, take_all, suc, zero-add, inl, inr, false, true, sym, ap, subst, arith}
use Rattle.std.specs.Prelude.{Result, Ok, Err, IsErr}
use Rattle.std.proofs.lemmas.Bool.{cases_lt}
use Rattle.std.proofs.lemmas.List.{take-append-le}
use Rattle.apron_base.specs.Ends.{Puts, SinkState, Wrote}
use Rattle.apron_base.proofs.Runs.{wrote_both}

-- a front of a list is a front of any list that begins with it
front_left : (n : ℕ) (xs ys : List ℕ) → (count : ℕ) × (take n xs ≡ take count (xs ++ ys))
front_left n xs ys = elim (cases_lt n (length xs)) [
  | inl less ↦ (n, sym (take-append-le n xs ys (omega arith)))
  | inr over ↦ (length xs, take_all n xs over ∙ sym (take-append-le (length xs) xs ys (omega arith) ∙ take_all (length xs) xs (omega arith)))
]

front_right : (n : ℕ) (xs ys : List ℕ) → take (length xs + n) (xs ++ ys) ≡ xs ++ take n ys
front_right n [] ys = ap (λ k. take k ys) (zero-add n)
front_right n (x ∷ xs) ys = let e : suc (length xs) + n ≡ suc (length xs + n) = omega arith in rw e (ap (λ l. x ∷ l) (front_right n xs ys))

-- a front of a text that was written before the sink failed
abbrev pub IsCut : SinkState → SinkState → List ℕ → Type 0
IsCut before after text = (n : ℕ) × Wrote true before after (take n text)

-- a front of a text is one of any text that begins with it
pub cut_more : (before after : SinkState) (xs ys : List ℕ) → IsCut before after xs → IsCut before after (xs ++ ys)
cut_more before after xs ys (n, wrote) =
    let front = front_left n xs ys in
    (front.0, subst (Wrote true before after) front.1 wrote)

-- a text that was written whole, and then a front of another
pub cut_behind : (before mid after : SinkState) (xs ys : List ℕ) → Wrote false before mid xs → IsCut mid after ys → IsCut before after (xs ++ ys)
cut_behind before mid after xs ys one (n, two) =
    (length xs + n, subst (Wrote true before after) (sym (front_right n xs ys)) (wrote_both false true before mid after xs (take n ys) one two))

-- what a result says of a front that was written
pub puts_cut : {T E : Type 0} (before after : SinkState) (result : Result T E) (text : List ℕ) → IsErr result → IsCut before after text → Puts before after result text
puts_cut before after (Ok done) text h cut = absurd cc
puts_cut before after (Err e) text h cut = cut

-- a text that was written whole, and then what a put writes
pub puts_both : {T E : Type 0} (before mid after : SinkState) (result : Result T E) (xs ys : List ℕ) → Wrote false before mid xs → Puts mid after result ys → Puts before after result (xs ++ ys)
puts_both before mid after (Ok done) xs ys one two = wrote_both false false before mid after xs ys one two
puts_both before mid after (Err e) xs ys one two = cut_behind before mid after xs ys one two
