-- Trimming a text from its end.
use Rattle.std.proofs.Common.{◌≡◌, ℕ, ◌+◌, ◌<◌, Bool, true, false, cond, eqb, List, [], ◌∷◌, ◌++◌, length, get_or, take, refl, ap, ◌∙◌, sym, arith}
use Rattle.std.proofs.lemmas.List.{take_more, take_all}
use Rattle.mvt_grammar.specs.Pieces.{is_empty, without_cr, without_spaces}

cond_same : {A : Type 0} (b : Bool) (x : A) → cond b x x ≡ x
cond_same true x = refl
cond_same false x = refl

push_not_empty : (xs : List ℕ) (b : ℕ) → is_empty (xs ++ b ∷ []) ≡ false
push_not_empty [] b = refl
push_not_empty (x ∷ xs) b = refl

-- a byte before what is left of a text after its trailing spaces are removed
abbrev before_trimmed : ℕ → List ℕ → List ℕ
before_trimmed x rest = cond (eqb x 32) (cond (is_empty rest) [] (x ∷ rest)) (x ∷ rest)

before_push : (x : ℕ) (xs : List ℕ) (b : ℕ) → before_trimmed x (xs ++ b ∷ []) ≡ x ∷ (xs ++ b ∷ [])
before_push x xs b =
    ap (λ e. cond (eqb x 32) (cond e [] (x ∷ (xs ++ b ∷ []))) (x ∷ (xs ++ b ∷ []))) (push_not_empty xs b)
    ∙ cond_same (eqb x 32) (x ∷ (xs ++ b ∷ []))

spaces_step : (x : ℕ) (xs : List ℕ) (b : ℕ) (t : Bool) → before_trimmed x (cond t (without_spaces xs) (xs ++ b ∷ [])) ≡ cond t (before_trimmed x (without_spaces xs)) (x ∷ (xs ++ b ∷ []))
spaces_step x xs b true = refl
spaces_step x xs b false = before_push x xs b

-- the last byte is removed if it is a space
pub without_spaces-push : (xs : List ℕ) (b : ℕ) → without_spaces (xs ++ b ∷ []) ≡ cond (eqb b 32) (without_spaces xs) (xs ++ b ∷ [])
without_spaces-push [] b = refl
without_spaces-push (x ∷ xs) b = ap (before_trimmed x) (without_spaces-push xs b) ∙ spaces_step x xs b (eqb b 32)

abbrev before_cr : ℕ → List ℕ → List ℕ
before_cr x rest = cond (eqb x 13) (cond (is_empty rest) [] (x ∷ without_cr rest)) (x ∷ without_cr rest)

cr_step : (x : ℕ) (xs : List ℕ) (b : ℕ) → before_cr x (xs ++ b ∷ []) ≡ x ∷ without_cr (xs ++ b ∷ [])
cr_step x xs b =
    ap (λ e. cond (eqb x 13) (cond e [] (x ∷ without_cr (xs ++ b ∷ []))) (x ∷ without_cr (xs ++ b ∷ []))) (push_not_empty xs b)
    ∙ cond_same (eqb x 13) (x ∷ without_cr (xs ++ b ∷ []))

cond_onto : (t : Bool) (x : ℕ) (ys zs : List ℕ) → x ∷ cond t ys zs ≡ cond t (x ∷ ys) (x ∷ zs)
cond_onto true x ys zs = refl
cond_onto false x ys zs = refl

-- the last byte is removed if it is a CR, and no other is
pub without_cr-push : (xs : List ℕ) (b : ℕ) → without_cr (xs ++ b ∷ []) ≡ cond (eqb b 13) xs (xs ++ b ∷ [])
without_cr-push [] b = refl
without_cr-push (x ∷ xs) b = cr_step x xs b ∙ ap (λ r. x ∷ r) (without_cr-push xs b) ∙ cond_onto (eqb b 13) x xs (xs ++ b ∷ [])

-- the same by the place of the last byte
pub without_spaces-take : (text : List ℕ) (n : ℕ) → n < length text → without_spaces (take (n + 1) text) ≡ cond (eqb (get_or text n 0) 32) (without_spaces (take n text)) (take (n + 1) text)
without_spaces-take text n h =
    let more = take_more text n 0 h in
    ap without_spaces more ∙ without_spaces-push (take n text) (get_or text n 0) ∙ ap (cond (eqb (get_or text n 0) 32) (without_spaces (take n text))) (sym more)

pub without_cr-last : (text : List ℕ) (n : ℕ) → length text ≡ n + 1 → without_cr text ≡ cond (eqb (get_or text n 0) 13) (take n text) text
without_cr-last text n h =
    let inside : n < length text = omega arith in
    let whole : take n text ++ get_or text n 0 ∷ [] ≡ text = sym (take_more text n 0 inside) ∙ take_all (n + 1) text (omega arith) in
    ap without_cr (sym whole) ∙ without_cr-push (take n text) (get_or text n 0) ∙ ap (cond (eqb (get_or text n 0) 13) (take n text)) whole
