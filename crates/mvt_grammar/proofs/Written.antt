-- The canonical text, written from left to right.
use Rattle.std.proofs.Common.{◌≡◌, ℕ, List, [], ◌∷◌, ◌++◌, refl, ap, ◌∙◌, sym, append_assoc}
use Rattle.std.proofs.lemmas.List.{append-nil}
use Rattle.std.specs.List.{flat_map, join_with_byte}
use Rattle.mvt_grammar.specs.Canonical.{heading_text, element_lines, element_words, canonical}
use Rattle.mvt_grammar.specs.Led.{words_after, gap_after}
use Rattle.mvt_grammar.specs.declared.message.Mvt.{Mvt}

-- words joined by spaces are the first word, and the others after spaces
pub join-led : (word : List ℕ) (words : List (List ℕ)) → join_with_byte 32 (word ∷ words) ≡ word ++ words_after 32 words
join-led word [] = sym (append-nil word)
join-led word (next ∷ words) = ap (λ t. word ++ 32 ∷ t) (join-led next words)

pub led-append : (gap : ℕ) (xs ys : List (List ℕ)) → words_after gap (xs ++ ys) ≡ words_after gap xs ++ words_after (gap_after gap xs) ys
led-append gap [] ys = refl
led-append gap (x ∷ xs) ys = ap (λ t. gap ∷ (x ++ t)) (led-append 32 xs ys ∙ ap (λ g. words_after 32 xs ++ words_after g ys) (after_space xs)) ∙ ap (λ t. gap ∷ t) (sym (append_assoc x (words_after 32 xs) (words_after 32 ys)))
  where
    after_space : (zs : List (List ℕ)) → gap_after 32 zs ≡ 32
    after_space [] = refl
    after_space (z ∷ zs) = refl

-- the flight line and the element line, each with its line feed
lines-led : (heading : List ℕ) (words : List (List ℕ)) → flat_map (λ line. line ++ 10 ∷ []) (heading ∷ element_lines words) ≡ heading ++ (words_after 10 words ++ 10 ∷ [])
lines-led heading [] = append-nil (heading ++ 10 ∷ [])
lines-led heading (word ∷ words) =
    let joined = join-led word words in
    ap (λ t. (heading ++ 10 ∷ []) ++ t) (append-nil (join_with_byte 32 (word ∷ words) ++ 10 ∷ []) ∙ ap (λ t. t ++ 10 ∷ []) joined)
    ∙ append_assoc heading (10 ∷ []) ((word ++ words_after 32 words) ++ 10 ∷ [])

pub canonical-led : (message : Mvt) → canonical message ≡ 77 ∷ 86 ∷ 84 ∷ 10 ∷ (heading_text message ++ (words_after 10 (element_words message) ++ 10 ∷ []))
canonical-led message = ap (λ t. 77 ∷ 86 ∷ 84 ∷ 10 ∷ t) (lines-led (heading_text message) (element_words message))
