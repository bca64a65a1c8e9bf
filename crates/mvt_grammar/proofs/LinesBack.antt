-- Lines and words that are written are cut back.
use Rattle.std.proofs.Common.{◌≡◌, ℕ, ◌+◌, cond, eqb, Bool, true, false, List, [], ◌∷◌, ◌++◌, length, refl, ap, ◌∙◌, sym, arith, append_assoc}
use Rattle.std.specs.Prelude.{◌==◌, nat_lt, not, map, filter}
use Rattle.std.specs.List.{list_all, flat_map, slice_split, join_with_byte}
use Rattle.std.proofs.lemmas.Bool.{and_parts, ne_eqb, ltb-true}
use Rattle.mvt_grammar.specs.Pieces.{piece, placed_texts, is_empty, without_cr, without_spaces, trim_line, lines_of, words_of}
use Rattle.mvt_grammar.proofs.Parts.{lacks, lacks-kind, split-none, split-at, list_all-both}

-- a byte that neither ends a line nor separates words, and that no trimming removes
abbrev pub is_visible : ℕ → Bool
is_visible b = nat_lt 32 b

-- a word: visible bytes, at least one
pub record IsWord (text : List ℕ) : Type 0 where
  pub some : is_empty text ≡ false
  pub visible : list_all is_visible text ≡ true

abbrev pub AreWords : List (List ℕ) → Type 0
AreWords [] = Unit {0}
AreWords (word ∷ words) = IsWord word × AreWords words

pub AreWords-append : (xs ys : List (List ℕ)) → AreWords xs → AreWords ys → AreWords (xs ++ ys)
AreWords-append [] ys h k = k
AreWords-append (x ∷ xs) ys h k = (h.0, AreWords-append xs ys h.1 k)

-- a text whose last byte is visible
abbrev ends_visible : List ℕ → Bool
ends_visible [] = false
ends_visible (b ∷ bs) = cond (is_empty bs) (is_visible b) (ends_visible bs)

not_cr : (b : ℕ) → is_visible b ≡ true → eqb b 13 ≡ false
not_cr b h = let more = ltb-true 32 b h in ne_eqb b 13 (λ e. omega arith)

not_space : (b : ℕ) → is_visible b ≡ true → eqb b 32 ≡ false
not_space b h = let more = ltb-true 32 b h in ne_eqb b 32 (λ e. omega arith)

cond_same : {A : Type 0} (b : Bool) (x : A) → cond b x x ≡ x
cond_same true x = refl
cond_same false x = refl

cr_kept : (text : List ℕ) → ends_visible text ≡ true → without_cr text ≡ text
cr_kept [] h = refl
cr_kept (b ∷ []) h = ap (λ t. cond t [] (b ∷ [])) (not_cr b h)
cr_kept (b ∷ c ∷ bs) h = cond_same (eqb b 13) (b ∷ without_cr (c ∷ bs)) ∙ ap (λ t. b ∷ t) (cr_kept (c ∷ bs) h)

spaces_kept : (text : List ℕ) → ends_visible text ≡ true → without_spaces text ≡ text
spaces_kept [] h = refl
spaces_kept (b ∷ []) h = ap (λ t. cond t [] (b ∷ [])) (not_space b h)
spaces_kept (b ∷ c ∷ bs) h =
    ap (λ t. cond (eqb b 32) (cond (is_empty t) [] (b ∷ t)) (b ∷ t)) (spaces_kept (c ∷ bs) h) ∙ cond_same (eqb b 32) (b ∷ c ∷ bs)

trimmed-kept : (at : ℕ) (text : List ℕ) → ends_visible text ≡ true → trim_line (piece at text) ≡ piece at text
trimmed-kept at text h = ap (λ t. piece at (without_spaces t)) (cr_kept text h) ∙ ap (piece at) (spaces_kept text h)

ends-word : (text : List ℕ) → list_all is_visible text ≡ true → is_empty text ≡ false → ends_visible text ≡ true
ends-word [] h k = sym k
ends-word (b ∷ []) h k = (and_parts (is_visible b) true h).0
ends-word (b ∷ c ∷ bs) h k = ends-word (c ∷ bs) (and_parts (is_visible b) (list_all is_visible (c ∷ bs)) h).1 refl

ends_behind : (b : ℕ) (text : List ℕ) → ends_visible text ≡ true → ends_visible (b ∷ text) ≡ true
ends_behind b [] h = cc
ends_behind b (c ∷ bs) h = h

ends-append : (xs ys : List ℕ) → ends_visible ys ≡ true → ends_visible (xs ++ ys) ≡ true
ends-append [] ys h = h
ends-append (x ∷ xs) ys h = ends_behind x (xs ++ ys) (ends-append xs ys h)

ends-join : (word : List ℕ) (words : List (List ℕ)) → IsWord word → AreWords words → ends_visible (join_with_byte 32 (word ∷ words)) ≡ true
ends-join word [] h k = ends-word word h.visible h.some
ends-join word (next ∷ words) h k = ends-append word (32 ∷ join_with_byte 32 (next ∷ words)) (ends_behind 32 (join_with_byte 32 (next ∷ words)) (ends-join next words k.0 k.1))

-- what is visible has none of the bytes at which texts are cut
word-lacks : (byte : ℕ) (word : List ℕ) → is_visible byte ≡ false → IsWord word → lacks byte word ≡ true
word-lacks byte word h k = lacks-kind is_visible byte word h k.visible

lacks-join : (word : List ℕ) (words : List (List ℕ)) → IsWord word → AreWords words → lacks 10 (join_with_byte 32 (word ∷ words)) ≡ true
lacks-join word [] h k = word-lacks 10 word refl h
lacks-join word (next ∷ words) h k = list_all-both (λ b. not (b == 10)) word (32 ∷ join_with_byte 32 (next ∷ words)) (word-lacks 10 word refl h) (lacks-join next words k.0 k.1)

split-join : (word : List ℕ) (words : List (List ℕ)) → IsWord word → AreWords words → slice_split (λ b. b == 32) (join_with_byte 32 (word ∷ words)) ≡ word ∷ words
split-join word [] h k = split-none 32 word (word-lacks 32 word refl h)
split-join word (next ∷ words) h k =
    split-at 32 word (join_with_byte 32 (next ∷ words)) (word-lacks 32 word refl h) ∙ ap (λ t. word ∷ t) (split-join next words k.0 k.1)

kept : (at : ℕ) (words : List (List ℕ)) → AreWords words → filter (λ word. not (is_empty word.text)) (placed_texts at words) ≡ placed_texts at words
kept at [] h = refl
kept at (word ∷ words) h =
    ap (λ t. cond (not t) (piece at word ∷ filter (λ w. not (is_empty w.text)) (placed_texts (at + length word + 1) words)) (filter (λ w. not (is_empty w.text)) (placed_texts (at + length word + 1) words))) h.0.some
    ∙ ap (λ t. piece at word ∷ t) (kept (at + length word + 1) words h.1)

-- the words of a line are those that were joined
pub words_of-join : (at : ℕ) (word : List ℕ) (words : List (List ℕ)) → IsWord word → AreWords words → words_of (piece at (join_with_byte 32 (word ∷ words))) ≡ placed_texts at (word ∷ words)
words_of-join at word words h k =
    ap (λ t. filter (λ w. not (is_empty w.text)) (placed_texts at t)) (split-join word words h k) ∙ kept at (word ∷ words) (h, k)

-- a line that is neither cut nor trimmed
pub record IsLine (text : List ℕ) : Type 0 where
  pub one : lacks 10 text ≡ true
  pub end : ends_visible text ≡ true

abbrev pub AreLines : List (List ℕ) → Type 0
AreLines [] = Unit {0}
AreLines (line ∷ lines) = IsLine line × AreLines lines

pub IsLine-word : (text : List ℕ) → IsWord text → IsLine text
IsLine-word text h = record { one = word-lacks 10 text refl h; end = ends-word text h.visible h.some }

pub IsLine-join : (word : List ℕ) (words : List (List ℕ)) → IsWord word → AreWords words → IsLine (join_with_byte 32 (word ∷ words))
IsLine-join word words h k = record { one = lacks-join word words h k; end = ends-join word words h k }

split-lines : (lines : List (List ℕ)) → AreLines lines → slice_split (λ b. b == 10) (flat_map (λ line. line ++ 10 ∷ []) lines) ≡ lines ++ [] ∷ []
split-lines [] h = refl
split-lines (line ∷ lines) h =
    let rest = flat_map (λ l. l ++ 10 ∷ []) lines in
    ap (slice_split (λ b. b == 10)) (append_assoc line (10 ∷ []) rest) ∙ split-at 10 line rest h.0.one ∙ ap (λ t. line ∷ t) (split-lines lines h.1)

trim-lines : (at : ℕ) (lines : List (List ℕ)) → AreLines lines → map trim_line (placed_texts at (lines ++ [] ∷ [])) ≡ placed_texts at (lines ++ [] ∷ [])
trim-lines at [] h = refl
trim-lines at (line ∷ lines) h =
    ap (λ t. t ∷ map trim_line (placed_texts (at + length line + 1) (lines ++ [] ∷ []))) (trimmed-kept at line h.0.end)
    ∙ ap (λ t. piece at line ∷ t) (trim-lines (at + length line + 1) lines h.1)

-- lines that were each written with a line feed, and the empty rest after the last
pub lines_of-written : (at : ℕ) (lines : List (List ℕ)) → AreLines lines → lines_of (piece at (flat_map (λ line. line ++ 10 ∷ []) lines)) ≡ placed_texts at (lines ++ [] ∷ [])
lines_of-written at lines h = ap (λ t. map trim_line (placed_texts at t)) (split-lines lines h) ∙ trim-lines at lines h
