-- Parting and cutting a text at a byte that one part of it does not have.
use Rattle.std.proofs.Common.{◌≡◌, ℕ, zero, suc, ◌+◌, ◌<◌, cond, Bool, true, false, eqb, ltb, List, [], ◌∷◌, ◌++◌, length, get_or, drop, refl, ap, ◌∙◌, sym, Some, None, arith, add-one, length-append}
use Rattle.std.specs.Prelude.{not, ◌==◌, position}
use Rattle.std.specs.List.{list_all, position_or_len, slice_split}
use Rattle.std.proofs.lemmas.Bool.{and_parts, not-true, eq-eqb, ne_eqb, lt-ltb, le-ltb, and_from}
use Rattle.std.proofs.lemmas.List.{take_at}
use Rattle.std.proofs.lemmas.List.Splits.{slice_split_at, slice_split_none}
use Rattle.mvt_grammar.specs.Bytes.{parted_at, split_once}
use Rattle.mvt_grammar.proofs.Names.{list_all-wider}

-- no byte of the text is this one
abbrev pub lacks : ℕ → List ℕ → Bool
lacks byte text = list_all (λ b. not (b == byte)) text

each_byte : (byte : ℕ) (text : List ℕ) → lacks byte text ≡ true → (k : ℕ) (d : ℕ) → k < length text → eqb (get_or text k d) byte ≡ false
each_byte byte [] h k d l = absurd (omega arith)
each_byte byte (x ∷ xs) h zero d l = not-true (eqb x byte) (and_parts (not (x == byte)) (lacks byte xs) h).0
each_byte byte (x ∷ xs) h (suc k) d l = each_byte byte xs (and_parts (not (x == byte)) (lacks byte xs) h).1 k d (omega arith)

prefix_all : (byte : ℕ) (xs : List ℕ) → lacks byte xs ≡ true → position_or_len (λ b. b == byte) xs ≡ length xs
prefix_all byte [] h = refl
prefix_all byte (x ∷ xs) h =
    let parts = and_parts (not (x == byte)) (lacks byte xs) h in
    let rest = prefix_all byte xs parts.1 in
    ap (λ t. cond t (1 + position_or_len (λ b. b == byte) xs) 0) parts.0 ∙ omega arith

prefix_to : (byte : ℕ) (xs ys : List ℕ) → lacks byte xs ≡ true → position_or_len (λ b. b == byte) (xs ++ byte ∷ ys) ≡ length xs
prefix_to byte [] ys h = ap (λ t. cond (not t) (1 + position_or_len (λ b. b == byte) ys) 0) (eq-eqb byte byte refl)
prefix_to byte (x ∷ xs) ys h =
    let parts = and_parts (not (x == byte)) (lacks byte xs) h in
    let rest = prefix_to byte xs ys parts.1 in
    ap (λ t. cond t (1 + position_or_len (λ b. b == byte) (xs ++ byte ∷ ys)) 0) parts.0 ∙ omega arith

drop_past : (xs : List ℕ) (y : ℕ) (ys : List ℕ) → drop (suc (length xs)) (xs ++ y ∷ ys) ≡ ys
drop_past [] y ys = refl
drop_past (x ∷ xs) y ys = drop_past xs y ys

place_at : (byte : ℕ) (xs ys : List ℕ) → lacks byte xs ≡ true → position (λ b. b == byte) (xs ++ byte ∷ ys) ≡ Some (length xs)
place_at byte xs ys h =
    let p : ℕ → Bool = λ b. b == byte in
    let text = xs ++ byte ∷ ys in
    let at = prefix_to byte xs ys h in
    let inside : length xs < length text = omega (arith, length-append xs (byte ∷ ys)) in
    ap (λ n. cond (ltb n (length text)) (Some n) None) at ∙ ap (λ t. cond t (Some (length xs)) None) (lt-ltb (length xs) (length text) inside)

-- the first such byte parts the text
pub parted-at : (byte : ℕ) (xs ys : List ℕ) → lacks byte xs ≡ true → split_once byte (xs ++ byte ∷ ys) ≡ Some (xs, ys)
parted-at byte xs ys h =
    let text = xs ++ byte ∷ ys in
    let front = take_at xs (byte ∷ ys) (length xs) refl in
    let rest : drop (length xs + 1) text ≡ ys = ap (λ n. drop n text) (add-one (length xs)) ∙ drop_past xs byte ys in
    ap (parted_at text) (place_at byte xs ys h) ∙ ap (λ t. Some (t, drop (length xs + 1) text)) front ∙ ap (λ t. Some (xs, t)) rest

-- if there is none, it is not parted
pub parted-none : (byte : ℕ) (text : List ℕ) → lacks byte text ≡ true → split_once byte text ≡ None
parted-none byte text h =
    let p : ℕ → Bool = λ b. b == byte in
    let all = prefix_all byte text h in
    let past : ltb (length text) (length text) ≡ false = le-ltb (length text) (length text) (omega arith) in
    ap (parted_at text) (ap (λ n. cond (ltb n (length text)) (Some n) None) all ∙ ap (λ t. cond t (Some (length text)) None) past)

pub split-none : (byte : ℕ) (text : List ℕ) → lacks byte text ≡ true → slice_split (λ b. b == byte) text ≡ text ∷ []
split-none byte text h = slice_split_none (λ b. b == byte) text (λ k d l. each_byte byte text h k d l)

pub split-at : (byte : ℕ) (xs ys : List ℕ) → lacks byte xs ≡ true → slice_split (λ b. b == byte) (xs ++ byte ∷ ys) ≡ xs ∷ slice_split (λ b. b == byte) ys
split-at byte xs ys h = slice_split_at (λ b. b == byte) xs byte ys (λ k d l. each_byte byte xs h k d l) (eq-eqb byte byte refl)

-- bytes of a kind are not a byte of another kind
not_of_kind : (kind : ℕ → Bool) (byte : ℕ) → kind byte ≡ false → (b : ℕ) → kind b ≡ true → not (b == byte) ≡ true
not_of_kind kind byte other b h = ap not (ne_eqb b byte (λ e. let same : true ≡ false = sym h ∙ ap kind e ∙ other in cc))

pub lacks-kind : (kind : ℕ → Bool) (byte : ℕ) (text : List ℕ) → kind byte ≡ false → list_all kind text ≡ true → lacks byte text ≡ true
lacks-kind kind byte text other h = list_all-wider kind (λ b. not (b == byte)) (not_of_kind kind byte other) text h

pub list_all-both : (kind : ℕ → Bool) (xs ys : List ℕ) → list_all kind xs ≡ true → list_all kind ys ≡ true → list_all kind (xs ++ ys) ≡ true
list_all-both kind [] ys h k = k
list_all-both kind (x ∷ xs) ys h k =
    let parts = and_parts (kind x) (list_all kind xs) h in
    and_from (kind x) (list_all kind (xs ++ ys)) parts.0 (list_all-both kind xs ys parts.1 k)
