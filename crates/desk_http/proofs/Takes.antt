-- Which targets a pattern takes, and that the router's search finds a row exactly if a pattern
-- takes the target, for patterns of bytes and parameters that are whole pieces.
use Rattle.std.proofs.Common.{◌≡◌, ◌⊎◌, ◌==◌, ◌&&◌, not, ℕ, zero, suc, ◌-◌, ◌<◌, ◌≤◌, Bool, true, false, true≢false, cond, List, [], ◌∷◌, length, drop, Option, Some, None, refl, sym, ap, ◌∙◌, subst, arith, inl, inr, ltb}
use Rattle.std.proofs.lemmas.Bool.{eqb-true, eq-eqb}
use Rattle.std.proofs.lemmas.Bool.Decides.{nat_tests}
use Rattle.std.specs.Cmp.Lexicographic.{pointwise}
use Rattle.std.specs.Prelude.{nat_eq, if◌then◌else◌}
use Rattle.matchit.specs.Rows.{RowsOf}
use Rattle.matchit.specs.Seek.{segment, has_slash, cuts, own, step, or_else, longest_from, longest_suffix, with_suffix, param_step, seek, same_text}

abbrev mutual
  -- each byte of a pattern is itself, and a parameter, which stands as 256, is one byte or more,
  -- none of them a slash, up to the next slash or the end
  pub takes : List ℕ → List ℕ → Bool
  takes [] [] = true
  takes [] (b ∷ path) = false
  takes (x ∷ pattern) [] = false
  takes (x ∷ pattern) (b ∷ path) = if x == 256 then not (b == 47) && takes_on pattern path else (x == b) && takes pattern path

  -- the same if a parameter has taken one byte at least
  pub takes_on : List ℕ → List ℕ → Bool
  takes_on [] [] = true
  takes_on [] (b ∷ path) = not (b == 47) && takes_on [] path
  takes_on (x ∷ pattern) [] = false
  takes_on (x ∷ pattern) (b ∷ path) = if b == 47 then (x == 47) && takes pattern path else takes_on (x ∷ pattern) path

-- this is in the list
abbrev pub In : {A : Type 0} → List A → A → Type 0
In [] item = ⊥
In (first ∷ rest) item = (first ≡ item) ⊎ In rest item

-- the row of this pattern and value is among the rows
abbrev pub Has : {K : Type 0} → RowsOf K → List ℕ → K → Type 0
Has rows t k = In rows (t, k)

-- a slash comes next, or the end
abbrev pub SlashNext : List ℕ → Type 0
SlashNext [] = Unit {0}
SlashNext (x ∷ t) = x ≡ 47

-- a pattern of bytes and parameters that are whole pieces
abbrev pub IsPlain : List ℕ → Type 0
IsPlain [] = Unit {0}
IsPlain (x ∷ t) = (((x ≡ 256) × SlashNext t) ⊎ (x < 256)) × IsPlain t

abbrev pub ArePlain : {K : Type 0} → RowsOf K → Type 0
ArePlain {K} rs = (t : List ℕ) (k : K) → Has rs t k → IsPlain t

-- each is a byte
abbrev pub AreBytes : List ℕ → Type 0
AreBytes [] = Unit {0}
AreBytes (b ∷ path) = (b < 256) × AreBytes path

-- cases on a test, with the equation
pub by : (P : Bool → Type 0) (b : Bool) → (b ≡ true → P true) → (b ≡ false → P false) → P b
by P b if_true if_false = elim b as (λ v. b ≡ v → P v) [ true ↦ if_true | false ↦ if_false ] refl

module _ {K : Type 0} where
  Has-step : (b : ℕ) (rs : RowsOf K) (t : List ℕ) (k : K) → Has (step b rs) t k → Has rs (b ∷ t) k
  Has-step b [] t k h = h
  Has-step b (([], key) ∷ rest) t k h = inr (Has-step b rest t k h)
  Has-step b ((x ∷ u, key) ∷ rest) t k h =
      by (λ v. Has (cond v ((u, key) ∷ step b rest) (step b rest)) t k → Has ((x ∷ u, key) ∷ rest) (b ∷ t) k) (x == b)
      (λ e h. elim h [
        | inl same ↦ inl (rw (eqb-true x b e) (ap (λ (r : List ℕ × K). (b ∷ r.0, r.1)) same))
        | inr later ↦ inr (Has-step b rest t k later)
      ])
      (λ e h. inr (Has-step b rest t k h)) h

  step-Has : (b : ℕ) (rs : RowsOf K) (t : List ℕ) (k : K) → Has rs (b ∷ t) k → Has (step b rs) t k
  step-Has b [] t k h = h
  step-Has b (([], key) ∷ rest) t k (inl same) = let e = ap (λ (r : List ℕ × K). r.0) same in absurd (cc)
  step-Has b (([], key) ∷ rest) t k (inr h) = step-Has b rest t k h
  step-Has b ((x ∷ u, key) ∷ rest) t k (inl same) =
      let parts = ap (λ (r : List ℕ × K). r.0) same in
      let head : x ≡ b = cc in
      let tail : u ≡ t = cc in
      rw (eq-eqb x b head) (inl (λ i. (tail i, (same i).1)))
  step-Has b ((x ∷ u, key) ∷ rest) t k (inr h) =
      by (λ v. Has (cond v ((u, key) ∷ step b rest) (step b rest)) t k) (x == b) (λ e. inr (step-Has b rest t k h)) (λ e. step-Has b rest t k h)

  Has-own : (rs : RowsOf K) (k : K) → own rs ≡ Some k → Has rs [] k
  Has-own [] k e = absurd (cc)
  Has-own (([], key) ∷ rest) k e = let same : key ≡ k = cc in inl (λ i. ([], same i))
  Has-own ((x ∷ u, key) ∷ rest) k e = inr (Has-own rest k e)

  own-Has : (rs : RowsOf K) (k : K) → Has rs [] k → (found : K) × (own rs ≡ Some found)
  own-Has [] k h = absurd h
  own-Has (([], key) ∷ rest) k h = (key, refl)
  own-Has ((x ∷ u, key) ∷ rest) k (inl same) = let e = ap (λ (r : List ℕ × K). r.0) same in absurd (cc)
  own-Has ((x ∷ u, key) ∷ rest) k (inr h) = own-Has rest k h

  seek-nil : (n : ℕ) (rs : RowsOf K) → seek n rs [] ≡ own rs
  unfolding seek
  seek-nil n rs = refl

  seek-skip : (n : ℕ) (rs : RowsOf K) (b : ℕ) (path : List ℕ) → seek (suc n) rs (b ∷ path) ≡ seek n rs path
  unfolding seek
  seek-skip n rs b path = refl

  seek-step : (rs : RowsOf K) (b : ℕ) (path : List ℕ) → seek 0 rs (b ∷ path)
      ≡ or_else (seek 0 (step b rs) path) (or_else (seek ((param_step (step 256 rs) (b ∷ path)).0 - 1) (param_step (step 256 rs) (b ∷ path)).1 path) (own (step 257 rs)))
  unfolding seek
  seek-step rs b path = refl

  param-none : (path : List ℕ) → (param_step {K = K} [] path).1 ≡ []
  unfolding param_step
  param-none path = by (λ v. (cond {A = ℕ × RowsOf K} v (0, []) (length path, [])).1 ≡ []) (has_slash path) (λ e. refl) (λ e. refl)

  seek-none : (n : ℕ) (path : List ℕ) → seek {K = K} n [] path ≡ None
  seek-none n [] = seek-nil n []
  seek-none (suc n) (b ∷ path) = seek-skip n [] b path ∙ seek-none n path
  seek-none zero (b ∷ path) =
      seek-step [] b path ∙ rw (seek-none 0 path, param-none (b ∷ path), seek-none ((param_step {K = K} [] (b ∷ path)).0 - 1) path) refl

  seek-past : (n : ℕ) (rs : RowsOf K) (path : List ℕ) → length path ≤ n → seek n rs path ≡ own rs
  seek-past n rs [] h = seek-nil n rs
  seek-past (suc n) rs (b ∷ path) h = seek-skip n rs b path ∙ seek-past n rs path (omega arith)
  seek-past zero rs (b ∷ path) h = absurd (omega arith)

abbrev one_slash : List ℕ
one_slash = 47 ∷ []

-- ---- the path

segment-some : (p : List ℕ) → has_slash p ≡ true → 0 < length (segment p)
segment-some [] e = absurd (true≢false (sym e))
segment-some (b ∷ p) e = by (λ v. 0 < length (cond v (b ∷ []) (b ∷ segment p))) (b == 47) (λ _. omega arith) (λ _. omega arith)

last-slash : (x : ℕ) (p : List ℕ) → (x == 47) ≡ false → pointwise nat_eq one_slash (drop (length (segment p)) (x ∷ segment p)) ≡ has_slash p
last-slash x [] e =
    by (λ v. (v && true) ≡ false) (nat_eq 47 x) (λ on. absurd (true≢false (sym (eq-eqb x 47 (sym (eqb-true 47 x on))) ∙ e))) (λ on. refl)
last-slash x (y ∷ p) e =
    by (λ v. pointwise nat_eq one_slash (drop (length (cond v (y ∷ []) (y ∷ segment p))) (x ∷ cond v (y ∷ []) (y ∷ segment p))) ≡ cond v true (has_slash p)) (y == 47)
    (λ on. rw (eqb-true y 47 on) refl) (λ on. last-slash y p on)

and_if : (a h : Bool) → (h ≡ true → a ≡ true) → (a && h) ≡ h
and_if true h f = refl
and_if false true f = f refl
and_if false false f = refl

below : (n : ℕ) → 0 < n → ltb 1 (suc n) ≡ true
below n h = grind (arith, nat_tests)

cuts-slash : (b : ℕ) (p : List ℕ) → (b == 47) ≡ false → cuts (segment (b ∷ p)) one_slash ≡ has_slash p
cuts-slash b p e =
    let less : suc (length (segment p)) - 1 ≡ length (segment p) = omega arith in
    rw (e, less, last-slash b p e) (and_if (ltb 1 (suc (length (segment p)))) (has_slash p) (λ on. below (length (segment p)) (segment-some p on)))

-- ---- what a parameter goes on with

pub takes_on-nil : (p : List ℕ) → has_slash p ≡ false → takes_on [] p ≡ true
takes_on-nil [] e = refl
takes_on-nil (b ∷ p) e =
    by (λ v. cond v true (has_slash p) ≡ false → (not v && takes_on [] p) ≡ true) (b == 47) (λ _ e. absurd (true≢false e)) (λ _ e. takes_on-nil p e) e

takes_on-end : (t p : List ℕ) → has_slash p ≡ false → takes_on t p ≡ true → t ≡ []
takes_on-end [] p e on = refl
takes_on-end (x ∷ t) [] e on = absurd (true≢false (sym on))
takes_on-end (x ∷ t) (b ∷ p) e on =
    by (λ v. cond v true (has_slash p) ≡ false → cond v ((x == 47) && takes t p) (takes_on (x ∷ t) p) ≡ true → x ∷ t ≡ []) (b == 47)
    (λ _ e on. absurd (true≢false e)) (λ _ e on. takes_on-end (x ∷ t) p e on) e on

takes_on-shape : (t p : List ℕ) → has_slash p ≡ true → takes_on t p ≡ true → (u : List ℕ) × (t ≡ 47 ∷ u)
takes_on-shape t [] e on = absurd (true≢false (sym e))
takes_on-shape [] (b ∷ p) e on =
    by (λ v. cond v true (has_slash p) ≡ true → (not v && takes_on [] p) ≡ true → (u : List ℕ) × ([] ≡ 47 ∷ u)) (b == 47)
    (λ _ e on. absurd (true≢false (sym on))) (λ _ e on. takes_on-shape [] p e on) e on
takes_on-shape (x ∷ t) (b ∷ p) e on =
    by (λ v. cond v true (has_slash p) ≡ true → cond v ((x == 47) && takes t p) (takes_on (x ∷ t) p) ≡ true → (u : List ℕ) × (x ∷ t ≡ 47 ∷ u)) (b == 47)
    (λ _ e on. by (λ w. (x == 47) ≡ w → (w && takes t p) ≡ true → (u : List ℕ) × (x ∷ t ≡ 47 ∷ u)) (x == 47)
    (λ _ is on. (t, ap (λ x. x ∷ t) (eqb-true x 47 is))) (λ _ is on. absurd (true≢false (sym on))) refl on)
    (λ _ e on. takes_on-shape (x ∷ t) p e on) e on

takes_on-slash : (u p : List ℕ) → has_slash p ≡ true → takes_on (47 ∷ u) p ≡ takes (47 ∷ u) (drop (length (segment p) - 1) p)
takes_on-slash u [] e = absurd (true≢false (sym e))
takes_on-slash u (b ∷ p) e =
    by (λ v. (b == 47) ≡ v → cond v true (has_slash p) ≡ true
    → cond v (takes u p) (takes_on (47 ∷ u) p) ≡ takes (47 ∷ u) (drop (length (cond v (b ∷ []) (b ∷ segment p)) - 1) (b ∷ p))) (b == 47)
    (λ _ is e. rw (eqb-true b 47 is) refl)
    (λ _ is e.
    let some = segment-some p e in
    let less : suc (length (segment p)) - 1 ≡ suc (length (segment p) - 1) = omega arith in
    rw less (takes_on-slash u p e)) refl e

-- ---- the suffixes

module _ {K : Type 0} where
  abbrev AreSlash : RowsOf K → Type 0
  AreSlash rs = (t : List ℕ) (k : K) → Has rs t k → SlashNext t

  abbrev NoSlash : RowsOf K → Type 0
  NoSlash rs = (t : List ℕ) (k : K) → Has rs (47 ∷ t) k → ⊥

  longest-fails : (seg : List ℕ) (rs : RowsOf K) → AreSlash rs → cuts seg one_slash ≡ false → longest_from seg [] rs ≡ []
  longest-fails seg [] h c = refl
  longest-fails seg (([], key) ∷ rest) h c = longest-fails seg rest (λ t k i. h t k (inr i)) c
  longest-fails seg ((x ∷ u, key) ∷ rest) h c =
      let e : x ≡ 47 = h (x ∷ u) key (inl refl) in
      rw (e, c) (longest-fails seg rest (λ t k i. h t k (inr i)) c)

  longest-stays : (seg : List ℕ) (rs : RowsOf K) → AreSlash rs → longest_from seg one_slash rs ≡ one_slash
  longest-stays seg [] h = refl
  longest-stays seg (([], key) ∷ rest) h = longest-stays seg rest (λ t k i. h t k (inr i))
  longest-stays seg ((x ∷ u, key) ∷ rest) h =
      let e : x ≡ 47 = h (x ∷ u) key (inl refl) in
      rw e (longest-stays seg rest (λ t k i. h t k (inr i)))

  longest-finds : (seg : List ℕ) (rs : RowsOf K) → AreSlash rs → cuts seg one_slash ≡ true
      → (NoSlash rs × (longest_from seg [] rs ≡ [])) ⊎ (longest_from seg [] rs ≡ one_slash)
  longest-finds seg [] h c = inl (λ t k i. i, refl)
  longest-finds seg (([], key) ∷ rest) h c =
      elim (longest-finds seg rest (λ t k i. h t k (inr i)) c) [
        | inl none ↦ inl (λ t k i. elim i [ inl same ↦ (let e = ap (λ (r : List ℕ × K). r.0) same in absurd (cc)) | inr later ↦ none.0 t k later ], none.1)
        | inr found ↦ inr found
      ]
  longest-finds seg ((x ∷ u, key) ∷ rest) h c =
      let e : x ≡ 47 = h (x ∷ u) key (inl refl) in
      inr (rw (e, c) (longest-stays seg rest (λ t k i. h t k (inr i))))

  suffix-Has : (rs : RowsOf K) (t : List ℕ) (k : K) → AreSlash rs → Has (with_suffix one_slash rs) t k → Has rs t k × ((u : List ℕ) × (t ≡ 47 ∷ u))
  suffix-Has [] t k h i = absurd i
  suffix-Has (([], key) ∷ rest) t k h i =
      let r = suffix-Has rest t k (λ t k i. h t k (inr i)) i in (inr r.0, r.1)
  suffix-Has ((x ∷ u, key) ∷ rest) t k h i =
      let e : x ≡ 47 = h (x ∷ u) key (inl refl) in
      by (λ b. Has (cond b ((x ∷ u, key) ∷ with_suffix one_slash rest) (with_suffix one_slash rest)) t k
      → Has ((x ∷ u, key) ∷ rest) t k × ((v : List ℕ) × (t ≡ 47 ∷ v))) (same_text (segment (x ∷ u)) one_slash)
      (λ _ i. elim i [
        | inl same ↦ (inl same, (u, sym (ap (λ (r : List ℕ × K). r.0) same) ∙ ap (λ x. x ∷ u) e))
        | inr i ↦ (let r = suffix-Has rest t k (λ t k i. h t k (inr i)) i in (inr r.0, r.1))
      ])
      (λ _ i. (let r = suffix-Has rest t k (λ t k i. h t k (inr i)) i in (inr r.0, r.1))) i

  Has-suffix : (rs : RowsOf K) (u : List ℕ) (k : K) → Has rs (47 ∷ u) k → Has (with_suffix one_slash rs) (47 ∷ u) k
  Has-suffix [] u k i = i
  Has-suffix (([], key) ∷ rest) u k (inl same) = let e = ap (λ (r : List ℕ × K). r.0) same in absurd (cc)
  Has-suffix (([], key) ∷ rest) u k (inr i) = Has-suffix rest u k i
  Has-suffix ((x ∷ v, key) ∷ rest) u k (inl same) =
      let parts = ap (λ (r : List ℕ × K). r.0) same in
      let e : x ≡ 47 = cc in
      let row : x ∷ v ≡ 47 ∷ v = ap (λ x. x ∷ v) e in
      subst (λ w. Has (with_suffix one_slash ((w, key) ∷ rest)) (47 ∷ u) k) (sym row) (inl (ap (λ w. (w, key)) (sym row) ∙ same))
  Has-suffix ((x ∷ v, key) ∷ rest) u k (inr i) =
      by (λ b. Has (cond b ((x ∷ v, key) ∷ with_suffix one_slash rest) (with_suffix one_slash rest)) (47 ∷ u) k) (same_text (segment (x ∷ v)) one_slash)
      (λ _. inr (Has-suffix rest u k i)) (λ _. Has-suffix rest u k i)

-- ---- the search

or-second : {K : Type 0} (a b : Option K) → ((k : K) × (b ≡ Some k)) → (k : K) × (or_else a b ≡ Some k)
or-second None b h = h
or-second (Some k) b h = (k, refl)

or-first : {K : Type 0} (a b : Option K) → ((k : K) × (a ≡ Some k)) → (k : K) × (or_else a b ≡ Some k)
or-first None b h = let e = h.1 in absurd (cc)
or-first (Some k) b h = (k, refl)

or-cases : {K : Type 0} (a b : Option K) (k : K) → or_else a b ≡ Some k → (a ≡ Some k) ⊎ (b ≡ Some k)
or-cases None b k e = inr e
or-cases (Some x) b k e = inl e

module _ {K : Type 0} where
  abbrev after : RowsOf K → ℕ → List ℕ → Option K
  after rs b p = seek ((param_step rs (b ∷ p)).0 - 1) (param_step rs (b ∷ p)).1 p

  param-eq : (rs : RowsOf K) (path : List ℕ) → param_step rs path ≡ cond (ltb 0 (length (longest_suffix (segment path) rs))) (
    length (segment path) - length (longest_suffix (segment path) rs),
    with_suffix (longest_suffix (segment path) rs) rs,
  )
      (cond (has_slash path) (0, []) (length path, rs))
  unfolding param_step
  param-eq rs path = refl

  after-slash : (rs : RowsOf K) (b : ℕ) (p : List ℕ) → AreSlash rs → b ≡ 47 → after rs b p ≡ None
  after-slash rs b p h e =
      let none : longest_suffix (segment (b ∷ p)) rs ≡ [] = rw e (longest-fails one_slash rs h refl) in
      let step : param_step rs (b ∷ p) ≡ (0, []) = param-eq rs (b ∷ p) ∙ rw (none, e) refl in
      rw step (seek-none (0 - 1) p)

  after-end : (rs : RowsOf K) (b : ℕ) (p : List ℕ) → AreSlash rs → (b == 47) ≡ false → has_slash p ≡ false → after rs b p ≡ own rs
  after-end rs b p h e f =
      let none : longest_suffix (segment (b ∷ p)) rs ≡ [] = longest-fails (segment (b ∷ p)) rs h (cuts-slash b p e ∙ f) in
      let step : param_step rs (b ∷ p) ≡ (suc (length p), rs) = param-eq rs (b ∷ p) ∙ rw (none, e, f) refl in
      rw step (seek-past (suc (length p) - 1) rs p (omega arith))

  after-goes : (rs : RowsOf K) (b : ℕ) (p : List ℕ) → AreSlash rs → (b == 47) ≡ false → has_slash p ≡ true
      → (NoSlash rs × (after rs b p ≡ None)) ⊎ (after rs b p ≡ seek (length (segment p) - 1) (with_suffix one_slash rs) p)
  after-goes rs b p h e f =
      elim (longest-finds (segment (b ∷ p)) rs h (cuts-slash b p e ∙ f)) [
        | inl none ↦ (
            let step : param_step rs (b ∷ p) ≡ (0, []) = param-eq rs (b ∷ p) ∙ rw (none.1, e, f) refl in
            inl (none.0, rw step (seek-none (0 - 1) p)))
        | inr found ↦ (
            let step : param_step rs (b ∷ p) ≡ (suc (length (segment p)) - 1, with_suffix one_slash rs) = param-eq rs (b ∷ p) ∙ rw (found, e) refl in
            let less : suc (length (segment p)) - 1 ≡ length (segment p) = omega arith in
            inr (rw (step, less) refl))
      ]

  plain-step : (b : ℕ) (rs : RowsOf K) → ArePlain rs → ArePlain (step b rs)
  plain-step b rs h t k i = (h (b ∷ t) k (Has-step b rs t k i)).1

  slash-step : (rs : RowsOf K) → ArePlain rs → AreSlash (step 256 rs)
  slash-step rs h t k i =
      elim ((h (256 ∷ t) k (Has-step 256 rs t k i)).0) [ inl is ↦ is.1 | inr less ↦ absurd (omega arith) ]

  plain-suffix : (rs : RowsOf K) → AreSlash rs → ArePlain rs → ArePlain (with_suffix one_slash rs)
  plain-suffix rs s h t k i = h t k (suffix-Has rs t k s i).0

segment-le : (p : List ℕ) → length (segment p) ≤ length p
segment-le [] = omega arith
segment-le (b ∷ p) = by (λ v. length (cond v (b ∷ []) (b ∷ segment p)) ≤ suc (length p)) (b == 47) (λ _. omega arith) (λ _. let h = segment-le p in omega arith)

byte-no-param : (b : ℕ) → b < 256 → (b == 256) ≡ false
byte-no-param b h = by (λ v. (b == 256) ≡ v → v ≡ false) (b == 256) (λ e _. let same = eqb-true b 256 e in absurd (omega arith)) (λ _ _. refl) refl

-- if a pattern takes the path, the search finds a route
pub complete : {K : Type 0} (path : List ℕ) (n : ℕ) (rs : RowsOf K) (t : List ℕ) (k : K) → ArePlain rs → n ≤ length path → Has rs t k
    → takes t (drop n path) ≡ true → (found : K) × (seek n rs path ≡ Some found)
complete [] zero rs [] k h l i e = let r = own-Has rs k i in (r.0, seek-nil 0 rs ∙ r.1)
complete [] zero rs (x ∷ t) k h l i e = absurd (true≢false (sym e))
complete [] (suc n) rs t k h l i e = absurd (omega arith)
complete (b ∷ path) (suc n) rs t k h l i e = let r = complete path n rs t k h (omega arith) i e in (r.0, seek-skip n rs b path ∙ r.1)
complete (b ∷ path) zero rs [] k h l i e = absurd (true≢false (sym e))
complete {K} (b ∷ path) zero rs (x ∷ t) k h l i e =
    rw (seek-step rs b path) (by (λ v. (x == 256) ≡ v → cond v (not (b == 47) && takes_on t path) ((x == b) && takes t path) ≡ true
    → (found : K) × (or_else (seek 0 (step b rs) path) (or_else (after (step 256 rs) b path) (own (step 257 rs))) ≡ Some found)) (x == 256)
    (λ _ is e. or-second (seek 0 (step b rs) path) _ (or-first (after (step 256 rs) b path) (own (step 257 rs))
    (by (λ v. (b == 47) ≡ v → (not v && takes_on t path) ≡ true → (found : K) × (after (step 256 rs) b path ≡ Some found)) (b == 47)
    (λ _ _ e. absurd (true≢false (sym e)))
    (λ _ other e.
    let here = step-Has 256 rs t k (subst (λ x. Has rs (x ∷ t) k) (eqb-true x 256 is) i) in
    let slash = slash-step rs h in
    by (λ v. has_slash path ≡ v → (found : K) × (after (step 256 rs) b path ≡ Some found)) (has_slash path)
    (λ _ more.
    let shape = takes_on-shape t path more e in
    let there = subst (λ t. Has (step 256 rs) t k) shape.1 here in
    elim (after-goes (step 256 rs) b path slash other more) [
      | inl none ↦ absurd (none.0 shape.0 k there)
      | inr goes ↦ (
          let on = sym (takes_on-slash shape.0 path more) ∙ subst (λ t. takes_on t path ≡ true) shape.1 e in
          let le = segment-le path in
          let r = complete path (length (segment path) - 1) (with_suffix one_slash (step 256 rs)) (47 ∷ shape.0) k
          (plain-suffix (step 256 rs) slash (plain-step 256 rs h)) (omega arith) (Has-suffix (step 256 rs) shape.0 k there) on in
          (r.0, goes ∙ r.1))
    ])
    (λ _ last.
    let end = takes_on-end t path last e in
    let r = own-Has (step 256 rs) k (subst (λ t. Has (step 256 rs) t k) end here) in
    (r.0, after-end (step 256 rs) b path slash other last ∙ r.1)) refl) refl e)))
    (λ _ is e. by (λ v. (x == b) ≡ v → (v && takes t path) ≡ true
    → (found : K) × (or_else (seek 0 (step b rs) path) (or_else (after (step 256 rs) b path) (own (step 257 rs))) ≡ Some found)) (x == b)
    (λ _ same e.
    let here = step-Has b rs t k (subst (λ x. Has rs (x ∷ t) k) (eqb-true x b same) i) in
    or-first (seek 0 (step b rs) path) _ (complete path 0 (step b rs) t k (plain-step b rs h) (omega arith) here e))
    (λ _ _ e. absurd (true≢false (sym e))) refl e) refl e)

-- and what it finds is a row whose pattern takes the path
pub sound : {K : Type 0} (path : List ℕ) (n : ℕ) (rs : RowsOf K) (k : K) → ArePlain rs → AreBytes path → n ≤ length path
    → seek n rs path ≡ Some k → (t : List ℕ) × Has rs t k × (takes t (drop n path) ≡ true)
sound [] zero rs k h bytes l e = ([], Has-own rs k (sym (seek-nil 0 rs) ∙ e), refl)
sound [] (suc n) rs k h bytes l e = absurd (omega arith)
sound (b ∷ path) (suc n) rs k h bytes l e = sound path n rs k h bytes.1 (omega arith) (sym (seek-skip n rs b path) ∙ e)
sound {K} (b ∷ path) zero rs k h bytes l e =
    elim (or-cases (seek 0 (step b rs) path) _ k (sym (seek-step rs b path) ∙ e)) [
      | inl byte ↦ (
          let r = sound path 0 (step b rs) k (plain-step b rs h) bytes.1 (omega arith) byte in
          (b ∷ r.0, Has-step b rs r.0 k r.1, rw (byte-no-param b bytes.0, eq-eqb b b refl) r.2))
      | inr other ↦ elim (or-cases (after (step 256 rs) b path) (own (step 257 rs)) k other) [
        | inl param ↦ by (λ v. (b == 47) ≡ v → (t : List ℕ) × Has rs t k × (takes t (b ∷ path) ≡ true)) (b == 47)
            (λ _ is. let none = after-slash (step 256 rs) b path (slash-step rs h) (eqb-true b 47 is) in absurd (cc))
            (λ _ is. by (λ v. has_slash path ≡ v → (t : List ℕ) × Has rs t k × (takes t (b ∷ path) ≡ true)) (has_slash path)
            (λ _ more. elim (after-goes (step 256 rs) b path (slash-step rs h) is more) [
              | inl none ↦ (let no = none.1 in absurd (cc))
              | inr goes ↦ (
                  let le = segment-le path in
                  let r = sound path (length (segment path) - 1) (with_suffix one_slash (step 256 rs)) k
                  (plain-suffix (step 256 rs) (slash-step rs h) (plain-step 256 rs h)) bytes.1 (omega arith) (sym goes ∙ param) in
                  let s = suffix-Has (step 256 rs) r.0 k (slash-step rs h) r.1 in
                  let on : takes_on r.0 path ≡ true =
                  subst (λ t. takes t (drop (length (segment path) - 1) path) ≡ true → takes_on t path ≡ true) (sym s.1.1) (λ e. takes_on-slash s.1.0 path more ∙ e) r.2 in
                  (256 ∷ r.0, Has-step 256 rs r.0 k s.0, rw (is, on) refl))
            ])
            (λ _ last.
            let end = sym (after-end (step 256 rs) b path (slash-step rs h) is last) ∙ param in
            (256 ∷ [], Has-step 256 rs [] k (Has-own (step 256 rs) k end), rw (is, takes_on-nil path last) refl)) refl) refl
        | inr all ↦ elim ((h (257 ∷ []) k (Has-step 257 rs [] k (Has-own (step 257 rs) k all))).0) [
          | inl is ↦ (let no = is.0 in absurd (omega arith))
          | inr less ↦ absurd (omega arith)
        ]
      ]
    ]
