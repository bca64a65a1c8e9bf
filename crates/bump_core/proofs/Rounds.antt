-- What stays under any relation that goes down an order.
use Rattle.std.proofs.Common.{◌≡◌, ◌∙◌, ◌<◌, ◌≤◌, ◌+◌, ◌⊎◌, ℕ, zero, suc, Bool, true, false, ◌&&◌, cond, List, [], ◌∷◌, refl, sym, ap, arith, inl, inr, length}
use Rattle.std.specs.Prelude.{filter, not}
use Rattle.std.specs.List.{list_any}
use Rattle.bump_core.specs.Ranks.{after_rounds, is_free}

-- x is one of the items
abbrev pub Among : {X : Type 0} → X → List X → Type 0
Among x [] = ⊥
Among x (y ∷ ys) = (x ≡ y) ⊎ Among x ys

-- two tests that agree at each item keep the same
pub filter_same : {X : Type 0} (f g : X → Bool) (xs : List X) → ((x : X) → Among x xs → f x ≡ g x) → filter f xs ≡ filter g xs
filter_same f g [] same = refl
filter_same f g (x ∷ xs) same =
    let rest : filter f xs ≡ filter g xs = filter_same f g xs (λ y in'. same y (inr in')) in
    rw (same x (inl refl), rest) refl

pub any_same : {X : Type 0} (f g : X → Bool) (xs : List X) → ((x : X) → Among x xs → f x ≡ g x) → list_any f xs ≡ list_any g xs
any_same f g [] same = refl
any_same f g (x ∷ xs) same =
    let rest : list_any f xs ≡ list_any g xs = any_same f g xs (λ y in'. same y (inr in')) in
    rw (same x (inl refl), rest) refl

-- some item that passes g among those that pass f
any_filter_first : {X : Type 0} (f g : X → Bool) (x : X) (xs : List X) (b : Bool) → f x ≡ b → list_any g (filter f xs) ≡ list_any (λ y. f y && g y) xs
    → list_any g (filter f (x ∷ xs)) ≡ list_any (λ y. f y && g y) (x ∷ xs)
any_filter_first f g x xs true is rest = rw (is, rest) refl
any_filter_first f g x xs false is rest = rw (is, rest) refl

pub any_filter : {X : Type 0} (f g : X → Bool) (xs : List X) → list_any g (filter f xs) ≡ list_any (λ y. f y && g y) xs
any_filter f g [] = refl
any_filter f g (x ∷ xs) = any_filter_first f g x xs (f x) refl (any_filter f g xs)

-- how many pass
abbrev pub count : {X : Type 0} → (X → Bool) → List X → ℕ
count f [] = 0
count f (x ∷ xs) = cond (f x) 1 0 + count f xs

cond_le : (b c : Bool) → (b ≡ true → c ≡ true) → cond b 1 0 ≤ cond c 1 0
cond_le true c h = rw (h refl) (omega arith)
cond_le false true h = omega arith
cond_le false false h = omega arith

pub count_le : {X : Type 0} (f g : X → Bool) (xs : List X) → ((x : X) → f x ≡ true → g x ≡ true) → count f xs ≤ count g xs
count_le f g [] h = omega arith
count_le f g (x ∷ xs) h = omega (arith, cond_le (f x) (g x) (h x), count_le f g xs h)

-- fewer pass f, if all that pass f pass g and one of those that pass g doesn't pass f
pub count_less : {X : Type 0} (f g : X → Bool) (xs : List X) (y : X) → ((x : X) → f x ≡ true → g x ≡ true) → Among y xs → f y ≡ false → g y ≡ true
    → count f xs < count g xs
count_less f g [] y h in' fails passes = absurd in'
count_less f g (x ∷ xs) y h in' fails passes = elim in' [
  | inl here ↦
      let one : f x ≡ false = ap f (sym here) ∙ fails in
      let two : g x ≡ true = ap g (sym here) ∙ passes in
      rw (one, two) (omega (arith, count_le f g xs h))
  | inr there ↦ omega (arith, cond_le (f x) (g x) (h x), count_less f g xs y h there fails passes)
]

pub count_all : {X : Type 0} (xs : List X) → count (λ (x : X). true) xs ≡ length xs
count_all [] = refl
count_all (x ∷ xs) = omega (arith, count_all xs)

-- what blocks comes before what it blocks, in an order
pub record GoesDown {X : Type 0} (blocks before : X → X → Bool) : Type 0 where
  pub down : (other part : X) → blocks other part ≡ true → before other part ≡ true
  pub trans : (r other part : X) → before r other ≡ true → before other part ≡ true → before r part ≡ true
  pub apart : (part : X) → before part part ≡ false

-- how many come before it
abbrev pub depth : {X : Type 0} → (X → X → Bool) → List X → X → ℕ
depth before parts part = count (λ other. before other part) parts

pub depth_less : {X : Type 0} (blocks before : X → X → Bool) (parts : List X) (other part : X) → GoesDown blocks before → Among other parts
    → blocks other part ≡ true
    → depth before parts other < depth before parts part
depth_less blocks before parts other part order in' h =
    count_less (λ r. before r other) (λ r. before r part) parts other (λ r below. order.trans r other part below (order.down other part h)) in' (order.apart other) (order.down other part h)

pub depth_within : {X : Type 0} (blocks before : X → X → Bool) (parts : List X) (part : X) → GoesDown blocks before → Among part parts
    → depth before parts part < length parts
depth_within blocks before parts part order in' =
    omega (arith, count_less (λ other. before other part) (λ other. true) parts part (λ other h. refl) in' (order.apart part) refl, count_all parts)

-- two tests agree on each of the parts with fewer than this many before it
abbrev pub Agree : {X : Type 0} → (X → X → Bool) → List X → ℕ → (X → Bool) → (X → Bool) → Type 0
Agree {X} before parts d f g = (part : X) → Among part parts → depth before parts part < d → f part ≡ g part

pub and_same : (a b c : Bool) → (c ≡ true → a ≡ b) → (a && c) ≡ (b && c)
and_same true true c h = refl
and_same false false c h = refl
and_same true false true h = h refl
and_same false true true h = h refl
and_same true false false h = refl
and_same false true false h = refl

-- two tests that agree on those before leave the same parts free
pub agree_next : {X : Type 0} (blocks before : X → X → Bool) (parts : List X) (d : ℕ) (f g : X → Bool) → GoesDown blocks before → Agree before parts d f g
    → Agree before parts (suc d) (is_free blocks (filter f parts)) (is_free blocks (filter g parts))
agree_next blocks before parts d f g order h part in' within =
    ap not (any_filter f (λ other. blocks other part) parts
    ∙ (any_same (λ other. f other && blocks other part) (λ other. g other && blocks other part) parts
    (λ other here. and_same (f other) (g other) (blocks other part) (λ b. h other here (omega (arith, depth_less blocks before parts other part order here b, within))))
    ∙ sym (any_filter g (λ other. blocks other part) parts)))

-- two ways to stay agree
fixed_agree : {X : Type 0} (blocks before : X → X → Bool) (parts ks ls : List X) (d : ℕ) → GoesDown blocks before
    → ks ≡ filter (is_free blocks ks) parts → ls ≡ filter (is_free blocks ls) parts → Agree before parts d (is_free blocks ks) (is_free blocks ls)
fixed_agree blocks before parts ks ls zero order k l = λ part in' within. absurd (omega arith)
fixed_agree blocks before parts ks ls (suc d) order k l = λ part in' within.
    ap (λ vs. is_free blocks vs part) k
    ∙ (agree_next blocks before parts d (is_free blocks ks) (is_free blocks ls) order (fixed_agree blocks before parts ks ls d order k l) part in' within
    ∙ ap (λ vs. is_free blocks vs part) (sym l))

-- there is at most one way to stay
pub fixed_one : {X : Type 0} (blocks before : X → X → Bool) (parts ks ls : List X) → GoesDown blocks before
    → ks ≡ filter (is_free blocks ks) parts → ls ≡ filter (is_free blocks ls) parts → ks ≡ ls
fixed_one blocks before parts ks ls order k l =
    k ∙ (filter_same (is_free blocks ks) (is_free blocks ls) parts
    (λ part in'. fixed_agree blocks before parts ks ls (length parts) order k l part in' (depth_within blocks before parts part order in'))
    ∙ sym l)

none_blocks : {X : Type 0} (blocks before : X → X → Bool) (parts : List X) (other part : X) (b : Bool) → blocks other part ≡ b → GoesDown blocks before
    → Among other parts
    → depth before parts part < 1 → b ≡ false
none_blocks blocks before parts other part true is order in' within = absurd (omega (arith, depth_less blocks before parts other part order in' is))
none_blocks blocks before parts other part false is order in' within = refl

and_false : (a b : Bool) → b ≡ false → (a && b) ≡ b
and_false true b h = refl
and_false false b h = sym h

-- each round settles one more
rounds_agree : {X : Type 0} (blocks before : X → X → Bool) (parts : List X) (d : ℕ) → GoesDown blocks before
    → Agree before parts (suc d) (is_free blocks (after_rounds blocks d parts)) (is_free blocks (after_rounds blocks (suc d) parts))
rounds_agree blocks before parts zero order = λ part in' within.
    ap not (sym (any_filter (is_free blocks parts) (λ other. blocks other part) parts
    ∙ any_same (λ other. is_free blocks parts other && blocks other part) (λ other. blocks other part) parts
    (λ other here. and_false (is_free blocks parts other) (blocks other part) (none_blocks blocks before parts other part (blocks other part) refl order here within))))
rounds_agree blocks before parts (suc d) order =
    agree_next blocks before parts (suc d) (is_free blocks (after_rounds blocks d parts)) (is_free blocks (after_rounds blocks (suc d) parts)) order
    (rounds_agree blocks before parts d order)

rounds_fixed_by : {X : Type 0} (blocks before : X → X → Bool) (parts : List X) (d : ℕ) → length parts ≡ d → GoesDown blocks before
    → after_rounds blocks d parts ≡ filter (is_free blocks (after_rounds blocks d parts)) parts
rounds_fixed_by blocks before [] zero e order = refl
rounds_fixed_by blocks before (x ∷ xs) zero e order = absurd (omega arith)
rounds_fixed_by blocks before parts (suc d) e order =
    filter_same (is_free blocks (after_rounds blocks d parts)) (is_free blocks (after_rounds blocks (suc d) parts)) parts
    (λ part in'. rounds_agree blocks before parts d order part in' (omega (arith, depth_within blocks before parts part order in')))

-- after as many rounds as there are items, none changes any more
pub rounds_fixed : {X : Type 0} (blocks before : X → X → Bool) (parts : List X) → GoesDown blocks before
    → after_rounds blocks (length parts) parts ≡ filter (is_free blocks (after_rounds blocks (length parts) parts)) parts
rounds_fixed blocks before parts order = rounds_fixed_by blocks before parts (length parts) refl order
