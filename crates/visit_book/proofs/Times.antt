-- Changes keep the times of the parts of a visit in order.
use Rattle.std.proofs.Common.{◌≡◌, ◌≤◌, ◌<◌, ◌+◌, ◌*◌, ◌++◌, ◌∷◌, ◌⊎◌, [], ℕ, zero, suc, List, length, take, drop, max, refl, ap, arith, inl, inr}
use Rattle.std.specs.Prelude.{Some, IfSome, slice_get}
use Rattle.std.specs.List.{AllByRecursion}
use Rattle.visit_book.specs.declared.visits.Part.{Part}
use Rattle.visit_book.specs.Changes.{cut_first, join_first, pushed_behind, pushed_from}
use Rattle.visit_book.specs.WellFormed.{IsSpaced}

-- what an airport and a type give for the times of parts: the minute after the plan's last, the tow
-- minutes and the least minutes
pub record Pace : Type 0 where
  pub end : ℕ
  pub tow : ℕ
  pub least : ℕ

-- the minute after the plan's last, plus the least minutes of three parts with two tows between
abbrev pub latest : Pace → ℕ
latest pace = pace.end + 3 * pace.least + 2 * pace.tow

-- a part ends in time, and before the plan does if it is short
pub record Fits (pace : Pace) (part : Part) : Type 0 where
  pub late : part.to ≤ latest pace
  pub short : part.to < part.from + pace.least → part.to < pace.end

-- parts follow one another, the first from this minute at the earliest, and each ends in time
abbrev pub Follow : Pace → ℕ → List Part → Type 0
Follow pace start [] = Unit {0}
Follow pace start (part ∷ parts) = (start ≤ part.from) × (part.from < part.to) × Fits pace part × Follow pace (part.to + pace.tow) parts

pub follow_by : (pace : Pace) (start : ℕ) (parts : List Part) → IsSpaced pace.tow start parts → AllByRecursion (λ part. part.to ≤ latest pace) parts
    → AllByRecursion (λ part. part.to < part.from + pace.least → part.to < pace.end) parts → Follow pace start parts
follow_by pace start [] spaced late short = tt
follow_by pace start (part ∷ parts) spaced late short =
    (spaced.0, spaced.1, record { late = late.0; short = short.0 }, follow_by pace (part.to + pace.tow) parts spaced.2 late.1 short.1)

pub spaced_of : (pace : Pace) (start : ℕ) (parts : List Part) → Follow pace start parts → IsSpaced pace.tow start parts
spaced_of pace start [] h = tt
spaced_of pace start (part ∷ parts) h = (h.0, h.1, spaced_of pace (part.to + pace.tow) parts h.3)

pub late_of : (pace : Pace) (start : ℕ) (parts : List Part) → Follow pace start parts → AllByRecursion (λ part. part.to ≤ latest pace) parts
late_of pace start [] h = tt
late_of pace start (part ∷ parts) h = (h.2.late, late_of pace (part.to + pace.tow) parts h.3)

pub short_of : (pace : Pace) (start : ℕ) (parts : List Part) → Follow pace start parts
    → AllByRecursion (λ part. part.to < part.from + pace.least → part.to < pace.end) parts
short_of pace start [] h = tt
short_of pace start (part ∷ parts) h = (h.2.short, short_of pace (part.to + pace.tow) parts h.3)

-- The later parts are pushed.

-- there is room for these parts at their least minutes, with tows between, from this minute on
abbrev Room : Pace → ℕ → List Part → Type 0
Room pace reach [] = Unit {0}
Room pace reach (part ∷ parts) = (reach + pace.least ≤ latest pace) × Room pace (reach + pace.least + pace.tow) parts

-- from the plan's end on there is room for three parts
room_of : (pace : Pace) (parts : List Part) → length parts ≤ 3 → Room pace pace.end parts
room_of pace [] few = tt
room_of pace (a ∷ []) few = (omega arith, tt)
room_of pace (a ∷ (b ∷ [])) few = (omega arith, (omega arith, tt))
room_of pace (a ∷ (b ∷ (c ∷ []))) few = (omega arith, (omega arith, (omega arith, tt)))
room_of pace (a ∷ (b ∷ (c ∷ (d ∷ parts)))) few = absurd (omega arith)

pub max_cases : (m n : ℕ) → ((max m n ≡ m) × (n ≤ m)) ⊎ ((max m n ≡ n) × (m ≤ n))
max_cases m n = grind arith

pub either : (m n : ℕ) → (m < n) ⊎ (n ≤ m)
either m n = grind arith

-- a part ends in time, and its tow ends no later than before, or within reach
abbrev EndsWithin : Pace → ℕ → Part → ℕ → Type 0
EndsWithin pace reach part to = (to ≤ latest pace) × ((to + pace.tow ≤ part.to + pace.tow) ⊎ (to + pace.tow ≤ reach + pace.least + pace.tow))

stretched_end : (pace : Pace) (reach to : ℕ) (part : Part) → pace.end ≤ reach → reach + pace.least ≤ latest pace → part.from < part.to → Fits pace part
    → to ≤ part.from + pace.least → part.to ≤ part.from + pace.least → EndsWithin pace reach part to
stretched_end pace reach to part over room up fits within long = elim (either part.to (part.from + pace.least)) [
  | inl short ↦ let early : part.to < pace.end = fits.short short in (omega arith, inr (omega arith))
  | inr enough ↦ (omega (arith, fits.late), inl (omega arith))
]

pushed_end : (pace : Pace) (first earliest reach from to : ℕ) (part : Part) → pace.end ≤ reach → reach + pace.least ≤ latest pace
    → (earliest ≤ first) ⊎ (earliest ≤ reach) → first ≤ part.from → part.from < part.to → Fits pace part
    → from ≡ max earliest part.from → to ≡ max part.to (from + pace.least) → EndsWithin pace reach part to
pushed_end pace first earliest reach from to part over room within low up fits f t = elim (max_cases part.to (from + pace.least)) [
  | inl kept ↦ (omega (arith, kept.0, fits.late), inl (omega (arith, kept.0)))
  | inr longer ↦ elim (max_cases earliest part.from) [
    | inl moved ↦ elim within [
      | inl early ↦ stretched_end pace reach to part over room up fits (omega (arith, longer.0, longer.1, moved.0)) (omega (arith, longer.1, moved.0))
      | inr near ↦ (omega (arith, longer.0, moved.0), inr (omega (arith, longer.0, moved.0)))
    ]
    | inr stays ↦ stretched_end pace reach to part over room up fits (omega (arith, longer.0, stays.0)) (omega (arith, longer.1, stays.0))
  ]
]

behind_follows : (pace : Pace) (first earliest reach : ℕ) (parts : List Part) → 1 ≤ pace.least → pace.end ≤ reach → Room pace reach parts
    → (earliest ≤ first) ⊎ (earliest ≤ reach) → Follow pace first parts → Follow pace earliest (pushed_behind pace.tow pace.least earliest parts)
behind_follows pace first earliest reach [] some over room within h = tt
behind_follows pace first earliest reach (part ∷ parts) some over room within h =
    let from : ℕ = max earliest part.from in
    let to : ℕ = max part.to (from + pace.least) in
    let low : (earliest ≤ from) × (from + pace.least ≤ to) × (part.to ≤ to) = (grind arith, grind arith, grind arith) in
    let ends : EndsWithin pace reach part to = pushed_end pace first earliest reach from to part over room.0 within h.0 h.1 h.2 refl refl in (
      low.0,
      omega (arith, low.1),
      record { late = ends.0; short = λ short. absurd (omega (arith, low.1)) },
      behind_follows pace (part.to + pace.tow) (to + pace.tow) (reach + pace.least + pace.tow) parts some (omega arith) room.1 ends.1 h.3,
    )

-- the minute is not before the start or, if parts come before this place, not before a tow after
-- the last of them
abbrev pub IsAfter : ℕ → ℕ → ℕ → List Part → ℕ → Type 0
IsAfter tow start zero parts minute = start ≤ minute
IsAfter tow start (suc place) [] minute = Unit {0}
IsAfter tow start (suc place) (part ∷ parts) minute = IsAfter tow (part.to + tow) place parts minute

pub towed_after : (tow start place minute : ℕ) (parts : List Part) → IfSome (slice_get parts place) (λ part. part.to + tow ≤ minute)
    → IsAfter tow start (suc place) parts minute
towed_after tow start place minute [] h = tt
towed_after tow start zero minute (part ∷ parts) h = h
towed_after tow start (suc place) minute (part ∷ parts) h = towed_after tow (part.to + tow) place minute parts h

-- the part in this place is pushed to a minute of the plan, and the later ones are delayed after it
pub push_follows : (pace : Pace) (start from place : ℕ) (parts : List Part) → 1 ≤ pace.least → from < pace.end → length parts ≤ 3
    → IsAfter pace.tow start place parts from → Follow pace start parts
    → Follow pace start (take place parts ++ pushed_from pace.tow pace.least from (drop place parts))
push_follows pace start from zero [] some early few after h = tt
push_follows pace start from zero (part ∷ parts) some early few after h =
    let room : Room pace pace.end (part ∷ parts) = room_of pace (part ∷ parts) few in
    let to : ℕ = max part.to (from + pace.least) in
    let low : (from + pace.least ≤ to) × (part.to ≤ to) = (grind arith, grind arith) in
    let ends : EndsWithin pace pace.end part to = elim (max_cases part.to (from + pace.least)) [
      | inl kept ↦ (omega (arith, kept.0, h.2.late), inl (omega (arith, kept.0)))
      | inr longer ↦ (omega (arith, longer.0, room.0), inr (omega (arith, longer.0)))
    ] in (
      after,
      omega (arith, low.0),
      record { late = ends.0; short = λ short. absurd (omega (arith, low.0)) },
      behind_follows pace (part.to + pace.tow) (to + pace.tow) (pace.end + pace.least + pace.tow) parts some (omega arith) room.1 ends.1 h.3,
    )
push_follows pace start from (suc place) [] some early few after h = tt
push_follows pace start from (suc place) (part ∷ parts) some early few after h =
    (h.0, h.1, h.2, push_follows pace (part.to + pace.tow) from place parts some early (omega arith) after h.3)

-- The part in a place is cut, or joined with the next one.

pub cut_follows : (pace : Pace) (start place at : ℕ) (parts : List Part) (part : Part) → 1 ≤ pace.least → slice_get parts place ≡ Some part
    → part.from + pace.least ≤ at → at + pace.tow + pace.least ≤ part.to → Follow pace start parts
    → Follow pace start (take place parts ++ cut_first pace.tow at (drop place parts))
cut_follows pace start place at [] part some found low high h = absurd (cc)
cut_follows pace start zero at (first ∷ parts) part some found low high h =
    let is : first ≡ part = cc in
    let from : first.from ≡ part.from = ap (λ (q : Part). q.from) is in
    let to : first.to ≡ part.to = ap (λ (q : Part). q.to) is in (
      h.0,
      omega arith,
      record { late = omega (arith, h.2.late); short = λ short. absurd (omega arith) },
      (omega arith, omega arith, record { late = h.2.late; short = λ short. absurd (omega arith) }, h.3),
    )
cut_follows pace start (suc place) at (first ∷ parts) part some found low high h =
    (h.0, h.1, h.2, cut_follows pace (first.to + pace.tow) place at parts part some found low high h.3)

pub join_follows : (pace : Pace) (start place : ℕ) (parts : List Part) → Follow pace start parts → Follow pace start (take place parts ++ join_first (drop place parts))
join_follows pace start zero [] h = tt
join_follows pace start zero (part ∷ []) h = h
join_follows pace start zero (part ∷ (next ∷ parts)) h = (
  h.0,
  omega (arith, h.1, h.3.0, h.3.1),
  record { late = h.3.2.late; short = λ short. h.3.2.short (omega (arith, h.1, h.3.0)) },
  h.3.3,
)
join_follows pace start (suc place) [] h = tt
join_follows pace start (suc place) (part ∷ parts) h = (h.0, h.1, h.2, join_follows pace (part.to + pace.tow) place parts h.3)
