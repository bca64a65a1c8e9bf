-- The times of parts stay in order when a visit comes on block, is expected off block, or goes.
use Rattle.std.proofs.Common.{◌≡◌, ◌≤◌, ◌<◌, ◌+◌, ◌-◌, ◌++◌, ◌∷◌, [], ℕ, zero, suc, Bool, true, false, List, None, length, take, drop, map, max, refl, sym, arith, inl, inr, subst, nat_lt}
use Rattle.std.specs.Prelude.{Option, Some, IfSome, filter, slice_get}
use Rattle.std.proofs.lemmas.Bool.Decides.{nat_tests}
use Rattle.apron_base.specs.declared.numbers.StandNo.{StandNo}
use Rattle.visit_book.specs.declared.visits.Part.{Part}
use Rattle.visit_book.specs.Changes.{pushed_from}
use Rattle.visit_book.specs.Movements.{first_on_block, last_ended, last_expected, made_actual, on_given, starts_before}
use Rattle.visit_book.proofs.Times.{Follow, Pace, either, latest, max_cases, push_follows}

-- The part in a place comes on block.

given_times : (given : Option StandNo) (part : Part) → ((made_actual (on_given given part)).from ≡ part.from) × ((made_actual (on_given given part)).to ≡ part.to)
given_times None part = (refl, refl)
given_times (Some stand) part = (refl, refl)

same_times : (pace : Pace) (start : ℕ) (part other : Part) (parts : List Part) → (other.from ≡ part.from) × (other.to ≡ part.to) → Follow pace start (part ∷ parts)
    → Follow pace 0 (other ∷ parts)
same_times pace start part other parts same h = (
  omega arith,
  omega (arith, same.0, same.1, h.1),
  record { late = omega (arith, same.1, h.2.late); short = λ short. omega (arith, same.1, h.2.short (omega (arith, same.0, same.1, short))) },
  subst (λ to. Follow pace (to + pace.tow) parts) (sym same.1) h.3,
)

first_arrives : (pace : Pace) (start before at : ℕ) (given : Option StandNo) (parts : List Part) → 1 ≤ pace.least → at < pace.end → length parts ≤ 3 → start ≤ at
    → Follow pace before parts → Follow pace start (pushed_from pace.tow pace.least at (first_on_block given parts))
first_arrives pace start before at given [] some early few after h = tt
first_arrives pace start before at given (part ∷ parts) some early few after h =
    let other : Part = made_actual (on_given given part) in
    let first : Follow pace 0 (pushed_from pace.tow pace.least at (other ∷ parts)) =
    push_follows pace 0 at zero (other ∷ parts) some early few (omega arith) (same_times pace before part other parts (given_times given part) h) in
    (after, first.1, first.2, first.3)

-- the part before this place starts at least a minute and the tow minutes before this minute
abbrev pub IsTowable : ℕ → ℕ → List Part → ℕ → Type 0
IsTowable tow zero parts at = Unit {0}
IsTowable tow (suc place) parts at = IfSome (slice_get parts place) (λ part. part.from + 1 + tow ≤ at)

-- if no part comes before this place, the minute is not before the start
abbrev pub IsFrom : ℕ → ℕ → ℕ → Type 0
IsFrom start zero at = start ≤ at
IsFrom start (suc place) at = Unit {0}

-- the part in this place is on block at a minute of the plan, and the one before it ends a tow
-- earlier
pub arrive_follows : (pace : Pace) (start place at : ℕ) (given : Option StandNo) (parts : List Part) → 1 ≤ pace.least → at < pace.end → length parts ≤ 3
    → place < length parts → IsFrom start place at → IsTowable pace.tow place parts at → Follow pace start parts
    → Follow pace start (map made_actual (last_ended (at - pace.tow) (take place parts)) ++ pushed_from pace.tow pace.least at (first_on_block given (drop place parts)))
arrive_follows pace start place at given [] some early few inside after towable h = absurd (omega arith)
arrive_follows pace start zero at given (part ∷ parts) some early few inside after towable h = first_arrives pace start start at given (part ∷ parts) some early few after h
arrive_follows pace start (suc zero) at given (part ∷ parts) some early few inside after towable h = (
  h.0,
  omega arith,
  record { late = omega arith; short = λ short. omega arith },
  first_arrives pace (at - pace.tow + pace.tow) (part.to + pace.tow) at given parts some early (omega arith) (omega arith) h.3,
)
arrive_follows pace start (suc (suc place)) at given (part ∷ []) some early few inside after towable h = absurd (omega arith)
arrive_follows pace start (suc (suc place)) at given (part ∷ (next ∷ parts)) some early few inside after towable h = (
  h.0,
  h.1,
  record { late = h.2.late; short = h.2.short },
  arrive_follows pace (part.to + pace.tow) (suc place) at given (next ∷ parts) some early (omega arith) (omega arith) tt towable h.3,
)

-- The last part is expected to end.

pub expected_follows : (pace : Pace) (start at : ℕ) (parts : List Part) → 1 ≤ pace.least → at < pace.end → Follow pace start parts
    → Follow pace start (last_expected pace.least at parts)
expected_follows pace start at [] some early h = tt
expected_follows pace start at (part ∷ []) some early h =
    let to : ℕ = max at (part.from + pace.least) in
    let low : part.from + pace.least ≤ to = grind arith in
    let late : to ≤ latest pace = elim (max_cases at (part.from + pace.least)) [
      | inl kept ↦ omega (arith, kept.0)
      | inr longer ↦ elim (either part.to (part.from + pace.least)) [
        | inl short ↦ omega (arith, longer.0, h.2.short short, h.1)
        | inr enough ↦ omega (arith, longer.0, h.2.late)
      ]
    ] in
    (h.0, omega arith, record { late = late; short = λ short. absurd (omega arith) }, tt)
expected_follows pace start at (part ∷ (next ∷ parts)) some early h = (h.0, h.1, h.2, expected_follows pace (part.to + pace.tow) at (next ∷ parts) some early h.3)

-- The visit goes.

none_before : (pace : Pace) (start at : ℕ) (parts : List Part) → at ≤ start → Follow pace start parts → filter (starts_before at) parts ≡ []
none_before pace start at [] low h = refl
none_before pace start at (part ∷ parts) low h =
    let over : nat_lt part.from at ≡ false = grind (arith, nat_tests, h.0) in
    rw over (none_before pace (part.to + pace.tow) at parts (omega (arith, h.0, h.1)) h.3)

depart_next : (pace : Pace) (start at : ℕ) (part next : Part) (parts : List Part) (b : Bool) → nat_lt next.from at ≡ b → part.from < at → at < pace.end
    → Follow pace start (part ∷ (next ∷ parts))
    → (next.from < at → Follow pace (part.to + pace.tow) (map made_actual (last_ended at (next ∷ filter (starts_before at) parts))))
    → Follow pace start (map made_actual (last_ended at (part ∷ filter (starts_before at) (next ∷ parts))))
depart_next pace start at part next parts true is low early h rest = rw is (h.0, h.1, record { late = h.2.late; short = h.2.short }, rest (grind (arith, nat_tests)))
depart_next pace start at part next parts false is low early h rest =
    let past : at ≤ next.from = grind (arith, nat_tests) in
    let none : filter (starts_before at) parts ≡ [] = none_before pace (next.to + pace.tow) at parts (omega (arith, h.3.1)) h.3.3 in
    rw (is, none) (h.0, low, record { late = omega arith; short = λ short. early }, tt)

-- the first part starts before a minute of the plan, at which the visit goes
pub depart_follows : (pace : Pace) (start at : ℕ) (part : Part) (parts : List Part) → part.from < at → at < pace.end → Follow pace start (part ∷ parts)
    → Follow pace start (map made_actual (last_ended at (part ∷ filter (starts_before at) parts)))
depart_follows pace start at part [] low early h = (h.0, low, record { late = omega arith; short = λ short. early }, tt)
depart_follows pace start at part (next ∷ parts) low early h =
    depart_next pace start at part next parts (nat_lt next.from at) refl low early h
    (λ next_low. depart_follows pace (part.to + pace.tow) at next parts next_low early h.3)
