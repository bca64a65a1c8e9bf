-- Ranks are an order, and what blocks is better.
use Rattle.std.proofs.Common.{◌≡◌, ◌∙◌, ◌⊎◌, ◌==◌, ◌<◌, ℕ, Bool, true, false, ◌&&◌, ◌||◌, List, [], ◌∷◌, refl, sym, ap, arith, inl, inr, nat_lt, if◌then◌else◌, ◌↔◌}
use Rattle.std.specs.Prelude.{Option, None, Some, is_some, not, option_map}
use Rattle.std.proofs.lemmas.Bool.Decides.{nat_tests}
use Rattle.apron_rules.specs.declared.parts.AirportParts.{AirportParts}
use Rattle.bump_core.specs.Near.{meets}
use Rattle.bump_core.specs.declared.ranks.Ranked.{Ranked}
use Rattle.bump_core.specs.declared.ranks.Conflict.{Conflict}
use Rattle.apron_rules.specs.declared.rules.Meeting.{Meeting}
use Rattle.clash_check.specs.Meetings.{meeting}
use Rattle.bump_core.specs.Ranks.{Stay, conflict, blocks, may_block, blocks_before, is_lower, kept_of, rank}
use Rattle.bump_core.proofs.Rounds.{GoesDown, fixed_one, rounds_fixed}

pub lower_cases : (x y : ℕ) (b : Bool) → (nat_lt x y || (x == y && b)) ≡ true → (x < y) ⊎ ((x ≡ y) × (b ≡ true))
lower_cases x y true h = grind (arith, nat_tests)
lower_cases x y false h = grind (arith, nat_tests)

pub lower_first : (x y : ℕ) (b : Bool) → x < y → (nat_lt x y || (x == y && b)) ≡ true
lower_first x y b h = grind (arith, nat_tests)

pub lower_later : (x y : ℕ) (b : Bool) → x ≡ y → b ≡ true → (nat_lt x y || (x == y && b)) ≡ true
lower_later x y b h k = grind (arith, nat_tests)

pub lower_trans : (xs ys zs : List ℕ) → is_lower xs ys ≡ true → is_lower ys zs ≡ true → is_lower xs zs ≡ true
lower_trans [] ys zs h k = absurd (cc)
lower_trans (x ∷ xs) [] zs h k = absurd (cc)
lower_trans (x ∷ xs) (y ∷ ys) [] h k = absurd (cc)
lower_trans (x ∷ xs) (y ∷ ys) (z ∷ zs) h k =
    elim (lower_cases x y (is_lower xs ys) h) [
      | inl a ↦ elim (lower_cases y z (is_lower ys zs) k) [
        | inl b ↦ lower_first x z (is_lower xs zs) (omega arith)
        | inr b ↦ lower_first x z (is_lower xs zs) (omega (arith, b.0))
      ]
      | inr a ↦ elim (lower_cases y z (is_lower ys zs) k) [
        | inl b ↦ lower_first x z (is_lower xs zs) (omega (arith, a.0))
        | inr b ↦ lower_later x z (is_lower xs zs) (a.0 ∙ b.0) (lower_trans xs ys zs a.1 b.1)
      ]
    ]

self : (x : ℕ) → (nat_lt x x || (x == x && false)) ≡ false
self x = grind (arith, nat_tests)

pub lower_apart : (xs : List ℕ) → is_lower xs xs ≡ false
lower_apart [] = refl
lower_apart (x ∷ xs) = let rest : is_lower xs xs ≡ false = lower_apart xs in rw rest (self x)

pub both : (a b : Bool) → (a && b) ≡ true → (a ≡ true) × (b ≡ true)
both true b h = (refl, h)
both false b h = absurd (cc)

-- two parts of which the first blocks the second
pub record Blocks (airport : AirportParts) (other part : Ranked) (b : Conflict) : Type 0 where
  pub planned : part.slot.actual ≡ false
  pub better : blocks_before other part ≡ true
  pub meets : meeting airport other.slot part.slot ≡ Some (record { minute = b.minute; rule = b.rule })
  pub blocker : b.blocker ≡ other
  pub blocked : b.blocked ≡ part

pub not_false : (b : Bool) → not b ≡ true → b ≡ false
not_false true h = absurd (cc)
not_false false h = refl

blocking_at : Ranked → Ranked → Meeting → Conflict
blocking_at other part at = record { blocker = other; blocked = part; minute = at.minute; rule = at.rule }

blocking_by : (airport : AirportParts) (other part : Ranked) (b : Conflict) (may : Bool) (found : Option Meeting) → may_block other part ≡ may
    → meeting airport other.slot part.slot ≡ found
    → ◌≡◌ {A = Option Conflict} (if may then option_map (blocking_at other part) found else None) (Some b) → Blocks airport other part b
unfolding blocking_at
blocking_by airport other part b false found is meet e = absurd (cc)
blocking_by airport other part b true None is meet e = absurd (cc)
blocking_by airport other part b true (Some at) is meet e =
    let two = both (not part.slot.actual) (blocks_before other part) is in
    let same : blocking_at other part at ≡ b = cc in
    record {
      planned = not_false part.slot.actual two.0;
      better = two.1;
      meets = meet ∙ ap (λ (x : Conflict). let m : Meeting = record { minute = x.minute; rule = x.rule } in Some m) same;
      blocker = sym (ap (λ (x : Conflict). x.blocker) same);
      blocked = sym (ap (λ (x : Conflict). x.blocked) same);
    }

-- what follows from a part blocking another
pub blocking_tells : (airport : AirportParts) (other part : Ranked) (b : Conflict) → conflict airport other part ≡ Some b → Blocks airport other part b
unfolding conflict blocking_at
blocking_tells airport other part b e = blocking_by airport other part b (may_block other part) (meeting airport other.slot part.slot) refl refl e

blocks_by : (airport : AirportParts) (other part : Ranked) (found : Option Conflict) → conflict airport other part ≡ found → is_some found ≡ true
    → (part.slot.actual ≡ false) × (blocks_before other part ≡ true) × (meets airport other.slot part.slot ≡ true)
blocks_by airport other part None is h = absurd (cc)
blocks_by airport other part (Some b) is h =
    let tells : Blocks airport other part b = blocking_tells airport other part b is in (tells.planned, tells.better, ap is_some tells.meets)

pub blocks_tell : (airport : AirportParts) (other part : Ranked) → blocks airport other part ≡ true
    → (part.slot.actual ≡ false) × (blocks_before other part ≡ true) × (meets airport other.slot part.slot ≡ true)
blocks_tell airport other part h = blocks_by airport other part (conflict airport other part) refl h

better_trans : (r other part : Ranked) → blocks_before r other ≡ true → blocks_before other part ≡ true → blocks_before r part ≡ true
unfolding blocks_before
better_trans r other part h k = lower_trans (rank r) (rank other) (rank part) h k

better_apart : (part : Ranked) → blocks_before part part ≡ false
unfolding blocks_before
better_apart part = lower_apart (rank part)

pub down : (airport : AirportParts) → GoesDown (blocks airport) blocks_before
down airport = record { down = λ other part h. (blocks_tell airport other part h).1; trans = better_trans; apart = better_apart }

pub kept_stay : (airport : AirportParts) (parts : List Ranked) → Stay airport parts (kept_of airport parts)
unfolding kept_of
kept_stay airport parts = rounds_fixed (blocks airport) blocks_before parts (down airport)

pub kept_are : (airport : AirportParts) (parts kept : List Ranked) → Stay airport parts kept → kept ≡ kept_of airport parts
kept_are airport parts kept h = fixed_one (blocks airport) blocks_before parts kept (kept_of airport parts) (down airport) h (kept_stay airport parts)

stay_like : (airport : AirportParts) (parts kept other : List Ranked) → kept ≡ other → Stay airport parts other → Stay airport parts kept
stay_like airport parts kept other e h = rw e h

pub one_way : (airport : AirportParts) (parts kept : List Ranked) → Stay airport parts kept ↔ (kept ≡ kept_of airport parts)
one_way airport parts kept = (kept_are airport parts kept, λ e. stay_like airport parts kept (kept_of airport parts) e (kept_stay airport parts))
