-- All stand rules get stricter with the span.
use Rattle.std.proofs.Common.{◌≡◌, ◌∙◌, ◌<◌, ◌≤◌, ◌+◌, ◌*◌, ◌⊎◌, inl, inr, ℕ, Bool, true, false, cond, List, [], ◌∷◌, refl, sym, ap, subst, arith, Option, None, Some, max, ◌&&◌, ◌||◌}
use Rattle.std.specs.Prelude.{nat_lt, nat_le, find, is_none, if◌then◌else◌}
use Rattle.std.specs.List.{list_any, AllByRecursion}
use Rattle.std.specs.Option.{option_map}
use Rattle.std.specs.Str.{bytes_eq}
use Rattle.std.proofs.lemmas.Bool.Decides.{nat_tests}
use Rattle.apron_base.specs.Letter.{LetterRow, letter_table, letter_for, is_in_row, clearance_of_letter, clearance_of_span, letter_rank, is_letter_at_least}
use Rattle.apron_base.specs.declared.letter.Letter.{Letter}
use Rattle.apron_base.specs.declared.letter.Letter.TheVariants.{A, B, C, D, E, F}
use Rattle.apron_rules.specs.declared.parts.PairRow.{PairRow}
use Rattle.apron_rules.specs.declared.parts.StandRow.{StandRow}
use Rattle.apron_rules.specs.declared.rules.Rule.{Rule}
use Rattle.apron_rules.specs.declared.rules.Rule.TheVariants.{Same, Split, Clearance, Pair}
use Rattle.apron_rules.specs.Rules.{is_half_of, is_too_near, is_restricted, is_restricted_so, has_letter, distance, rule_between}

-- the least span that has a letter
abbrev from_of : Letter → ℕ
from_of A = 1
from_of B = 1500
from_of C = 2400
from_of D = 3600
from_of E = 5200
from_of F = 6500

-- the first span above a letter's
abbrev below_of : Letter → ℕ
below_of A = 1500
below_of B = 2400
below_of C = 3600
below_of D = 5200
below_of E = 6500
below_of F = 8000

-- letters and clearances rise with the spans
ordered : (a b : Letter) → from_of a < below_of b → (letter_rank a ≤ letter_rank b) × (clearance_of_letter a ≤ clearance_of_letter b)
ordered A A h = (omega arith, omega arith)
ordered A B h = (omega arith, omega arith)
ordered A C h = (omega arith, omega arith)
ordered A D h = (omega arith, omega arith)
ordered A E h = (omega arith, omega arith)
ordered A F h = (omega arith, omega arith)
ordered B A h = absurd (omega (arith, h))
ordered B B h = (omega arith, omega arith)
ordered B C h = (omega arith, omega arith)
ordered B D h = (omega arith, omega arith)
ordered B E h = (omega arith, omega arith)
ordered B F h = (omega arith, omega arith)
ordered C A h = absurd (omega (arith, h))
ordered C B h = absurd (omega (arith, h))
ordered C C h = (omega arith, omega arith)
ordered C D h = (omega arith, omega arith)
ordered C E h = (omega arith, omega arith)
ordered C F h = (omega arith, omega arith)
ordered D A h = absurd (omega (arith, h))
ordered D B h = absurd (omega (arith, h))
ordered D C h = absurd (omega (arith, h))
ordered D D h = (omega arith, omega arith)
ordered D E h = (omega arith, omega arith)
ordered D F h = (omega arith, omega arith)
ordered E A h = absurd (omega (arith, h))
ordered E B h = absurd (omega (arith, h))
ordered E C h = absurd (omega (arith, h))
ordered E D h = absurd (omega (arith, h))
ordered E E h = (omega arith, omega arith)
ordered E F h = (omega arith, omega arith)
ordered F A h = absurd (omega (arith, h))
ordered F B h = absurd (omega (arith, h))
ordered F C h = absurd (omega (arith, h))
ordered F D h = absurd (omega (arith, h))
ordered F E h = absurd (omega (arith, h))
ordered F F h = (omega arith, omega arith)

-- a span that is found in the first row, or in a later one
in_row : (test : Bool) (row : LetterRow) (rest : Option LetterRow) (letter : Letter) → option_map (λ (found : LetterRow). found.letter) (cond test (Some row) rest) ≡ Some letter
    → ((test ≡ true) × (row.letter ≡ letter)) ⊎ (option_map (λ (found : LetterRow). found.letter) rest ≡ Some letter)
in_row true row rest letter h = inl (refl, cc)
in_row false row rest letter h = inr h

bounds_of : (letter : Letter) (span from below : ℕ) → from ≡ from_of letter → below ≡ below_of letter → (nat_le from span && nat_lt span below) ≡ true → (from_of letter ≤ span) × (span < below_of letter)
bounds_of letter span from below e f h =
    let low : from ≤ span = grind (arith, nat_tests) in
    let high : span < below = grind (arith, nat_tests) in
    (subst (λ (n : ℕ). n ≤ span) e low, subst (λ (n : ℕ). span < n) f high)

found_in : (span : ℕ) (rows : List LetterRow) (letter : Letter) → AllByRecursion (λ row. (row.from ≡ from_of row.letter) × (row.below ≡ below_of row.letter)) rows
    → option_map (λ (found : LetterRow). found.letter) (find (is_in_row span) rows) ≡ Some letter → (from_of letter ≤ span) × (span < below_of letter)
found_in span [] letter all h = absurd (cc)
found_in span (row ∷ rows) letter all h =
    elim (in_row (is_in_row span row) row (find (is_in_row span) rows) letter h) [
      | inl here ↦ bounds_of letter span row.from row.below (all.0.0 ∙ ap from_of here.1) (all.0.1 ∙ ap below_of here.1) here.0
      | inr later ↦ found_in span rows letter all.1 later
    ]

-- a letter's span is within its bounds
in_bounds : (span : ℕ) (letter : Letter) → letter_for span ≡ Some letter → (from_of letter ≤ span) × (span < below_of letter)
in_bounds span letter h =
    found_in span letter_table letter ((refl, refl), ((refl, refl), ((refl, refl), ((refl, refl), ((refl, refl), ((refl, refl), tt)))))) h

-- a span is at least as wide as another, so every rule that holds of the other holds of it
pub record IsWider (span wide : ℕ) : Type 0 where
  pub order : span ≤ wide
  pub clear : clearance_of_span span ≤ clearance_of_span wide
  pub letter : (least : Letter) → is_letter_at_least least (letter_for span) ≡ true → is_letter_at_least least (letter_for wide) ≡ true

there : {X : Type 0} (found : Option X) → is_none found ≡ false → (x : X) × (found ≡ Some x)
there None h = absurd (cc)
there (Some x) h = (x, refl)

at_least : (rank a b : ℕ) → a ≤ b → nat_le rank a ≡ true → nat_le rank b ≡ true
at_least rank a b order h = grind (arith, nat_tests)

clear_of : (span : ℕ) (letter : Letter) → letter_for span ≡ Some letter → clearance_of_span span ≡ clearance_of_letter letter
clear_of span letter e = rw e refl

unclear : (span : ℕ) → letter_for span ≡ None → clearance_of_span span ≡ 0
unclear span e = rw e refl

wider_by : (span wide : ℕ) (found : Option Letter) (other : Letter) → letter_for span ≡ found → letter_for wide ≡ Some other → span ≤ wide → IsWider span wide
wider_by span wide None other none at less = record {
  order = less;
  clear = omega (arith, unclear span none);
  letter = λ least h. let no : ◌≡◌ {A = Bool} false true = subst (λ (found : Option Letter). is_letter_at_least least found ≡ true) none h in absurd (cc);
}
wider_by span wide (Some letter) other own at less =
    let low = in_bounds span letter own in
    let high = in_bounds wide other at in
    let order = ordered letter other (omega (arith, low.0, high.1, less)) in
    let clear = clear_of span letter own in
    let clear_w = clear_of wide other at in
    record {
      order = less;
      clear = omega (arith, clear, clear_w, order.1);
      letter = λ least h.
          let has : nat_le (letter_rank least) (letter_rank letter) ≡ true = subst (λ (found : Option Letter). is_letter_at_least least found ≡ true) own h in
          subst (λ (found : Option Letter). is_letter_at_least least found ≡ true) (sym at) (at_least (letter_rank least) (letter_rank letter) (letter_rank other) order.0 has);
    }

pub wide_as_itself : (span : ℕ) → IsWider span span
wide_as_itself span = record { order = omega arith; clear = omega arith; letter = λ least h. h }

-- a span is at most as wide as a greater one that has a letter
pub is_wider : (span wide : ℕ) → is_none (letter_for wide) ≡ false → span ≤ wide → IsWider span wide
is_wider span wide known less = let b = there (letter_for wide) known in wider_by span wide (letter_for span) b.0 refl b.1 less

near_by : (one : Bool) (d s t u v c e f g : ℕ) → s ≤ u → t ≤ v → c ≤ f → e ≤ g → (one && nat_lt d (s + t + 2 * max c e)) ≡ true → (one && nat_lt d (u + v + 2 * max f g)) ≡ true
near_by true d s t u v c e f g p q r o h = let lt : d < s + t + 2 * max c e = grind (arith, nat_tests) in let more : d < u + v + 2 * max f g = omega arith in grind (arith, nat_tests)
near_by false d s t u v c e f g p q r o h = absurd (cc)

near_wider : (x y : StandRow) (k l u v : ℕ) → IsWider k u → IsWider l v → is_too_near x k y l ≡ true → is_too_near x u y v ≡ true
near_wider x y k l u v wide_k wide_l h =
    near_by (bytes_eq x.frontage y.frontage) (2 * distance x.centre y.centre) k l u v (clearance_of_span k) (clearance_of_span l) (clearance_of_span u) (clearance_of_span v)
    wide_k.order wide_l.order wide_k.clear wide_l.clear h

both : (a b : Bool) → (a && b) ≡ true → (a ≡ true) × (b ≡ true)
both true b h = (refl, h)
both false b h = absurd (cc)

so_wider : (pair : PairRow) (x y : StandRow) (k l u v : ℕ) → IsWider k u → IsWider l v → is_restricted_so pair x k y l ≡ true → is_restricted_so pair x u y v ≡ true
so_wider pair x y k l u v wide_k wide_l h =
    let last = both (bytes_eq x.name pair.a && bytes_eq y.name pair.b && has_letter pair.la k) (has_letter pair.lb l) h in
    let third = both (bytes_eq x.name pair.a && bytes_eq y.name pair.b) (has_letter pair.la k) last.0 in
    rw (third.0, wide_k.letter pair.la third.1, wide_l.letter pair.lb last.1) refl

either : (a b c d : Bool) → (a ≡ true → c ≡ true) → (b ≡ true → d ≡ true) → (a || b) ≡ true → (c || d) ≡ true
either true b c d f g h = let first : c ≡ true = f refl in rw first refl
either false b true d f g h = refl
either false b false d f g h = g h

restricted_wider : (x y : StandRow) (k l u v : ℕ) (pairs : List PairRow) → IsWider k u → IsWider l v → list_any (is_restricted x k y l) pairs ≡ true → list_any (is_restricted x u y v) pairs ≡ true
restricted_wider x y k l u v [] wide_k wide_l h = h
restricted_wider x y k l u v (pair ∷ pairs) wide_k wide_l h =
    either (is_restricted x k y l pair) (list_any (is_restricted x k y l) pairs) (is_restricted x u y v pair) (list_any (is_restricted x u y v) pairs)
    (either (is_restricted_so pair x k y l) (is_restricted_so pair y l x k) (is_restricted_so pair x u y v) (is_restricted_so pair y v x u)
    (so_wider pair x y k l u v wide_k wide_l) (so_wider pair y x l k v u wide_l wide_k))
    (restricted_wider x y k l u v pairs wide_k wide_l) h

-- if a rule holds by some conditions, it or an earlier rule holds by weaker ones
rule_by : (one split near near_w paired paired_w : Bool) (rule : Rule) → (near ≡ true → near_w ≡ true) → (paired ≡ true → paired_w ≡ true)
    → ◌≡◌ {A = Option Rule} (if one then Some Same else (if split then Some Split else (if near then Some Clearance else (if paired then Some Pair else None)))) (Some rule)
    → (other : Rule) × (◌≡◌ {A = Option Rule} (if one then Some Same else (if split then Some Split else (if near_w then Some Clearance else (if paired_w then Some Pair else None)))) (Some other))
rule_by true split near near_w paired paired_w rule f g h = (Same, refl)
rule_by false true near near_w paired paired_w rule f g h = (Split, refl)
rule_by false false near true paired paired_w rule f g h = (Clearance, refl)
rule_by false false true false paired paired_w rule f g h = absurd (cc (f refl))
rule_by false false false false paired true rule f g h = (Pair, refl)
rule_by false false false false true false rule f g h = absurd (cc (g refl))
rule_by false false false false false false rule f g h = absurd (cc)

-- if some aircraft have a rule, so have wider ones
pub rule_wider : (pairs : List PairRow) (one : Bool) (x y : StandRow) (k l u v : ℕ) (rule : Rule) → IsWider k u → IsWider l v → rule_between pairs one x k y l ≡ Some rule
    → (other : Rule) × (rule_between pairs one x u y v ≡ Some other)
rule_wider pairs one x y k l u v rule wide_k wide_l h =
    rule_by one (is_half_of x y || is_half_of y x) (is_too_near x k y l) (is_too_near x u y v) (list_any (is_restricted x k y l) pairs) (list_any (is_restricted x u y v) pairs) rule
    (near_wider x y k l u v wide_k wide_l) (restricted_wider x y k l u v pairs wide_k wide_l) h
