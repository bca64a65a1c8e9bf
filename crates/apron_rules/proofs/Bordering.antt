-- The widest type excludes all that some two types exclude, so it decides the neighbours.
use Rattle.std.proofs.Common.{◌≡◌, ◌∙◌, ◌<◌, ◌≤◌, ◌+◌, ◌⊎◌, inl, inr, add-one, append-nil, ℕ, zero, suc, Bool, true, false, cond, List, [], ◌∷◌, ◌++◌, refl, sym, ap, subst, arith, Option, None, Some, length, get_or, if◌then◌else◌}
use Rattle.std.specs.Prelude.{All, Contains, IsSome, filter, find, is_none, is_some, not, slice_get}
use Rattle.std.specs.List.{list_any}
use Rattle.std.specs.Option.{option_map}
use Rattle.std.proofs.lemmas.Bool.{cases_lt}
use Rattle.std.proofs.lemmas.Bool.Decides.{nat_tests}
use Rattle.std.proofs.lemmas.List.Folds.{Any-from_list_any, list_any_at}
use Rattle.std.proofs.lemmas.List.{get_or_default, get_or_append_left, get_or_push, length_push}
use Rattle.std.proofs.lemmas.List.Elements.{All-filter, All-nil, All-push, All-weaker, Contains-append_left, Contains-push, filter-append}
use Rattle.apron_base.specs.Letter.{letter_for}
use Rattle.apron_base.specs.OptionChain.{◌>>=◌}
use Rattle.apron_base.specs.declared.numbers.StandNo.{StandNo}
use Rattle.apron_base.specs.declared.numbers.TypeNo.{TypeNo}
use Rattle.apron_rules.specs.declared.parts.AirportParts.{AirportParts}
use Rattle.apron_rules.specs.declared.parts.PairRow.{PairRow}
use Rattle.apron_rules.specs.declared.parts.StandRow.{StandRow}
use Rattle.apron_rules.specs.declared.parts.TypeRow.{TypeRow}
use Rattle.apron_rules.specs.declared.rules.Rule.{Rule}
use Rattle.apron_rules.specs.Neighbours.{breaks_with, first_stands, first_types, is_neighbour, neighbours_of}
use Rattle.apron_rules.specs.declared.rules.Wing.{Wing}
use Rattle.apron_rules.specs.declared.rules.Wing.TheVariants.{Full, Parked}
use Rattle.apron_rules.specs.Refusals.{airport_fault, is_fold_kept}
use Rattle.apron_rules.specs.Rules.{breaks_with_wings, rule_between, span_of, stand_at, type_at}
use Rattle.apron_rules.specs.Widest.{IsWidest, IsWidestBelow}
use Rattle.apron_rules.proofs.Airports.{folds_kept, spans_known}
use Rattle.apron_rules.proofs.ByPlace.{row_at}
use Rattle.apron_rules.proofs.Wider.{IsWider, is_wider, rule_wider, wide_as_itself}

-- the rule between four rows that exist
abbrev rule_of_rows : List PairRow → Bool → Option StandRow → Option TypeRow → Wing → Option StandRow → Option TypeRow → Wing → Option Rule
rule_of_rows pairs is_one stand kind wing other other_kind other_wing = do
  span ← option_map (span_of wing) kind
  other_span ← option_map (span_of other_wing) other_kind
  stand_row ← stand
  other_row ← other
  rule_between pairs is_one stand_row span other_row other_span

-- four rows that exist, and the rule between them
record HasRows (pairs : List PairRow) (one : Bool) (x : Option StandRow) (k : Option TypeRow) (w : Wing) (y : Option StandRow) (l : Option TypeRow) (w2 : Wing) (rule : Rule) : Type 0 where
  x_row : StandRow
  k_row : TypeRow
  y_row : StandRow
  l_row : TypeRow
  at_x : x ≡ Some x_row
  at_k : k ≡ Some k_row
  at_y : y ≡ Some y_row
  at_l : l ≡ Some l_row
  between : rule_between pairs one x_row (span_of w k_row) y_row (span_of w2 l_row) ≡ Some rule

rows_there : (pairs : List PairRow) (one : Bool) (x : Option StandRow) (k : Option TypeRow) (w : Wing) (y : Option StandRow) (l : Option TypeRow) (w2 : Wing) (rule : Rule)
    → rule_of_rows pairs one x k w y l w2 ≡ Some rule → HasRows pairs one x k w y l w2 rule
rows_there pairs one (Some x) (Some k) w (Some y) (Some l) w2 rule h =
    record { x_row = x; k_row = k; y_row = y; l_row = l; at_x = refl; at_k = refl; at_y = refl; at_l = refl; between = h }
rows_there pairs one x None w y l w2 rule h = absurd (cc)
rows_there pairs one x (Some k) w y None w2 rule h = absurd (cc)
rows_there pairs one None (Some k) w y (Some l) w2 rule h = absurd (cc)
rows_there pairs one (Some x) (Some k) w None (Some l) w2 rule h = absurd (cc)

-- a row that exists is within the list
row_within : {X : Type 0} (xs : List X) (i : ℕ) (x : X) → slice_get xs i ≡ Some x → (i < length xs) × (get_or xs i x ≡ x)
row_within [] i x h = absurd (cc)
row_within (y ∷ xs) zero x h = (omega arith, cc)
row_within (y ∷ xs) (suc i) x h = let later = row_within xs i x h in (omega (arith, later.0), later.1)

none_by : {X : Type 0} (test : Bool) (x : X) (rest : Option X) → cond test (Some x) rest ≡ None → (test ≡ false) × (rest ≡ None)
none_by true x rest h = absurd (cc)
none_by false x rest h = (refl, h)

none_found : {X : Type 0} (p : X → Bool) (xs : List X) (i : ℕ) (x : X) → find p xs ≡ None → slice_get xs i ≡ Some x → p x ≡ false
none_found p [] i x h at = absurd (cc)
none_found p (y ∷ xs) zero x h at = let same : y ≡ x = cc in subst (λ z. p z ≡ false) same (none_by (p y) y (find p xs) h).0
none_found p (y ∷ xs) (suc i) x h at = none_found p xs i x (none_by (p y) y (find p xs) h).1 at

-- each type has a letter
has_span : (airport : AirportParts) (i : ℕ) (row : TypeRow) → airport_fault airport ≡ None → slice_get airport.types i ≡ Some row → is_none (letter_for row.span) ≡ false
has_span airport i row none at = none_found (λ (row : TypeRow). is_none (letter_for row.span)) airport.types i row (spans_known airport none) at

rule_there : (pairs : List PairRow) (one : Bool) (x y : Option StandRow) (k l : Option TypeRow) (x_row y_row : StandRow) (k_row l_row : TypeRow) (w w2 : Wing) (rule : Rule)
    → x ≡ Some x_row → y ≡ Some y_row → k ≡ Some k_row → l ≡ Some l_row → rule_between pairs one x_row (span_of w k_row) y_row (span_of w2 l_row) ≡ Some rule
    → rule_of_rows pairs one x k w y l w2 ≡ Some rule
rule_there pairs one x y k l x_row y_row k_row l_row w w2 rule at_x at_y at_k at_l h = rw (at_x, at_y, at_k, at_l) h

kept_within : (row : TypeRow) → not (is_fold_kept row) ≡ false → row.parked ≤ row.span
kept_within row h = grind (arith, nat_tests)

-- folded wing tips make no type wider
parked_within : (airport : AirportParts) (i : ℕ) (row : TypeRow) (w : Wing) → airport_fault airport ≡ None → slice_get airport.types i ≡ Some row → span_of w row ≤ row.span
parked_within airport i row Full none at = omega arith
parked_within airport i row Parked none at = kept_within row (none_found (λ (row : TypeRow). not (is_fold_kept row)) airport.types i row (folds_kept airport none) at)

-- wing tips are unfolded, or the same as others
abbrev pub AreAsFull : Wing → Wing → Type 0
AreAsFull wing other = (wing ≡ Full) ⊎ (wing ≡ other)

full_wider : (airport : AirportParts) (i : ℕ) (row : TypeRow) (w v : Wing) → airport_fault airport ≡ None → slice_get airport.types i ≡ Some row → AreAsFull v w → IsWider (span_of w row) (span_of v row)
full_wider airport i row w v none at (inl full) =
    subst (λ (v : Wing). IsWider (span_of w row) (span_of v row)) (sym full) (is_wider (span_of w row) row.span (has_span airport i row none at) (parked_within airport i row w none at))
full_wider airport i row w v none at (inr same) = subst (λ (v : Wing). IsWider (span_of w row) (span_of v row)) (sym same) (wide_as_itself (span_of w row))

-- what types exclude with some wing tips folded, they exclude with these unfolded, perhaps by an
-- earlier rule
pub fuller_rule : (airport : AirportParts) → airport_fault airport ≡ None → (s : StandNo) (t : TypeNo) (w v : Wing) (s2 : StandNo) (t2 : TypeNo) (w2 v2 : Wing) (rule : Rule) → AreAsFull v w → AreAsFull v2 w2
    → breaks_with_wings airport s t w s2 t2 w2 ≡ Some rule → (other : Rule) × (breaks_with_wings airport s t v s2 t2 v2 ≡ Some other)
fuller_rule airport none s t w v s2 t2 w2 v2 rule full full_too h =
    let rows = rows_there airport.pairs _ (stand_at airport s) (type_at airport t) w (stand_at airport s2) (type_at airport t2) w2 rule h in
    let k = full_wider airport t.0 rows.k_row w v none rows.at_k full in
    let l = full_wider airport t2.0 rows.l_row w2 v2 none rows.at_l full_too in
    let found = rule_wider airport.pairs _ rows.x_row rows.y_row (span_of w rows.k_row) (span_of w2 rows.l_row) (span_of v rows.k_row) (span_of v2 rows.l_row) rule k l rows.between in
    (found.0, rule_there airport.pairs _ (stand_at airport s) (stand_at airport s2) (type_at airport t) (type_at airport t2) rows.x_row rows.y_row rows.k_row rows.l_row v v2 found.0 rows.at_x rows.at_y rows.at_k rows.at_l found.1)

-- what some two types exclude, the widest excludes with itself
pub widest_excludes : (airport : AirportParts) (w : TypeNo) (s s2 : StandNo) → airport_fault airport ≡ None → IsWidest airport.types w → (t t2 : TypeNo) (rule : Rule) → breaks_with_wings airport s t Full s2 t2 Full ≡ Some rule
    → (other : Rule) × (breaks_with_wings airport s w Full s2 w Full ≡ Some other)
widest_excludes airport w s s2 none widest t t2 rule h =
    let rows = rows_there airport.pairs _ (stand_at airport s) (type_at airport t) Full (stand_at airport s2) (type_at airport t2) Full rule h in
    let wide = row_at airport.types w.0 widest.inside in
    let wider : (i : ℕ) (k : TypeRow) → slice_get airport.types i ≡ Some k → k.span ≤ wide.0.span = λ i k at.
    (let within = row_within airport.types i k at in
    let own = row_within airport.types w.0 wide.0 wide.1 in
    let same : get_or airport.types w.0 k ≡ wide.0 = get_or_default airport.types w.0 k wide.0 widest.inside ∙ own.1 in
    omega (arith, widest.widest i k within.0, ap (λ (row : TypeRow). row.span) within.1, ap (λ (row : TypeRow). row.span) same)) in
    let known = has_span airport w.0 wide.0 none wide.1 in
    let k = is_wider rows.k_row.span wide.0.span known (wider t.0 rows.k_row rows.at_k) in
    let l = is_wider rows.l_row.span wide.0.span known (wider t2.0 rows.l_row rows.at_l) in
    let found = rule_wider airport.pairs _ rows.x_row rows.y_row rows.k_row.span rows.l_row.span wide.0.span wide.0.span rule k l rows.between in
    (found.0, rule_there airport.pairs _ (stand_at airport s) (stand_at airport s2) (type_at airport w) (type_at airport w) rows.x_row rows.y_row wide.0 wide.0 Full Full found.0 rows.at_x rows.at_y wide.1 wide.1 found.1)

passes_behind : {X : Type 0} (b : Bool) (y : X) (xs : List X) (x : X) → Contains xs x → Contains (cond b (y ∷ xs) xs) x
passes_behind true y xs x (k, inside, at) = (suc k, omega arith, at)
passes_behind false y xs x h = h

pub any_passes : {X : Type 0} (p : X → Bool) (xs : List X) (x : X) → Contains xs x → p x ≡ true → list_any p xs ≡ true
any_passes p xs x (k, inside, at) h = list_any_at p xs k x inside (subst (λ z. p z ≡ true) (sym at) h)

which_passes : {X : Type 0} (p : X → Bool) (xs : List X) → list_any p xs ≡ true → (x : X) × Contains xs x × (p x ≡ true)
which_passes p xs h = let found = Any-from_list_any p xs h in (found.1, (found.0, found.2, found.3), found.4)

type_among : (n : ℕ) (t : TypeNo) → t.0 < n → Contains (first_types n) t
type_among zero t below = absurd (omega arith)
type_among (suc n) t below =
    elim (cases_lt t.0 n) [
      | inl less ↦ Contains-append_left (first_types n) (record { 0 = n } ∷ []) t (type_among n t less)
      | inr most ↦ (let same : ◌≡◌ {A = TypeNo} (record { 0 = n }) t = ap (λ (k : ℕ). record { 0 = k }) (omega arith) in subst (Contains (first_types (suc n))) same (Contains-push (first_types n) (record { 0 = n })))
    ]

stand_among : (n : ℕ) (s : StandNo) → s.0 < n → Contains (first_stands n) s
stand_among zero s below = absurd (omega arith)
stand_among (suc n) s below =
    elim (cases_lt s.0 n) [
      | inl less ↦ Contains-append_left (first_stands n) (record { 0 = n } ∷ []) s (stand_among n s less)
      | inr most ↦ (let same : ◌≡◌ {A = StandNo} (record { 0 = n }) s = ap (λ (k : ℕ). record { 0 = k }) (omega arith) in subst (Contains (first_stands (suc n))) same (Contains-push (first_stands n) (record { 0 = n })))
    ]

stands_below : (n : ℕ) → All (λ s. s.0 < n) (first_stands n)
stands_below zero = All-nil (λ s. s.0 < 0)
stands_below (suc n) = All-push (λ s. s.0 < suc n) (first_stands n) (record { 0 = n }) (All-weaker (λ s. s.0 < n) (λ s. s.0 < suc n) (λ s h. omega arith) (first_stands n) (stands_below n)) (omega arith)

is_there : {X : Type 0} (found : Option X) → is_some found ≡ true → (x : X) × (found ≡ Some x)
is_there None h = absurd (cc)
is_there (Some x) h = (x, refl)

some_when : {X : Type 0} (found : Option X) (x : X) → found ≡ Some x → is_some found ≡ true
some_when found x e = rw e refl

-- two types with a rule on two stands are of the table, and make them neighbours
neighbour_when : (airport : AirportParts) (s s2 : StandNo) (t t2 : TypeNo) (rule : Rule) → breaks_with_wings airport s t Full s2 t2 Full ≡ Some rule → is_neighbour airport s s2 ≡ true
neighbour_when airport s s2 t t2 rule h =
    let rows = rows_there airport.pairs _ (stand_at airport s) (type_at airport t) Full (stand_at airport s2) (type_at airport t2) Full rule h in
    let count = length airport.types in
    let inside = row_within airport.types t.0 rows.k_row rows.at_k in
    let inside_2 = row_within airport.types t2.0 rows.l_row rows.at_l in
    any_passes (breaks_with airport s s2) (first_types count) t (type_among count t inside.0)
    (any_passes (λ u. is_some (breaks_with_wings airport s t Full s2 u Full)) (first_types count) t2 (type_among count t2 inside_2.0) (some_when _ rule h))

-- neighbours have two types with a rule on them
when_neighbour : (airport : AirportParts) (s s2 : StandNo) → is_neighbour airport s s2 ≡ true → (t t2 : TypeNo) × ((rule : Rule) × (breaks_with_wings airport s t Full s2 t2 Full ≡ Some rule))
when_neighbour airport s s2 h =
    let count = length airport.types in
    let first = which_passes (breaks_with airport s s2) (first_types count) h in
    let second = which_passes (λ u. is_some (breaks_with_wings airport s first.0 Full s2 u Full)) (first_types count) first.2 in
    let rule = is_there (breaks_with_wings airport s first.0 Full s2 second.0 Full) second.2 in
    (first.0, second.0, (rule.0, rule.1))

pub passes_filter : {X : Type 0} (p : X → Bool) (xs : List X) (x : X) → Contains xs x → p x ≡ true → Contains (filter p xs) x
passes_filter p [] x (k, inside, at) h = absurd (omega arith)
passes_filter p (y ∷ xs) x (zero, inside, at) h = let here : p y ≡ true = subst (λ z. p z ≡ true) (sym at) h in rw here (0, omega arith, at)
passes_filter p (y ∷ xs) x (suc k, inside, at) h = passes_behind (p y) y (filter p xs) x (passes_filter p xs x (k, omega arith, at) h)

passed_by : {X : Type 0} (p : X → Bool) (y : X) (xs : List X) (x : X) (b : Bool) → p y ≡ b → (Contains (filter p xs) x → Contains xs x × (p x ≡ true)) → Contains (cond b (y ∷ filter p xs) (filter p xs)) x → Contains (y ∷ xs) x × (p x ≡ true)
passed_by p y xs x true e rest (zero, inside, at) = ((0, omega arith, at), subst (λ z. p z ≡ true) at e)
passed_by p y xs x true e rest (suc k, inside, at) = let found = rest (k, omega arith, at) in ((suc found.0.0, omega (arith, found.0.1), found.0.2), found.1)
passed_by p y xs x false e rest h = let found = rest h in ((suc found.0.0, omega (arith, found.0.1), found.0.2), found.1)

-- what a filter keeps was in the list, and passes
pub filter_passed : {X : Type 0} (p : X → Bool) (xs : List X) (x : X) → Contains (filter p xs) x → Contains xs x × (p x ≡ true)
filter_passed p [] x (k, inside, at) = absurd (omega arith)
filter_passed p (y ∷ xs) x h = passed_by p y xs x (p y) refl (filter_passed p xs x) h

-- no stand with a rule is left out, whatever the wing tips
pub neighbour_listed : (airport : AirportParts) → airport_fault airport ≡ None → (s s2 : StandNo) (t : TypeNo) (w : Wing) (t2 : TypeNo) (w2 : Wing) (rule : Rule) → breaks_with_wings airport s t w s2 t2 w2 ≡ Some rule
    → Contains (neighbours_of airport s) s2
neighbour_listed airport none s s2 t w t2 w2 rule h =
    let rows = rows_there airport.pairs _ (stand_at airport s) (type_at airport t) w (stand_at airport s2) (type_at airport t2) w2 rule h in
    let inside = row_within airport.stands s2.0 rows.y_row rows.at_y in
    let full = fuller_rule airport none s t w Full s2 t2 w2 Full rule (inl refl) (inl refl) h in
    passes_filter (is_neighbour airport s) (first_stands (length airport.stands)) s2 (stand_among (length airport.stands) s2 inside.0) (neighbour_when airport s s2 t t2 full.0 full.1)

-- neighbours are stands of the airport
pub neighbours_within : (airport : AirportParts) (s : StandNo) → All (λ s2. s2.0 < length airport.stands) (neighbours_of airport s)
neighbours_within airport s = All-filter (is_neighbour airport s) (λ s2. s2.0 < length airport.stands) (first_stands (length airport.stands)) (stands_below (length airport.stands))

pub all_listed : (airport : AirportParts) (s : StandNo) (t : TypeNo) (w : Wing) (s2 : StandNo) (t2 : TypeNo) (w2 : Wing) → airport_fault airport ≡ None → IsSome (breaks_with_wings airport s t w s2 t2 w2)
    → Contains (neighbours_of airport s) s2
all_listed airport s t w s2 t2 w2 none some = let rule = is_there (breaks_with_wings airport s t w s2 t2 w2) some in neighbour_listed airport none s s2 t w t2 w2 rule.0 rule.1

pub no_others_listed : (airport : AirportParts) (s s2 : StandNo) → Contains (neighbours_of airport s) s2 → (t t2 : TypeNo) × IsSome (breaks_with_wings airport s t Full s2 t2 Full)
no_others_listed airport s s2 listed =
    let found = when_neighbour airport s s2 (filter_passed (is_neighbour airport s) (first_stands (length airport.stands)) s2 listed).1 in
    (found.0, found.1, some_when _ found.2.0 found.2.1)

same_tests : (a b : Bool) → (a ≡ true → b ≡ true) → (b ≡ true → a ≡ true) → a ≡ b
same_tests true true f g = refl
same_tests true false f g = sym (f refl)
same_tests false true f g = g refl
same_tests false false f g = refl

-- the widest type decides the neighbours
pub widest_tells : (airport : AirportParts) (s s2 : StandNo) (w : TypeNo) → airport_fault airport ≡ None → IsWidest airport.types w → is_some (breaks_with_wings airport s w Full s2 w Full) ≡ is_neighbour airport s s2
widest_tells airport s s2 w none widest =
    same_tests _ _ (λ some. let rule = is_there (breaks_with_wings airport s w Full s2 w Full) some in neighbour_when airport s s2 w w rule.0 rule.1)
    (λ is_one. let found = when_neighbour airport s s2 is_one in let rule = widest_excludes airport w s s2 none widest found.0 found.1 found.2.0 found.2.1 in some_when _ rule.0 rule.1)

next_by : (p : StandNo → Bool) (s : StandNo) (old new xs : List StandNo) (b : Bool) → b ≡ p s → old ≡ filter p xs → new ≡ (if b then old ++ s ∷ [] else old) → new ≡ filter p (xs ++ s ∷ [])
next_by p s old new xs true is before grown = grown ∙ (ap (λ ys. ys ++ s ∷ []) before ∙ sym (filter-append p xs (s ∷ []) ∙ (rw (← is) refl)))
next_by p s old new xs false is before grown = grown ∙ (before ∙ sym (filter-append p xs (s ∷ []) ∙ (rw (← is) (append-nil (filter p xs)))))

-- one more stand, which is a neighbour if the widest type has a rule
pub neighbours_next : (airport : AirportParts) (s other : StandNo) (w : TypeNo) (n : ℕ) (old new : List StandNo) (rule : Option Rule) → airport_fault airport ≡ None → IsWidest airport.types w → other.0 ≡ n
    → rule ≡ breaks_with_wings airport s w Full other w Full → new ≡ (if is_some rule then old ++ other ∷ [] else old) → old ≡ filter (is_neighbour airport s) (first_stands n) → new ≡ filter (is_neighbour airport s) (first_stands (n + 1))
neighbours_next airport s other w n old new rule none widest at is grown before =
    let same : ◌≡◌ {A = StandNo} other (record { 0 = n }) = ap (λ (k : ℕ). record { 0 = k }) at in
    let test : is_some rule ≡ is_neighbour airport s other = ap (λ (found : Option Rule). is_some found) is ∙ widest_tells airport s other w none widest in
    let next : first_stands n ++ other ∷ [] ≡ first_stands (n + 1) = ap (λ (x : StandNo). first_stands n ++ x ∷ []) same ∙ sym (rw add-one refl) in
    next_by (is_neighbour airport s) other old new (first_stands n) (is_some rule) test before grown ∙ ap (filter (is_neighbour airport s)) next

-- one more type, which is now the widest or not
pub widest_next : (types : List TypeRow) (widest i next : ℕ) (e f : TypeRow) → i < length types → widest < length types → IsWidestBelow types i widest
    → ((next ≡ i) × ((get_or types widest f).span < (get_or types i e).span)) ⊎ ((next ≡ widest) × ((get_or types i e).span ≤ (get_or types widest f).span)) → IsWidestBelow types (i + 1) next
widest_next types widest i next e f inside inside_w before here k d below =
    let own : (get_or types i e).span ≡ (get_or types i d).span = ap (λ (row : TypeRow). row.span) (get_or_default types i e d inside) in
    let old : (get_or types widest f).span ≡ (get_or types widest d).span = ap (λ (row : TypeRow). row.span) (get_or_default types widest f d inside_w) in
    let span : ℕ → ℕ = λ j. (get_or types j d).span in
    let upto : (k ≡ i) ⊎ (k < i) = (elim (cases_lt k i) [ inl less ↦ inr less | inr more ↦ inl (omega arith) ]) in
    elim here [
      | inl is_new ↦ (let new_span : span next ≡ span i = ap span is_new.0 in
          elim upto [
            | inl one ↦ (let at : span k ≡ span i = ap span one in omega arith)
            | inr less ↦ (let old_one = before k d less in omega (arith, is_new.1))
          ])
      | inr is_old ↦ (let new_span : span next ≡ span widest = ap span is_old.0 in
          elim upto [
            | inl one ↦ (let at : span k ≡ span i = ap span one in omega (arith, is_old.1))
            | inr less ↦ (let old_one = before k d less in omega arith)
          ])
    ]

more : (P : ℕ → Type 0) (n : ℕ) → ((k : ℕ) → k < n → P k) → P n → (k : ℕ) → k < n + 1 → P k
more P n before here k below = elim (cases_lt k n) [
  | inl less ↦ before k less
  | inr rest ↦ (let same : n ≡ k = omega arith in subst P same here)
]

-- the neighbours of one more stand
pub all_next : (airport : AirportParts) (n : ℕ) (s : StandNo) (old new : List (List StandNo)) (here : List StandNo) → s.0 ≡ n → new ≡ old ++ here ∷ [] → here ≡ neighbours_of airport s → length old ≡ n
    → ((t : StandNo) → t.0 < n → get_or old t.0 [] ≡ neighbours_of airport t) → (length new ≡ n + 1) × ((t : StandNo) → t.0 < n + 1 → get_or new t.0 [] ≡ neighbours_of airport t)
all_next airport n s old new here at grown are counted each =
    let each_new : (k : ℕ) → k < n + 1 → (t : StandNo) → t.0 ≡ k → get_or (old ++ here ∷ []) k [] ≡ neighbours_of airport t = more (λ k. (t : StandNo) → t.0 ≡ k → get_or (old ++ here ∷ []) k [] ≡ neighbours_of airport t) n
    (λ k less t e. get_or_append_left old (here ∷ []) [] k (omega arith) ∙ (subst (λ (j : ℕ). get_or old j [] ≡ neighbours_of airport t) e (each t (omega arith))))
    (λ t e. (let same : s ≡ t = ap (λ (k : ℕ). record { 0 = k }) (at ∙ sym e) in
    get_or_push old here [] n counted ∙ (are ∙ ap (neighbours_of airport) same))) in
    (omega (arith, ap length grown, length_push old here), λ t below. subst (λ (all : List (List StandNo)). get_or all t.0 [] ≡ neighbours_of airport t) (sym grown) (each_new t.0 below t refl))
