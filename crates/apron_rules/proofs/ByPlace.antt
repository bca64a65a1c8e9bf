-- Places give what the names give.
use Rattle.std.proofs.Common.{◌≡◌, ◌∙◌, ◌<◌, ◌≤◌, ◌==◌, ◌+◌, ℕ, Bool, true, false, cond, List, [], ◌∷◌, ◌++◌, length, get_or, zero, suc, refl, sym, ap, subst, arith, append_assoc, Option, None, Some, if◌then◌else◌}
use Rattle.std.specs.Prelude.{is_some, find, slice_get, option_and_then, nat_lt, not}
use Rattle.std.specs.List.{list_any, position_or_len, prefix_len}
use Rattle.std.specs.Str.{bytes_eq}
use Rattle.std.specs.Cmp.Lexicographic.{bytes_decides}
use Rattle.std.proofs.lemmas.Bool.{ltb-true, ltb-false, false≢true}
use Rattle.std.proofs.lemmas.Bool.Decides.{nat_tests}
use Rattle.std.proofs.lemmas.List.{length_push, length-append, length-map, get_or_default}
use Rattle.std.proofs.lemmas.List.Folds.{prefix_len-append}
use Rattle.std.proofs.lemmas.List.Sums.{passes_at_first, prefix_len-le-length}
use Rattle.std.proofs.lemmas.Option.{cond_some, slice_get-map, slice_get_read}
use Rattle.std.specs.Option.{option_map}
use Rattle.apron_rules.specs.declared.links.StandLinks.{StandLinks}
use Rattle.apron_rules.specs.declared.links.StandPair.{StandPair}
use Rattle.apron_base.specs.declared.numbers.StandNo.{StandNo}
use Rattle.apron_base.specs.declared.numbers.TypeNo.{TypeNo}
use Rattle.apron_rules.specs.declared.parts.AirportParts.{AirportParts}
use Rattle.apron_rules.specs.declared.parts.PairRow.{PairRow}
use Rattle.apron_rules.specs.declared.parts.StandRow.{StandRow}
use Rattle.apron_rules.specs.declared.parts.TypeRow.{TypeRow}
use Rattle.apron_rules.specs.Names.{frontage_names, stand_names, place_of, is_known, is_named, repeated_after, first_repeated}
use Rattle.apron_rules.specs.Refusals.{first_found, unknown_of, unknown_of_stand, airport_fault}
use Rattle.apron_rules.specs.declared.rules.Wing.{Wing}
use Rattle.apron_rules.specs.Rules.{is_restricted, rule_between, breaks_with_wings, span_of}
use Rattle.apron_rules.specs.Kept.{IsLinked}
use Rattle.apron_rules.specs.Links.{is_place, is_one_place, links_of, is_split_at, is_near_at, pairs_at, is_barred, first_rule, is_restricted_at}
use Rattle.apron_rules.proofs.Symmetry.{bytes_eq_sym}
use Rattle.apron_rules.proofs.Airports.{left_none, unknown_none, stands_once}

-- the name at the place that is found is this name
at_place : (name : List ℕ) (names : List (List ℕ)) (i : ℕ) → place_of name names ≡ Some i → (other : List ℕ) → name ≡ get_or names i other
at_place name names i e other =
    let h = cond_some _ _ i e in
    let below : position_or_len (bytes_eq name) names < length names = ltb-true _ _ h.0 in
    let here : bytes_eq name (get_or names (position_or_len (bytes_eq name) names) other) ≡ true = passes_at_first (bytes_eq name) names other below in
    (bytes_decides name (get_or names i other)).0 (rw (sym h.1) here)

apart : (test : Bool) (i j : ℕ) → test ≡ (i == j) → (i ≡ j → ⊥) → test ≡ false
apart true i j e differ = absurd (differ (grind (arith, nat_tests)))
apart false i j e differ = refl

-- the names are the same exactly if their places are
same_by : (a b : List ℕ) (names : List (List ℕ)) (i : ℕ) (test : Bool) (found : Option ℕ) → place_of a names ≡ Some i → bytes_eq a b ≡ test → place_of b names ≡ found → test ≡ is_place i found
same_by a b names i true found at_a same at_b =
    let one : a ≡ b = (bytes_decides a b).0 same in
    let there : found ≡ Some i = sym at_b ∙ (ap (λ name. place_of name names) (sym one) ∙ at_a) in
    let itself : true ≡ (i == i) = grind (arith, nat_tests) in
    rw there itself
same_by a b names i false None at_a differ at_b = refl
same_by a b names i false (Some j) at_a differ at_b = sym (apart (i == j) i j refl (λ one. false≢true (sym differ ∙ (bytes_decides a b).1 (at_place a names i at_a [] ∙ (ap (λ n. get_or names n []) one ∙ sym (at_place b names j at_b []))))))

pub same_place : (a b : List ℕ) (names : List (List ℕ)) (i : ℕ) → place_of a names ≡ Some i → bytes_eq a b ≡ is_place i (place_of b names)
same_place a b names i at_a = same_by a b names i (bytes_eq a b) (place_of b names) at_a refl refl

itself : (name : List ℕ) → bytes_eq name name ≡ true
itself name = (bytes_decides name name).1 refl

not_found : (test : Bool) (k : ℕ) → is_some (cond test (Some k) None) ≡ false → test ≡ false
not_found true k h = absurd (false≢true (sym h))
not_found false k h = refl

-- a new name is found after the names before it
found_behind : (before rest : List (List ℕ)) (name : List ℕ) → is_known name before ≡ false → place_of name (before ++ name ∷ rest) ≡ Some (length before + 0)
found_behind before rest name new =
    let p : List ℕ → Bool = λ x. not (bytes_eq name x) in
    let past : length before ≤ prefix_len p before = ltb-false _ _ (not_found _ _ new) in
    let most : prefix_len p before ≤ length before = prefix_len-le-length p before in
    let all : prefix_len p before ≡ length before = omega (arith, past, most) in
    let whole : (length before == length before) ≡ true = grind (arith, nat_tests) in
    let none : prefix_len p (name ∷ rest) ≡ 0 = rw (itself name) refl in
    let place : prefix_len p (before ++ name ∷ rest) ≡ length before + 0 = prefix_len-append p before (name ∷ rest) ∙ (rw (all, whole, none) refl) in
    let inside : nat_lt (length before + 0) (length (before ++ name ∷ rest)) ≡ true = rw (length-append before (name ∷ rest)) (grind (arith, nat_tests)) in
    rw (place, inside) refl

new_by : (known : Bool) (name : List ℕ) (rest : Option (List ℕ)) → cond known (Some name) rest ≡ None → (known ≡ false) × (rest ≡ None)
new_by true name rest h = absurd (cc)
new_by false name rest h = (refl, h)

-- if no name occurs twice, each is found at its place
found_at : (before rest : List (List ℕ)) (i : ℕ) (name : List ℕ) → repeated_after before rest ≡ None → slice_get rest i ≡ Some name → place_of name (before ++ rest) ≡ Some (length before + i)
unfolding repeated_after
found_at before [] i name none at = absurd (cc)
found_at before (first ∷ rest) zero name none at =
    let same : first ≡ name = cc in
    rw (← same) (found_behind before rest first (new_by (is_known first before) first (repeated_after (before ++ first ∷ []) rest) none).0)
found_at before (first ∷ rest) (suc i) name none at =
    let more = (new_by (is_known first before) first (repeated_after (before ++ first ∷ []) rest) none).1 in
    let next : length (before ++ first ∷ []) + i ≡ length before + suc i = omega (arith, length_push before first) in
    let whole : (before ++ first ∷ []) ++ rest ≡ before ++ first ∷ rest = append_assoc before (first ∷ []) rest in
    rw (← next, ← whole) (found_at (before ++ first ∷ []) rest i name more at)

pub place_at : (names : List (List ℕ)) (i : ℕ) (name : List ℕ) → first_repeated names ≡ None → slice_get names i ≡ Some name → place_of name names ≡ Some i
place_at names i name none at = let plain : 0 + i ≡ i = omega arith in found_at [] names i name none at ∙ ap Some plain

-- if f finds nothing, it finds nothing in any row
nothing_by : {Row Found : Type 0} (f : Row → Option Found) (row : Row) (rest : Option Row) (here : Option Found) → f row ≡ here → option_and_then f (cond (is_some here) (Some row) rest) ≡ None
    → (here ≡ None) × (option_and_then f rest ≡ None)
nothing_by f row rest None e h = (refl, h)
nothing_by f row rest (Some x) e h = absurd (cc)

nothing_at : {Row Found : Type 0} (f : Row → Option Found) (rows : List Row) (i : ℕ) (row : Row) → first_found f rows ≡ None → slice_get rows i ≡ Some row → f row ≡ None
nothing_at f [] i row h at = absurd (cc)
nothing_at f (first ∷ rows) zero row h at =
    let same : first ≡ row = cc in
    subst (λ r. f r ≡ None) same (nothing_by f first (find (λ r. is_some (f r)) rows) (f first) refl h).0
nothing_at f (first ∷ rows) (suc i) row h at = nothing_at f rows i row (nothing_by f first (find (λ r. is_some (f r)) rows) (f first) refl h).1 at

known_by : (known : Bool) (name : List ℕ) → ◌≡◌ {A = Option (List ℕ)} (if known then None else Some name) None → known ≡ true
known_by true name h = refl
known_by false name h = absurd (cc)

frontage_known : (parts : AirportParts) (s : ℕ) (x : StandRow) → unknown_of parts ≡ None → slice_get parts.stands s ≡ Some x → is_known x.frontage (frontage_names parts) ≡ true
frontage_known parts s x none at =
    let row = nothing_at (unknown_of_stand (frontage_names parts) (stand_names parts)) parts.stands s x (left_none _ _ none) at in
    known_by _ x.frontage (left_none _ _ row)

one_by : (a b : List ℕ) (names : List (List ℕ)) (found : Option ℕ) → place_of a names ≡ found → is_some found ≡ true → is_one_place found (place_of b names) ≡ bytes_eq a b
one_by a b names None at known = absurd (false≢true known)
one_by a b names (Some i) at known = sym (same_place a b names i at)

-- a half is recognised by the place of its whole
half_is : (name : List ℕ) (names : List (List ℕ)) (s2 : ℕ) (half_of : Option (List ℕ)) → place_of name names ≡ Some s2 → is_place s2 (option_and_then (λ whole. place_of whole names) half_of) ≡ is_named half_of name
half_is name names s2 None at = refl
half_is name names s2 (Some whole) at = sym (same_place name whole names s2 at) ∙ bytes_eq_sym name whole

-- a restriction of two stands is recognised by their places
restricted_is : (names : List (List ℕ)) (s s2 : ℕ) (x y : StandRow) (k l : ℕ) (pairs : List PairRow) → place_of x.name names ≡ Some s → place_of y.name names ≡ Some s2
    → list_any (is_restricted_at names s k s2 l) pairs ≡ list_any (is_restricted x k y l) pairs
restricted_is names s s2 x y k l [] at_x at_y = refl
restricted_is names s s2 x y k l (pair ∷ pairs) at_x at_y =
    let here : is_restricted_at names s k s2 l pair ≡ is_restricted x k y l pair =
    rw (← same_place x.name pair.a names s at_x, ← same_place y.name pair.b names s2 at_y, ← same_place y.name pair.a names s2 at_y, ← same_place x.name pair.b names s at_x) refl in
    rw (here, restricted_is names s s2 x y k l pairs at_x at_y) refl

-- the place of a stand's name is the stand's number
stand_place : (parts : AirportParts) (s : ℕ) (x : StandRow) → airport_fault parts ≡ None → slice_get parts.stands s ≡ Some x → place_of x.name (stand_names parts) ≡ Some s
stand_place parts s x none at =
    place_at (stand_names parts) s x.name (stands_once parts none) (slice_get-map (λ (row : StandRow). row.name) parts.stands s ∙ ap (option_map (λ (row : StandRow). row.name)) at)

-- for two rows, places give what the names give
by_rows : (parts : AirportParts) (links : List StandLinks) (pairs : List (List StandPair)) → IsLinked parts links pairs
    → (s s2 : ℕ) (x y : StandRow) (k l : ℕ) → slice_get parts.stands s ≡ Some x → slice_get parts.stands s2 ≡ Some y
    → first_rule (s == s2) (is_split_at s (links_of (frontage_names parts) (stand_names parts) x) s2 (links_of (frontage_names parts) (stand_names parts) y)) (is_near_at (links_of (frontage_names parts) (stand_names parts) x) k (links_of (frontage_names parts) (stand_names parts) y) l) (list_any (is_barred s2 k l) (pairs_at pairs s))
    ≡ rule_between parts.pairs (s == s2) x k y l
by_rows parts links pairs kept s s2 x y k l at_x at_y =
    let none = kept.airport.faultless in
    let x_place = stand_place parts s x none at_x in
    let y_place = stand_place parts s2 y none at_y in
    let known = frontage_known parts s x (unknown_none parts none) at_x in
    rw (
      half_is y.name (stand_names parts) s2 x.half_of y_place,
      half_is x.name (stand_names parts) s y.half_of x_place,
      one_by x.frontage y.frontage (frontage_names parts) (place_of x.frontage (frontage_names parts)) refl known,
      kept.paired s s2 k l,
      restricted_is (stand_names parts) s s2 x y k l parts.pairs x_place y_place,
    ) refl

-- the row at a place within the list
pub row_at : {X : Type 0} (xs : List X) (i : ℕ) → i < length xs → (x : X) × (slice_get xs i ≡ Some x)
row_at [] i inside = absurd (omega (arith, inside))
row_at (x ∷ xs) zero inside = (x, refl)
row_at (x ∷ xs) (suc i) inside = row_at xs i (omega (arith, inside))

some_is : {X : Type 0} (x y : X) → Some x ≡ Some y → x ≡ y
some_is x y e = cc

-- the links at a stand's number are those of its row
links_at : (parts : AirportParts) (links : List StandLinks) (pairs : List (List StandPair)) → IsLinked parts links pairs
    → (s : ℕ) (row : StandRow) (x : StandLinks) → slice_get parts.stands s ≡ Some row → slice_get links s ≡ Some x → x ≡ links_of (frontage_names parts) (stand_names parts) row
links_at parts links pairs kept s row x at_row at =
    let f : StandRow → StandLinks = links_of (frontage_names parts) (stand_names parts) in
    some_is x (f row) (sym at ∙ (ap (λ (ls : List StandLinks). slice_get ls s) kept.linked ∙ (slice_get-map f parts.stands s ∙ ap (option_map f) at_row)))

-- the first rule by the places is the first rule
pub breaks_by_place : (parts : AirportParts) (links : List StandLinks) (pairs : List (List StandPair)) → IsLinked parts links pairs
    → (s : StandNo) (t : TypeNo) (w : Wing) (s2 : StandNo) (t2 : TypeNo) (w2 : Wing) → s.0 < length parts.stands → t.0 < length parts.types → s2.0 < length parts.stands → t2.0 < length parts.types
    → (d e : StandLinks) (k l : TypeRow) (own : List StandPair)
    → k ≡ get_or parts.types t.0 k → l ≡ get_or parts.types t2.0 l → own ≡ get_or pairs s.0 own
    → first_rule (s.0 == s2.0) (is_split_at s.0 (get_or links s.0 d) s2.0 (get_or links s2.0 e)) (is_near_at (get_or links s.0 d) (span_of w k) (get_or links s2.0 e) (span_of w2 l)) (list_any (is_barred s2.0 (span_of w k) (span_of w2 l)) own)
    ≡ breaks_with_wings parts s t w s2 t2 w2
breaks_by_place parts links pairs kept s t w s2 t2 w2 inside inside_t inside_2 inside_t2 d e k l own is_k is_l is_own =
    let x = get_or links s.0 d in
    let y = get_or links s2.0 e in
    let row = row_at parts.stands s.0 inside in
    let row_2 = row_at parts.stands s2.0 inside_2 in
    let f : StandRow → StandLinks = links_of (frontage_names parts) (stand_names parts) in
    let linked : length links ≡ length parts.stands = ap (λ (ls : List StandLinks). length ls) kept.linked ∙ length-map parts.stands f in
    let at_x : slice_get links s.0 ≡ Some x = slice_get_read links (length links) s.0 x refl (omega (arith, linked, inside)) (get_or_default links s.0 d x (omega (arith, linked, inside))) in
    let at_y : slice_get links s2.0 ≡ Some y = slice_get_read links (length links) s2.0 y refl (omega (arith, linked, inside_2)) (get_or_default links s2.0 e y (omega (arith, linked, inside_2))) in
    let at_k : slice_get parts.types t.0 ≡ Some k = slice_get_read parts.types (length parts.types) t.0 k refl inside_t is_k in
    let at_l : slice_get parts.types t2.0 ≡ Some l = slice_get_read parts.types (length parts.types) t2.0 l refl inside_t2 is_l in
    let at_own : slice_get pairs s.0 ≡ Some own = slice_get_read pairs (length pairs) s.0 own refl (omega (arith, kept.counted, inside)) is_own in
    let same_x = links_at parts links pairs kept s.0 row.0 x row.1 at_x in
    let same_y = links_at parts links pairs kept s2.0 row_2.0 y row_2.1 at_y in
    let rule = by_rows parts links pairs kept s.0 s2.0 row.0 row_2.0 (span_of w k) (span_of w2 l) row.1 row_2.1 in
    rw (at_k, at_l, row.1, row_2.1, same_x, same_y) (rw at_own at rule)
