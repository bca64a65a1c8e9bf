-- The links of stands, by places instead of names.
use Rattle.std.specs.Prelude.{◌≡◌, ◌==◌, ◌&&◌, ◌||◌, ◌*◌, ◌+◌, max, ℕ, Bool, false, nat_lt, List, [], Option, None, Some, slice_get, unwrap_or, option_and_then, if◌then◌else◌}
use Rattle.std.specs.List.{list_any}
use Rattle.apron_rules.specs.declared.links.StandLinks.{StandLinks}
use Rattle.apron_rules.specs.declared.links.StandPair.{StandPair}
use Rattle.apron_rules.specs.declared.parts.PairRow.{PairRow}
use Rattle.apron_rules.specs.declared.parts.StandRow.{StandRow}
use Rattle.apron_rules.specs.declared.rules.Rule.{Rule}
use Rattle.apron_rules.specs.declared.rules.Rule.TheVariants.{Same, Split, Clearance, Pair}
use Rattle.apron_rules.specs.Names.{place_of}
use Rattle.apron_base.specs.Letter.{clearance_of_span}
use Rattle.apron_rules.specs.Rules.{distance, has_letter}

-- the place is the one that was found
abbrev pub is_place : ℕ → Option ℕ → Bool
is_place s None = false
is_place s (Some place) = s == place

-- both were found, at the same place
abbrev pub is_one_place : Option ℕ → Option ℕ → Bool
is_one_place None found = false
is_one_place (Some place) found = is_place place found

-- the place of the stand that the row is a half of
abbrev pub whole_of : List (List ℕ) → StandRow → Option ℕ
whole_of stands row = option_and_then (λ name. place_of name stands) row.half_of

-- the places of a row's frontage and whole among these names, and its centreline
abbrev pub links_of : List (List ℕ) → List (List ℕ) → StandRow → StandLinks
links_of frontages stands row = record {
  frontage = place_of row.frontage frontages;
  centre = row.centre;
  whole = whole_of stands row;
}

-- one of the stands at the places s and s2 is a half of the other
abbrev pub is_split_at : ℕ → StandLinks → ℕ → StandLinks → Bool
is_split_at s x s2 y = is_place s2 x.whole || is_place s y.whole

-- the stands are on the same frontage, and aircraft of the spans k and l come nearer to each other
-- than the greater clearance
abbrev pub is_near_at : StandLinks → ℕ → StandLinks → ℕ → Bool
is_near_at x k y l = is_one_place x.frontage y.frontage
    && nat_lt (2 * distance x.centre y.centre)
    (k + l + 2 * max (clearance_of_span k) (clearance_of_span l))

-- the restrictions of the stand at a place
abbrev pub pairs_at : List (List StandPair) → ℕ → List StandPair
pairs_at pairs s = unwrap_or (slice_get pairs s) []

-- the restriction bars span k on its own stand and span l on the other one
abbrev pub is_barred : ℕ → ℕ → ℕ → StandPair → Bool
is_barred other k l pair = other == pair.other && has_letter pair.own k && has_letter pair.least l

-- the first rule that holds
abbrev pub first_rule : Bool → Bool → Bool → Bool → Option Rule
first_rule is_one is_split is_near is_paired =
    if is_one then Some Same
    else (if is_split then Some Split
    else (if is_near then Some Clearance
    else (if is_paired then Some Pair else None)))

-- the restriction is of the stands at the two places in this order, and both spans have its letters
-- or greater
abbrev pub is_restricted_so_at : List (List ℕ) → PairRow → ℕ → ℕ → ℕ → ℕ → Bool
is_restricted_so_at stands pair s k s2 l =
    is_place s (place_of pair.a stands) && is_place s2 (place_of pair.b stands)
    && has_letter pair.la k && has_letter pair.lb l

-- the same in either order
abbrev pub is_restricted_at : List (List ℕ) → ℕ → ℕ → ℕ → ℕ → PairRow → Bool
is_restricted_at stands s k s2 l pair = is_restricted_so_at stands pair s k s2 l
    || is_restricted_so_at stands pair s2 l s k

-- each stand has the restrictions that name it
abbrev pub ArePairs : List (List ℕ) → List PairRow → List (List StandPair) → Type 0
ArePairs stands rows pairs = (s s2 k l : ℕ)
    → list_any (is_barred s2 k l) (pairs_at pairs s)
    ≡ list_any (is_restricted_at stands s k s2 l) rows
