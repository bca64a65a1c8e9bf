-- Names with their places.
use Rattle.std.specs.Prelude.{◌≡◌, ◌⊎◌, ℕ, List, Option, None, Some, Result, Ok, Err, unwrap_or}
use Rattle.std.specs.Ordering.{nat_cmp}
use Rattle.std.specs.Cmp.Lexicographic.{slice_cmp}
use Rattle.std.specs.BTreeMap.{BTreeMap, get}
use Rattle.apron_rules.specs.Names.{place_of}
use Rattle.apron_rules.specs.Refusals.{halves_of}
use Rattle.apron_rules.specs.declared.parts.StandRow.{StandRow}
use Rattle.apron_rules.specs.declared.refusals.AirportFault.{AirportFault}
use Rattle.apron_rules.specs.declared.refusals.AirportFault.TheVariants.{Memory}

-- the map has each name at its place, and no other
abbrev pub IsPlaces : BTreeMap (List ℕ) ℕ → List (List ℕ) → Type 0
IsPlaces places names = (name : List ℕ) → get (slice_cmp nat_cmp) places name ≡ place_of name names

-- the check passes if there is no fault, and otherwise gives the fault, unless there is no memory
abbrev pub Checks : {A : Type 0} → Result A AirportFault → Option AirportFault → Type 0
Checks (Ok passed) fault = fault ≡ None
Checks (Err named) fault = (named ≡ Memory) ⊎ (fault ≡ Some named)

-- how many halves of a stand the map has, by its name
abbrev pub half_count : BTreeMap (List ℕ) ℕ → List ℕ → ℕ
half_count halves name = unwrap_or (get (slice_cmp nat_cmp) halves name) 0

-- the map has the number of halves of each stand
abbrev pub AreHalves : BTreeMap (List ℕ) ℕ → List StandRow → Type 0
AreHalves halves rows = (name : List ℕ) → half_count halves name ≡ halves_of name rows
