-- The names and flights of visits as one is put in, and the visit that is found by them.
use Rattle.std.proofs.Common.{◌≡◌, ◌<◌, ◌+◌, ◌-◌, ◌&&◌, ◌∙◌, ◌∷◌, [], ℕ, Bool, true, false, cond, not, List, None, Option, Some, ap, arith, length, map, nat_lt, refl, subst, sym}
use Rattle.std.specs.Prelude.{find, option_map, position, slice_get, slice_index_or}
use Rattle.std.specs.BTreeMap.{BTreeMap}
use Rattle.std.specs.List.{position_or_len}
use Rattle.std.proofs.lemmas.Bool.Decides.{nat_tests}
use Rattle.std.proofs.lemmas.List.{length-map, map-set, map_push}
use Rattle.std.proofs.lemmas.Option.{slice_get-map, slice_get_past}
use Rattle.visit_book.specs.declared.visits.Key.{Key}
use Rattle.visit_book.specs.declared.visits.NewVisit.{NewVisit}
use Rattle.visit_book.specs.declared.visits.Visit.{Visit}
use Rattle.visit_book.specs.Ends.{is_live}
use Rattle.visit_book.specs.Flights.{is_by}
use Rattle.visit_book.specs.NewVisits.{new_of}
use Rattle.visit_book.specs.Numbers.{IsNumbered}
use Rattle.plan_core.specs.FlightPlaces.{KeepsKey, put_key}
use Rattle.plan_core.specs.PlanState.{KeepsOrAdds, put_one}
use Rattle.plan_core.specs.Visits.{AreListed, AreNamed, IsThereOrNext, arrival_of, departure_of}
use Rattle.plan_core.proofs.ByNumber.{found_by, not_found_by}
use Rattle.plan_core.proofs.Names.{named_push, named_set}
use Rattle.plan_core.proofs.Puts.{Replaces, adds, next, put_case, put_one_numbered, replaces, same_name, there}

-- the keys as a visit is put in
keys_put : (key_of : Visit → Option Key) (visits : List Visit) (v : Visit) → IsThereOrNext (length visits) v
    → map key_of (put_one visits v) ≡ put_key (map key_of visits) (v.number.0 - 1) (key_of v)
keys_put key_of visits v h =
    let size : length (map key_of visits) ≡ length visits = length-map visits key_of in
    elim (put_case visits v h) [
      | there within is ↦ (let below : nat_lt (v.number.0 - 1) (length (map key_of visits)) ≡ true = grind (arith, nat_tests, size, within, h.0) in
          ap (map key_of) is ∙ (map-set key_of visits (v.number.0 - 1) v ∙ sym (rw below refl)))
      | next past is ↦ (let above : nat_lt (v.number.0 - 1) (length (map key_of visits)) ≡ false = grind (arith, nat_tests, size, past) in
          ap (map key_of) is ∙ (map_push key_of visits v ∙ sym (rw above refl)))
    ]

-- the names stay in the map
named_put : (places : BTreeMap (List ℕ) ℕ) (named : ℕ) (visits : List Visit) (v : Visit) → AreNamed places named visits → IsNumbered visits
    → IsThereOrNext (length visits) v → KeepsOrAdds visits v → AreNamed places named (put_one visits v)
named_put places named visits v h numbered here same =
    elim (put_case visits v here) [
      | there within is ↦ (let r : Replaces visits v = replaces visits v numbered here.0 within same in
          subst (AreNamed places named) (sym is) (named_set places named visits (v.number.0 - 1) r.old v h r.at (same_name v r.old r.same)))
      | next past is ↦ subst (AreNamed places named) (sym is) (named_push places named visits v h (adds visits v numbered (omega arith) same))
    ]

-- the visits, their names and their keys stay listed
pub listed_put : (places : BTreeMap (List ℕ) ℕ) (named : ℕ) (arrivals departures : List (Option Key)) (visits : List Visit) (v : Visit)
    → AreListed places named arrivals departures visits → IsThereOrNext (length visits) v → KeepsOrAdds visits v
    → AreListed places named (put_key arrivals (v.number.0 - 1) (arrival_of v)) (put_key departures (v.number.0 - 1) (departure_of v)) (put_one visits v)
listed_put places named arrivals departures visits v h here same = record {
  numbered = put_one_numbered visits v here h.numbered;
  names = named_put places named visits v h.names h.numbered here same;
  arriving = keys_put arrival_of visits v here ∙ ap (λ keys. put_key keys (v.number.0 - 1) (arrival_of v)) h.arriving;
  departing = keys_put departure_of visits v here ∙ ap (λ keys. put_key keys (v.number.0 - 1) (departure_of v)) h.departing;
}

if_live : (live : Bool) (found : Option Key) (key : Key) → cond live found None ≡ Some key → found ≡ Some key
if_live true found key is = is
if_live false found key is = absurd (cc)

same_of : (key_of : NewVisit → Option Key) (old v : Visit) (live was : Bool) (key other : Key)
    → key_of (new_of v) ≡ key_of (new_of old) → cond was (key_of (new_of old)) None ≡ Some key → cond live (key_of (new_of v)) None ≡ Some other → key ≡ other
same_of key_of old v live was key other same before after =
    let first : key_of (new_of old) ≡ Some key = if_live was (key_of (new_of old)) key before in
    let second : key_of (new_of v) ≡ Some other = if_live live (key_of (new_of v)) other after in
    cc

-- a visit that takes the place of its number has the flights of the one that was there
pub key_kept : (key_of : NewVisit → Option Key) (visits : List Visit) (v : Visit) → IsNumbered visits → IsThereOrNext (length visits) v → KeepsOrAdds visits v
    → KeepsKey (map (λ (w : Visit). cond (is_live w) (key_of (new_of w)) None) visits) (v.number.0 - 1) (cond (is_live v) (key_of (new_of v)) None)
key_kept key_of visits v numbered here same old new was is =
    let live_key : Visit → Option Key = λ w. cond (is_live w) (key_of (new_of w)) None in
    elim (put_case visits v here) [
      | there within e ↦ (let r : Replaces visits v = replaces visits v numbered here.0 within same in
          let found : Some (live_key r.old) ≡ Some (Some old) = sym (slice_get-map live_key visits (v.number.0 - 1) ∙ ap (option_map live_key) r.at) ∙ was in
          let before : live_key r.old ≡ Some old = cc in
          same_of key_of r.old v (is_live v) (is_live r.old) old new (ap key_of r.same.new) before is)
      | next past e ↦ (let none : slice_get (map live_key visits) (v.number.0 - 1) ≡ None = slice_get_past (map live_key visits) (v.number.0 - 1) (omega (arith, length-map visits live_key)) in
          let never : None ≡ Some (Some old) = sym none ∙ was in absurd (cc))
    ]

position_map : {X : Type 0} (test : X → Bool) (f : Visit → X) (visits : List Visit) → position_or_len test (map f visits) ≡ position_or_len (λ v. test (f v)) visits
position_map test f [] = refl
position_map test f (v ∷ visits) = ap (λ k. cond (not (test (f v))) (1 + k) 0) (position_map test f visits)

live_by : (live : Bool) (key : Key) (found : Option Key) → is_by key (cond live found None) ≡ (live && is_by key found)
live_by true key found = refl
live_by false key found = refl

-- the place of a key among the keys of live visits is the place of the first live visit of its
-- flight
places_same : (key_of : Visit → Option Key) (visits : List Visit) (keys : List (Option Key)) (key : Key)
    → map (λ (v : Visit). cond (is_live v) (key_of v) None) visits ≡ keys
    → position (is_by key) keys ≡ position (λ v. is_live v && is_by key (key_of v)) visits
places_same key_of visits keys key is =
    let live_key : Visit → Option Key = λ v. cond (is_live v) (key_of v) None in
    let size : length (map live_key visits) ≡ length visits = length-map visits live_key in
    let same : position_or_len (is_by key) (map live_key visits) ≡ position_or_len (λ v. is_live v && is_by key (key_of v)) visits =
    position_map (is_by key) live_key visits
    ∙ ap (λ (test : Visit → Bool). position_or_len test visits) (λ i v. live_by (is_live v) key (key_of v) i) in
    ap (position (is_by key)) (sym is) ∙ rw (same, size) refl

-- the first live visit of a flight, by its place among the keys
pub live_found : (key_of : Visit → Option Key) (visits : List Visit) (keys : List (Option Key)) (key : Key) (place : ℕ) (d : Visit)
    → map (λ (v : Visit). cond (is_live v) (key_of v) None) visits ≡ keys → position (is_by key) keys ≡ Some place
    → (place < length visits) × (find (λ v. is_live v && is_by key (key_of v)) visits ≡ Some (slice_index_or visits place d))
live_found key_of visits keys key place d is at =
    found_by (λ v. is_live v && is_by key (key_of v)) visits place d (sym (places_same key_of visits keys key is) ∙ at)

pub none_live : (key_of : Visit → Option Key) (visits : List Visit) (keys : List (Option Key)) (key : Key)
    → map (λ (v : Visit). cond (is_live v) (key_of v) None) visits ≡ keys → position (is_by key) keys ≡ None
    → find (λ v. is_live v && is_by key (key_of v)) visits ≡ None
none_live key_of visits keys key is at =
    not_found_by (λ v. is_live v && is_by key (key_of v)) visits (sym (places_same key_of visits keys key is) ∙ at)
