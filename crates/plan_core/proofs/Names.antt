-- The places of names as visits are put in.
use Rattle.std.proofs.Common.{◌≡◌, ◌≤◌, ◌<◌, ◌+◌, ◌==◌, ◌∙◌, ℕ, zero, suc, Bool, true, false, cond, not, List, [], ◌∷◌, ◌++◌, arith, ap, drop, length, length-set, length-take, refl, subst, sym, take, Option, None, Some}
use Rattle.std.specs.Prelude.{nat_lt, position, slice_get, slice_index_or, slice_set}
use Rattle.std.specs.BTreeMap.{BTreeMap, get, is_at}
use Rattle.std.specs.Cmp.Lexicographic.{bytes_decides, nat_list_eq_equiv, slice_cmp, texts_ties}
use Rattle.std.specs.List.{position_or_len}
use Rattle.std.specs.Option.{option_or}
use Rattle.std.specs.Ordering.{nat_cmp}
use Rattle.std.specs.Str.{bytes_eq}
use Rattle.std.proofs.lemmas.Bool.Decides.{nat_tests}
use Rattle.std.proofs.lemmas.List.{get_or-take, length_push, length-take-le, take-append-drop, take-append-le, take_more}
use Rattle.std.proofs.lemmas.List.Folds.{find-append, find_at, position_or_len_push}
use Rattle.std.proofs.lemmas.List.Sums.{prefix_len-le-length}
use Rattle.std.proofs.lemmas.Option.{slice_get_read}
use Rattle.visit_book.specs.declared.visits.Visit.{Visit}
use Rattle.plan_core.specs.Names.{HaveDifferentNames, has_name, visit_named}
use Rattle.plan_core.specs.Visits.{AreNamed}
use Rattle.plan_core.proofs.ByNumber.{found_by, not_found_by}

-- whether two names are the same does not depend on their order
name_either_way : (a b : List ℕ) → bytes_eq a b ≡ bytes_eq b a
name_either_way a b = nat_list_eq_equiv.symm a b

found_then : (b : Bool) (x : Visit) (rest : Option Visit) → cond b (Some x) rest ≡ None → (b ≡ false) × (rest ≡ None)
found_then true x rest e = absurd (cc)
found_then false x rest e = (refl, e)

-- a name that no visit has is still had by none after one is replaced by one of its name
pub unnamed_set : (name : List ℕ) (visits : List Visit) (i : ℕ) (old new : Visit) → slice_get visits i ≡ Some old → new.name ≡ old.name
    → visit_named visits name ≡ None → visit_named (slice_set visits i new) name ≡ None
unnamed_set name [] i old new at same none = refl
unnamed_set name (x ∷ visits) zero old new at same none =
    let is : x ≡ old = cc in
    let first = found_then (has_name name x) x (visit_named visits name) none in
    let other : has_name name new ≡ false = ap (bytes_eq name) (same ∙ ap (λ (v : Visit). v.name) (sym is)) ∙ first.0 in
    rw other first.1
unnamed_set name (x ∷ visits) (suc i) old new at same none =
    let first = found_then (has_name name x) x (visit_named visits name) none in
    rw first.0 (unnamed_set name visits i old new at same first.1)

-- visits keep different names after one is replaced by one of its name
pub different_set : (visits : List Visit) (i : ℕ) (old new : Visit) → slice_get visits i ≡ Some old → new.name ≡ old.name
    → HaveDifferentNames visits → HaveDifferentNames (slice_set visits i new)
different_set [] i old new at same h = tt
different_set (x ∷ visits) zero old new at same h =
    let is : x ≡ old = cc in
    let name : x.name ≡ new.name = ap (λ (v : Visit). v.name) is ∙ sym same in
    (subst (λ n. visit_named visits n ≡ None) name h.0, h.1)
different_set (x ∷ visits) (suc i) old new at same h =
    (unnamed_set x.name visits i old new at same h.0, different_set visits i old new at same h.1)

unnamed_push : (name : List ℕ) (visits : List Visit) (last : Visit) → visit_named visits name ≡ None → has_name name last ≡ false
    → visit_named (visits ++ last ∷ []) name ≡ None
unnamed_push name [] last none other = rw other refl
unnamed_push name (x ∷ visits) last none other =
    let first = found_then (has_name name x) x (visit_named visits name) none in
    rw first.0 (unnamed_push name visits last first.1 other)

-- visits have different names with one more of a new name
pub different_push : (visits : List Visit) (last : Visit) → visit_named visits last.name ≡ None → HaveDifferentNames visits → HaveDifferentNames (visits ++ last ∷ [])
different_push [] last new h = (refl, tt)
different_push (x ∷ visits) last new h =
    let first = found_then (has_name last.name x) x (visit_named visits last.name) new in
    (unnamed_push x.name visits last h.0 (name_either_way x.name last.name ∙ first.0), different_push visits last first.1 h.1)

push_by : (b : Bool) (k n : ℕ) → k ≤ n
    → cond (nat_lt (cond (k == n) (n + cond b 0 1) k) (n + 1)) (Some (cond (k == n) (n + cond b 0 1) k)) None ≡ option_or (cond (nat_lt k n) (Some k) None) (cond b (Some n) None)
push_by true k n h = grind (arith, nat_tests)
push_by false k n h = grind (arith, nat_tests)

-- the place of a name with one more visit
place_push : (name : List ℕ) (visits : List Visit) (last : Visit)
    → position (has_name name) (visits ++ last ∷ []) ≡ option_or (position (has_name name) visits) (cond (has_name name last) (Some (length visits)) None)
place_push name visits last =
    let few : position_or_len (has_name name) visits ≤ length visits = prefix_len-le-length _ visits in
    rw (position_or_len_push (has_name name) visits last, length_push visits last) (push_by (has_name name last) (position_or_len (has_name name) visits) (length visits) few)

none_or : (found : Option ℕ) → option_or found None ≡ found
none_or None = refl
none_or (Some x) = refl

same_by : (b : Bool) (place : ℕ) (before : Option ℕ) → (b ≡ true → before ≡ None) → cond b (Some place) before ≡ option_or before (cond b (Some place) None)
same_by true place before new = rw (new refl) refl
same_by false place before new = sym (none_or before)

none_past : (visits : List Visit) (place : ℕ) → slice_get visits place ≡ None → length visits ≤ place
none_past [] place e = omega arith
none_past (x ∷ visits) zero e = absurd (cc)
none_past (x ∷ visits) (suc place) e = omega (arith, none_past visits place e)

-- a name that no visit has has no place
unplaced : (name : List ℕ) (visits : List Visit) → visit_named visits name ≡ None → position (has_name name) visits ≡ None
unplaced name visits none =
    let past : length visits ≤ position_or_len (has_name name) visits =
    none_past visits (position_or_len (has_name name) visits) (sym (find_at (has_name name) visits) ∙ none) in
    let test : nat_lt (position_or_len (has_name name) visits) (length visits) ≡ false = grind (arith, nat_tests) in
    rw test refl

-- a map with one more place is the index of the visits with one more
index_push : (old new : BTreeMap (List ℕ) ℕ) (visits : List Visit) (last : Visit)
    → ((name : List ℕ) → get (slice_cmp nat_cmp) old name ≡ position (has_name name) visits) → visit_named visits last.name ≡ None
    → ((name : List ℕ) → get (slice_cmp nat_cmp) new name ≡ cond (is_at (slice_cmp nat_cmp last.name) name) (Some (length visits)) (get (slice_cmp nat_cmp) old name))
    → (name : List ℕ) → get (slice_cmp nat_cmp) new name ≡ position (has_name name) (visits ++ last ∷ [])
index_push old new visits last index none puts name =
    let same : is_at (slice_cmp nat_cmp last.name) name ≡ bytes_eq last.name name = sym (texts_ties last.name name) in
    let free : bytes_eq last.name name ≡ true → position (has_name name) visits ≡ None = λ is.
    subst (λ n. position (has_name n) visits ≡ None) ((bytes_decides last.name name).0 is) (unplaced last.name visits none) in
    puts name ∙ (rw (same, index name) (same_by (bytes_eq last.name name) (length visits) (position (has_name name) visits) free)
    ∙ (ap (λ b. option_or (position (has_name name) visits) (cond b (Some (length visits)) None)) (name_either_way last.name name)
    ∙ sym (place_push name visits last)))

-- a visit has the name of none that comes before it
other_than : (visits : List Visit) (i : ℕ) (last : Visit) (name : List ℕ) → visit_named visits name ≡ None → slice_get visits i ≡ Some last
    → has_name name last ≡ false
other_than [] i last name none at = absurd (cc)
other_than (x ∷ visits) zero last name none at =
    let same : x ≡ last = cc in
    subst (λ (v : Visit). has_name name v ≡ false) same (found_then (has_name name x) x (visit_named visits name) none).0
other_than (x ∷ visits) (suc i) last name none at =
    other_than visits i last name (found_then (has_name name x) x (visit_named visits name) none).1 at

new_there : (visits : List Visit) (i : ℕ) (last : Visit) → HaveDifferentNames visits → slice_get visits i ≡ Some last
    → visit_named (take i visits) last.name ≡ None
new_there [] i last h at = absurd (cc)
new_there (x ∷ visits) zero last h at = refl
new_there (x ∷ visits) (suc i) last h at =
    let other : has_name last.name x ≡ false = name_either_way last.name x.name ∙ other_than visits i last x.name h.0 at in
    rw other (new_there visits i last h.1 at)

-- the map with the place of one more visit
pub named_more : (old new : BTreeMap (List ℕ) ℕ) (visits : List Visit) (i : ℕ) (last : Visit) → AreNamed old i visits → i < length visits
    → last ≡ slice_index_or visits i last
    → ((name : List ℕ) → get (slice_cmp nat_cmp) new name ≡ cond (is_at (slice_cmp nat_cmp last.name) name) (Some i) (get (slice_cmp nat_cmp) old name))
    → AreNamed new (i + 1) visits
named_more old new visits i last h within is puts =
    let next : take (i + 1) visits ≡ take i visits ++ last ∷ [] = take_more visits i last within ∙ ap (λ (v : Visit). take i visits ++ v ∷ []) (sym is) in
    let size : i ≡ length (take i visits) = sym (length-take-le i visits (omega arith)) in
    record {
      different = h.different;
      few = omega arith;
      index = λ name.
          index_push old new (take i visits) last h.index (new_there visits i last h.different (slice_get_read visits (length visits) i last refl within is))
          (λ n. puts n ∙ ap (λ (place : ℕ). cond (is_at (slice_cmp nat_cmp last.name) n) (Some place) (get (slice_cmp nat_cmp) old n)) size) name
          ∙ ap (position (has_name name)) (sym next);
    }

-- a visit that comes last and is not in the map
pub named_push : (places : BTreeMap (List ℕ) ℕ) (named : ℕ) (visits : List Visit) (last : Visit) → AreNamed places named visits
    → visit_named visits last.name ≡ None → AreNamed places named (visits ++ last ∷ [])
named_push places named visits last h new = record {
  different = different_push visits last new h.different;
  few = omega (arith, h.few, length_push visits last);
  index = λ name. h.index name ∙ ap (position (has_name name)) (sym (take-append-le named visits (last ∷ []) h.few));
}

place_kept : (name : List ℕ) (n : ℕ) (visits : List Visit) (i : ℕ) (old new : Visit) → slice_get visits i ≡ Some old → new.name ≡ old.name
    → position_or_len (has_name name) (take n (slice_set visits i new)) ≡ position_or_len (has_name name) (take n visits)
place_kept name zero visits i old new at same = refl
place_kept name (suc n) [] i old new at same = refl
place_kept name (suc n) (x ∷ visits) zero old new at same =
    let is : x ≡ old = cc in
    ap (λ b. cond (not b) (1 + position_or_len (has_name name) (take n visits)) 0) (ap (bytes_eq name) (same ∙ ap (λ (v : Visit). v.name) (sym is)))
place_kept name (suc n) (x ∷ visits) (suc i) old new at same =
    ap (λ k. cond (not (has_name name x)) (1 + k) 0) (place_kept name n visits i old new at same)

-- a visit that is replaced by one of its name
pub named_set : (places : BTreeMap (List ℕ) ℕ) (named : ℕ) (visits : List Visit) (i : ℕ) (old new : Visit) → AreNamed places named visits
    → slice_get visits i ≡ Some old → new.name ≡ old.name → AreNamed places named (slice_set visits i new)
named_set places named visits i old new h at same =
    let size : length (take named (slice_set visits i new)) ≡ length (take named visits) =
    omega (arith, length-take named (slice_set visits i new), length-take named visits, length-set visits i new) in
    record {
      different = different_set visits i old new at same h.different;
      few = omega (arith, h.few, length-set visits i new);
      index = λ name. h.index name ∙ sym (rw (place_kept name named visits i old new at same, size) refl);
    }

-- a name is found among the first visits, or else among the others
named_split : (visits : List Visit) (named : ℕ) (name : List ℕ)
    → visit_named visits name ≡ option_or (visit_named (take named visits) name) (visit_named (drop named visits) name)
named_split visits named name =
    ap (λ (vs : List Visit). visit_named vs name) (sym (take-append-drop named visits)) ∙ find-append (has_name name) (take named visits) (drop named visits)

pub named_first : (visits : List Visit) (named : ℕ) (name : List ℕ) (place : ℕ) (d : Visit) → position (has_name name) (take named visits) ≡ Some place
    → (place < length visits) × (visit_named visits name ≡ Some (slice_index_or visits place d))
named_first visits named name place d at =
    let found = found_by (has_name name) (take named visits) place d at in
    let size : length (take named visits) ≡ _ = length-take named visits in
    let within : place < length (take named visits) = found.0 in
    let there : slice_index_or (take named visits) place d ≡ slice_index_or visits place d = get_or-take named visits place d (omega arith) in (
      omega arith,
      rw (named_split visits named name, found.1) (ap (λ (v : Visit). Some v) there),
    )

pub named_later : (visits : List Visit) (named : ℕ) (name : List ℕ) → position (has_name name) (take named visits) ≡ None
    → visit_named visits name ≡ visit_named (drop named visits) name
named_later visits named name at = rw (named_split visits named name, not_found_by (has_name name) (take named visits) at) refl
