-- What a visit is added with is read exactly from its fields.
use Rattle.std.proofs.Common.{◌≡◌, ℕ, ◌<◌, true, List, [], ◌∷◌, ◌++◌, length, Option, refl, sym, ap, ◌∙◌, arith}
use Rattle.std.specs.Prelude.{nat_lt, nat_le}
use Rattle.std.specs.Int.{w8, w16, w32}
use Rattle.std.proofs.lemmas.Bool.{leb-true, le-leb}
use Rattle.std.proofs.lemmas.List.{append-nil}
use Rattle.apron_rules.specs.declared.parts.AirportParts.{AirportParts}
use Rattle.visit_book.specs.NewVisits.{IsNewVisit}
use Rattle.visit_book.specs.WellFormed.{greatest_class, plan_end}
use Rattle.visit_book.specs.declared.visits.Key.{Key}
use Rattle.visit_book.specs.declared.visits.NewVisit.{NewVisit}
use Rattle.entry_bytes.specs.Fields.{Field, limited_field, name_field, number_field}
use Rattle.entry_bytes.specs.Keys.{optional_key_fields}
use Rattle.entry_bytes.specs.NewVisits.{is_off_of, new_visit_fields}
use Rattle.entry_bytes.specs.Parsing.{parse_new_visit}
use Rattle.entry_bytes.specs.Readings.{byte, number, such_that}
use Rattle.entry_bytes.proofs.Fields.{reads_byte, reads_limited, reads_name, reads_number, reads_number-in, wide16, wide32}
use Rattle.entry_bytes.proofs.KeysSpelt.{optional_key-spells}
use Rattle.entry_bytes.proofs.Spells.{Anywhere, ReadsOne, Spells, Spells-as, Spells-give, Spells-one, Spells-then}

-- ---- the fields in their forms

reads_kind : (airport : AirportParts) → ReadsOne airport (such_that (λ n. nat_lt n (length airport.types)) (number w16)) (λ n. limited_field w16 n (λ airport. nat_lt n (length airport.types))) (λ n. Unit {0})
reads_kind airport = reads_limited (λ n airport. nat_lt n (length airport.types)) (reads_number airport w16 wide16) wide16.zero

reads_class : (airport : AirportParts) → ReadsOne airport (such_that (λ class. nat_le class greatest_class) byte) (number_field w8) (λ class. nat_le class greatest_class ≡ true)
reads_class airport = let small : 0 < 256 = omega arith in reads_number-in (λ class. nat_le class greatest_class) (reads_byte airport) (0, refl, small)

reads_on : (airport : AirportParts) → ReadsOne airport (such_that (λ n. nat_lt n (plan_end airport)) (number w32)) (λ n. limited_field w32 n (λ airport. nat_lt n (plan_end airport))) (λ n. Unit {0})
reads_on airport = reads_limited (λ n airport. nat_lt n (plan_end airport)) (reads_number airport w32 wide32) wide32.zero

reads_off : (airport : AirportParts) (kind on : ℕ) → ReadsOne airport (such_that (is_off_of airport kind on) (number w32)) (λ n. limited_field w32 n (λ airport. is_off_of airport kind on n)) (λ n. Unit {0})
reads_off airport kind on = reads_limited (λ n airport. is_off_of airport kind on n) (reads_number airport w32 wide32) wide32.zero

-- ---- the whole

abbrev visit_of : List ℕ → ℕ → ℕ → ℕ → ℕ → Option Key → Option Key → NewVisit
visit_of name kind class on off arr dep = record { name = name; kind = record { 0 = kind }; class = class; on = on; off = off; arr = arr; dep = dep }

same_visit : (a a' : List ℕ) (k k' c c' n n' f f' : ℕ) (r r' d d' : Option Key) → a ≡ a' → k ≡ k' → c ≡ c' → n ≡ n' → f ≡ f' → r ≡ r' → d ≡ d'
    → visit_of a k c n f r d ≡ visit_of a' k' c' n' f' r' d'
same_visit a a' k k' c c' n n' f f' r r' d d' ea ek ec en ef er ed = cc

abbrev Named : List ℕ → NewVisit → Type 0
Named name new = (new.name ≡ name) × IsNewVisit new

abbrev Kinded : List ℕ → ℕ → NewVisit → Type 0
Kinded name kind new = (new.kind.0 ≡ kind) × Named name new

abbrev Classed : List ℕ → ℕ → ℕ → NewVisit → Type 0
Classed name kind class new = (new.class ≡ class) × Kinded name kind new

abbrev Begun : List ℕ → ℕ → ℕ → ℕ → NewVisit → Type 0
Begun name kind class on new = (new.on ≡ on) × Classed name kind class new

abbrev Ended : List ℕ → ℕ → ℕ → ℕ → ℕ → NewVisit → Type 0
Ended name kind class on off new = (new.off ≡ off) × Begun name kind class on new

abbrev Arrived : List ℕ → ℕ → ℕ → ℕ → ℕ → Option Key → NewVisit → Type 0
Arrived name kind class on off arr new = (new.arr ≡ arr) × Ended name kind class on off new

abbrev key_fields_of : NewVisit → List Field
key_fields_of new = optional_key_fields new.arr ++ (optional_key_fields new.dep ++ [])

abbrev off_and_keys : NewVisit → List Field
off_and_keys new = limited_field w32 new.off (λ airport. is_off_of airport new.kind.0 new.on new.off) ∷ key_fields_of new

-- the form of the minute off block, if type and minute on block are those of the visit
same_off : (name : List ℕ) (kind class on : ℕ) (new : NewVisit) → Begun name kind class on new
    → off_and_keys new ≡ limited_field w32 new.off (λ airport. is_off_of airport kind on new.off) ∷ key_fields_of new
same_off name kind class on new h =
    ap (λ k. limited_field w32 new.off (λ airport. is_off_of airport k new.on new.off) ∷ key_fields_of new) h.1.1.0
    ∙ ap (λ n. limited_field w32 new.off (λ airport. is_off_of airport kind n new.off) ∷ key_fields_of new) h.0

abbrev first_fields : NewVisit → List Field → List Field
first_fields new keys =
    name_field new.name ∷ limited_field w16 new.kind.0 (λ airport. nat_lt new.kind.0 (length airport.types)) ∷ number_field w8 new.class
    ∷ limited_field w32 new.on (λ airport. nat_lt new.on (plan_end airport))
    ∷ limited_field w32 new.off (λ airport. is_off_of airport new.kind.0 new.on new.off)
    ∷ (optional_key_fields new.arr ++ keys)

pub new_visit-spells : (airport : AirportParts) → Spells Anywhere airport (parse_new_visit airport) new_visit_fields IsNewVisit
unfolding parse_new_visit
new_visit-spells airport = Spells-as new_visit_fields IsNewVisit
    (Spells-then (λ new. new.name) IsNewVisit (Spells-one (reads_name airport))
    (λ name a. Spells-then (λ new. new.kind.0) (Named name) (Spells-one (reads_kind airport))
    (λ kind k. Spells-then (λ new. new.class) (Kinded name kind) (Spells-one (reads_class airport))
    (λ class c. Spells-then (λ new. new.on) (Classed name kind class) (Spells-one (reads_on airport))
    (λ on n. Spells-as off_and_keys (Begun name kind class on)
    (Spells-then (λ new. new.off) (Begun name kind class on) (Spells-one (reads_off airport kind on))
    (λ off f. Spells-then (λ new. new.arr) (Ended name kind class on off) (optional_key-spells airport)
    (λ arr r. Spells-then (λ new. new.dep) (Arrived name kind class on off arr) (optional_key-spells airport)
    (λ dep d. Spells-give (visit_of name kind class on off arr dep) (λ new. (new.dep ≡ dep) × Arrived name kind class on off arr new)
    (refl, (refl, (refl, (refl, (refl, (refl, (refl, record { class = leb-true class greatest_class c; arr = r; dep = d })))))))
    (λ new h. same_visit new.name name new.kind.0 kind new.class class new.on on new.off off new.arr arr new.dep dep h.1.1.1.1.1.1.0 h.1.1.1.1.1.0 h.1.1.1.1.0 h.1.1.1.0 h.1.1.0 h.1.0 h.0))
    (λ new h. h.1.1.1.1.1.1.dep))
    (λ new h. h.1.1.1.1.1.arr))
    (λ new h. tt))
    (λ new h. h) (λ new h. h) (same_off name kind class on))
    (λ new h. tt))
    (λ new h. le-leb new.class greatest_class h.1.1.class))
    (λ new h. tt))
    (λ new h. tt))
    (λ new h. h) (λ new h. h) (λ new h. ap (first_fields new) (sym (append-nil (optional_key_fields new.dep))))
