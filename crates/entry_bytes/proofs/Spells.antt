-- Readings that read exactly the fields of what they give, made of one another.
use Rattle.std.proofs.Common.{◌≡◌, ℕ, zero, suc, ◌+◌, ◌-◌, ◌<◌, ◌≤◌, Bool, true, false, cond, List, [], ◌∷◌, ◌++◌, length, take, Option, Some, None, Result, Ok, Err, refl, sym, ap, subst, ◌∙◌, append_assoc, length-append, inl, inr, arith}
use Rattle.std.proofs.Math.Seq.{take-append-add, take-nil}
use Rattle.std.proofs.lemmas.Bool.{cases_lt}
use Rattle.std.proofs.lemmas.List.{append-nil, take-append-le}
use Rattle.std.proofs.lemmas.Grind.{flat_map-append}
use Rattle.std.specs.Prelude.{◌⊎◌, MatchOption, IsSome}
use Rattle.std.specs.Int.{w8}
use Rattle.std.specs.List.{flat_map}
use Rattle.apron_base.specs.Histories.{Every}
use Rattle.apron_rules.specs.declared.parts.AirportParts.{AirportParts}
use Rattle.entry_bytes.specs.declared.faults.EntryFault.{EntryFault}
use Rattle.entry_bytes.specs.declared.faults.EntryFault.TheVariants.{BadKind, BadField, TrailingBytes, Memory}
use Rattle.entry_bytes.specs.Faults.{HasForm}
use Rattle.entry_bytes.specs.Fields.{Field, Fits, number_field, field_bytes}
use Rattle.entry_bytes.specs.Laws.{AreBytes}
use Rattle.entry_bytes.specs.Readings.{RestOfEntry, Reading, going_on, ◌>>=◌, give, or_bad_field, bad_at, such_that, meaning_of_field, byte, or_no_kind, by_tag, parse_many}

abbrev pub left_at : ℕ → List ℕ → RestOfEntry
left_at at bytes = record { at = at; bytes = bytes }

-- the bytes of fields
abbrev pub texts : List Field → List ℕ
texts fields = flat_map field_bytes fields

pub texts-append : (xs ys : List Field) → texts (xs ++ ys) ≡ texts xs ++ texts ys
texts-append xs ys = flat_map-append field_bytes xs ys

-- ---- each of some fields

pub every-append : {E : Type 0} (P : E → Type 0) (xs ys : List E) → Every P xs → Every P ys → Every P (xs ++ ys)
every-append P [] ys a b = b
every-append P (x ∷ xs) ys a b = (a.0, every-append P xs ys a.1 b)

pub every-front : {E : Type 0} (P : E → Type 0) (xs ys : List E) → Every P (xs ++ ys) → Every P xs
every-front P [] ys h = tt
every-front P (x ∷ xs) ys h = (h.0, every-front P xs ys h.1)

pub every-back : {E : Type 0} (P : E → Type 0) (xs ys : List E) → Every P (xs ++ ys) → Every P ys
every-back P [] ys h = h
every-back P (x ∷ xs) ys h = every-back P xs ys h.1

-- ---- results

abbrev done : {A : Type 0} → A → Result A EntryFault
done x = Ok x

pub ok_is : {A : Type 0} (x y : A) → done x ≡ done y → x ≡ y
ok_is x y e = cc

abbrev failed : {A : Type 0} → EntryFault → Result A EntryFault
failed fault = Err fault

pub err_is : {A : Type 0} (f g : EntryFault) → failed {A = A} f ≡ failed {A = A} g → f ≡ g
err_is f g e = cc

pub going_on-ok : {A B : Type 0} (read : Result (A × RestOfEntry) EntryFault) (next : A → Reading B) (y : B × RestOfEntry) → going_on read next ≡ Ok y
    → (x : A × RestOfEntry) × (read ≡ Ok x) × (next x.0 x.1 ≡ Ok y)
going_on-ok (Ok x) next y e = (x, refl, e)
going_on-ok (Err fault) next y e = absurd cc

pub going_on-err : {A B : Type 0} (read : Result (A × RestOfEntry) EntryFault) (next : A → Reading B) (fault : EntryFault) → going_on read next ≡ Err fault
    → (read ≡ Err fault) ⊎ ((x : A × RestOfEntry) × (read ≡ Ok x) × (next x.0 x.1 ≡ Err fault))
going_on-err (Ok x) next fault e = inr (x, refl, e)
going_on-err (Err found) next fault e = inl (ap Err (err_is found fault e))

-- ---- places

-- the fault is at this place; the kind is the ninth byte
abbrev pub IsAt : ℕ → EntryFault → Type 0
IsAt place (BadField at) = at ≡ place
IsAt place BadKind = place ≡ 8
IsAt place (TrailingBytes at) = ⊥
IsAt place Memory = ⊥

abbrev pub place_of : EntryFault → ℕ
place_of (BadField at) = at
place_of BadKind = 8
place_of (TrailingBytes at) = 0
place_of Memory = 0

pub place_is : (place : ℕ) (fault : EntryFault) → IsAt place fault → place_of fault ≡ place
place_is place (BadField at) h = h
place_is place BadKind h = sym h
place_is place (TrailingBytes at) h = absurd h
place_is place Memory h = absurd h

-- the place up to which something was read
abbrev pub end_of : {A : Type 0} → Result (A × RestOfEntry) EntryFault → ℕ
end_of (Ok read) = read.1.at
end_of (Err fault) = place_of fault

-- anywhere
abbrev pub Anywhere : ℕ → Type 0
Anywhere at = Unit {0}

-- ---- readings that read exactly what is spelt

-- what a reading took from the front
pub record Takes (left : RestOfEntry) (text : List ℕ) (rest : RestOfEntry) : Type 0 where
  pub parts : left.bytes ≡ text ++ rest.bytes
  pub place : rest.at ≡ left.at + length text
  pub fits : AreBytes rest.bytes

pub Takes-then : (a : RestOfEntry) (x : List ℕ) (b : RestOfEntry) (y : List ℕ) (c : RestOfEntry) → Takes a x b → Takes b y c → Takes a (x ++ y) c
Takes-then a x b y c p q = record {
  parts = p.parts ∙ ap (λ (t : List ℕ). x ++ t) q.parts ∙ sym (append_assoc x y c.bytes);
  place = omega (arith, p.place, q.place, length-append x y);
  fits = q.fits;
}

pub Takes-nothing : (left : RestOfEntry) → AreBytes left.bytes → Takes left [] left
Takes-nothing left fits = record { parts = refl; place = omega arith; fits = fits }

-- a value of a kind whose fields fit
abbrev pub IsValid : {A : Type 0} → (A → List Field) → (A → Type 0) → A → Type 0
IsValid fields V x = V x × Every Fits (fields x)

-- what was read: a value whose fields fit and are in their forms, and which were at the front
pub record IsRead {A : Type 0} (airport : AirportParts) (fields : A → List Field) (V : A → Type 0) (left : RestOfEntry) (read : A × RestOfEntry) : Type 0 where
  pub taken : Takes left (texts (fields read.0)) read.1
  pub valid : IsValid fields V read.0
  pub forms : Every (HasForm airport) (fields read.0)

-- the bytes begin with these fields, up to this place; each has its form
pub record IsFront (airport : AirportParts) (bytes : List ℕ) (front : List Field) (place : ℕ) : Type 0 where
  pub rest : List ℕ
  pub is : bytes ≡ texts front ++ rest
  pub forms : Every (HasForm airport) front
  pub place_is : place ≡ length (texts front)

-- where reading stopped: at the field after the first of some value, which has one there
pub record Stops {A : Type 0} (airport : AirportParts) (fields : A → List Field) (V : A → Type 0) (left : RestOfEntry) (fault : EntryFault) : Type 0 where
  pub value : A
  pub valid : IsValid fields V value
  pub count : ℕ
  pub place : ℕ
  pub front : IsFront airport left.bytes (take count (fields value)) place
  pub few : count < length (fields value)
  pub at : IsAt (left.at + place) fault

-- a reading, from such places on, that reads exactly the fields of each value of a kind, and stops
-- no sooner than where the first fields of any value end; if these end where it has read a value,
-- they are all fields of theirs
pub record Spells {A : Type 0} (From : ℕ → Type 0) (airport : AirportParts) (field : Reading A) (fields : A → List Field) (V : A → Type 0) : Type 0 where
  pub takes : (left : RestOfEntry) (read : A × RestOfEntry) → AreBytes left.bytes → field left ≡ Ok read → IsRead airport fields V left read
  pub again : (x : A) (at : ℕ) (more : List ℕ) → IsValid fields V x → Every (HasForm airport) (fields x)
      → field (left_at at (texts (fields x) ++ more)) ≡ Ok (x, left_at (at + length (texts (fields x))) more)
  pub stops : (left : RestOfEntry) (fault : EntryFault) → From left.at → AreBytes left.bytes → field left ≡ Err fault → Stops airport fields V left fault
  pub within : (left : RestOfEntry) (x : A) (count place : ℕ) → From left.at → AreBytes left.bytes → IsValid fields V x → IsFront airport left.bytes (take count (fields x)) place
      → left.at + place ≤ end_of (field left)
  pub whole : (left : RestOfEntry) (x : A) (count place : ℕ) (read : A × RestOfEntry) → From left.at → AreBytes left.bytes → IsValid fields V x
      → IsFront airport left.bytes (take count (fields x)) place → field left ≡ Ok read → left.at + place ≡ read.1.at → length (fields x) ≤ count
  pub some : (x : A) × IsValid fields V x

-- it stops no sooner than where it begins
pub not_before : {A : Type 0} {From : ℕ → Type 0} {airport : AirportParts} {field : Reading A} {fields : A → List Field} {V : A → Type 0} → Spells From airport field fields V
    → (left : RestOfEntry) → From left.at → AreBytes left.bytes → left.at ≤ end_of (field left)
not_before s left from fits =
    let h = s.within left s.some.0 0 0 from fits s.some.1 (record { rest = left.bytes; is = refl; forms = tt; place_is = refl }) in
    omega (arith, h)

-- a reading from some places on is one from places among them
pub Spells-from : {A : Type 0} {Other : ℕ → Type 0} {airport : AirportParts} {field : Reading A} {fields : A → List Field} {V : A → Type 0} (From : ℕ → Type 0) → ((at : ℕ) → From at → Other at)
    → Spells Other airport field fields V → Spells From airport field fields V
Spells-from From among s = record {
  takes = s.takes;
  again = s.again;
  stops = λ left fault from fits e. s.stops left fault (among left.at from) fits e;
  within = λ left x count place from fits valid front. s.within left x count place (among left.at from) fits valid front;
  whole = λ left x count place read from fits valid front good ends. s.whole left x count place read (among left.at from) fits valid front good ends;
  some = s.some;
}

-- ---- fronts

front-then : (airport : AirportParts) (bytes middle : List ℕ) (xs ys : List Field) (place : ℕ) → bytes ≡ texts xs ++ middle → Every (HasForm airport) xs
    → IsFront airport middle ys place → IsFront airport bytes (xs ++ ys) (length (texts xs) + place)
front-then airport bytes middle xs ys place e forms f = record {
  rest = f.rest;
  is = e ∙ ap (λ (t : List ℕ). texts xs ++ t) f.is ∙ sym (append_assoc (texts xs) (texts ys) f.rest) ∙ ap (λ (t : List ℕ). t ++ f.rest) (sym (texts-append xs ys));
  forms = every-append (HasForm airport) xs ys forms f.forms;
  place_is = omega (arith, f.place_is, ap length (texts-append xs ys), length-append (texts xs) (texts ys));
}

-- the first fields, and the others behind them
record IsFrontThen (airport : AirportParts) (bytes : List ℕ) (xs ys : List Field) (place : ℕ) : Type 0 where
  middle : List ℕ
  is : bytes ≡ texts xs ++ middle
  forms : Every (HasForm airport) xs
  behind : ℕ
  back : IsFront airport middle ys behind
  place_is : place ≡ length (texts xs) + behind

front-split : (airport : AirportParts) (bytes : List ℕ) (xs ys : List Field) (place : ℕ) → IsFront airport bytes (xs ++ ys) place → IsFrontThen airport bytes xs ys place
front-split airport bytes xs ys place f = record {
  middle = texts ys ++ f.rest;
  is = f.is ∙ ap (λ (t : List ℕ). t ++ f.rest) (texts-append xs ys) ∙ append_assoc (texts xs) (texts ys) f.rest;
  forms = every-front (HasForm airport) xs ys f.forms;
  behind = length (texts ys);
  back = record { rest = f.rest; is = refl; forms = every-back (HasForm airport) xs ys f.forms; place_is = refl };
  place_is = omega (arith, f.place_is, ap length (texts-append xs ys), length-append (texts xs) (texts ys));
}

take-past : (count : ℕ) (xs ys : List Field) → length xs ≤ count → take count (xs ++ ys) ≡ xs ++ take (count - length xs) ys
take-past count xs ys le =
    let n : count ≡ length xs + (count - length xs) = omega arith in
    ap (λ k. take k (xs ++ ys)) n ∙ take-append-add xs ys (count - length xs)

-- ---- nothing, and one after the other

pub Spells-give : {B : Type 0} {From : ℕ → Type 0} {airport : AirportParts} (made : B) (V : B → Type 0) → V made → ((y : B) → V y → y ≡ made) → Spells From airport (give made) (λ y. []) V
Spells-give {airport = airport} made V good one = record {
  takes = λ left read fits e.
      let is : IsRead airport (λ y. []) V left (made, left) = record { taken = Takes-nothing left fits; valid = (good, tt); forms = tt } in
      subst (IsRead airport (λ y. []) V left) (ok_is (made, left) read e) is;
  again = λ y at more h forms. let place : at ≡ at + 0 = omega arith in ap (λ z. Ok (z, left_at at more)) (sym (one y h.0)) ∙ ap (λ n. Ok (y, left_at n more)) place;
  stops = λ left fault from fits e. absurd cc;
  within = λ left y count place from fits valid front.
      let none : length (texts (take count [])) ≡ 0 = ap (λ (fs : List Field). length (texts fs)) (take-nil count) in
      omega (arith, front.place_is, none);
  whole = λ left y count place read from fits valid front good ends. omega arith;
  some = (made, (good, tt));
}

goes_further : {A B : Type 0} (read : Result (A × RestOfEntry) EntryFault) (next : A → Reading B) → ((x : A × RestOfEntry) → read ≡ Ok x → x.1.at ≤ end_of (next x.0 x.1))
    → end_of read ≤ end_of (going_on read next)
goes_further (Ok x) next h = h x refl
goes_further (Err fault) next h = omega arith

pub Spells-onward : {A B : Type 0} {From Onward : ℕ → Type 0} {airport : AirportParts} {field : Reading A} {next : A → Reading B} {front : A → List Field} {back : B → List Field} {P : A → Type 0} (get : B → A) (Q : B → Type 0)
    → Spells From airport field front P
    → ((x : A) → P x → Spells Onward airport (next x) back (λ y. (get y ≡ x) × Q y))
    → ((y : B) → Q y → P (get y))
    → ((x : A) (at : ℕ) → From at → IsValid front P x → Onward (at + length (texts (front x))))
    → Spells From airport (field >>= next) (λ y. front (get y) ++ back y) Q
Spells-onward {A} {B} {From} {Onward} {airport} {field} {next} {front} {back} {P} get Q s t holds on = record {
  takes = λ left read fits e.
      let b = going_on-ok (field left) next read e in
      let one = s.takes left b.0 fits b.1 in
      let two = (t b.0.0 one.valid.0).takes b.0.1 read one.taken.fits b.2 in
      let xs = front (get read.0) in
      let ys = back read.0 in
      let same = sym two.valid.0.0 in
      let first : Takes left (texts xs) b.0.1 = subst (λ x. Takes left (texts (front x)) b.0.1) same one.taken in
      let first_fits : Every Fits xs = subst (λ x. Every Fits (front x)) same one.valid.1 in
      let first_forms : Every (HasForm airport) xs = subst (λ x. Every (HasForm airport) (front x)) same one.forms in
      record {
        taken = subst (λ (t : List ℕ). Takes left t read.1) (sym (texts-append xs ys)) (Takes-then left (texts xs) b.0.1 (texts ys) read.1 first two.taken);
        valid = (two.valid.0.1, every-append Fits xs ys first_fits two.valid.1);
        forms = every-append (HasForm airport) xs ys first_forms two.forms;
      };
  again = λ y at more valid forms.
      let xs = front (get y) in
      let ys = back y in
      let p = holds y valid.0 in
      let one = s.again (get y) at (texts ys ++ more) (p, every-front Fits xs ys valid.1) (every-front (HasForm airport) xs ys forms) in
      let two = (t (get y) p).again y (at + length (texts xs)) more ((refl, valid.0), every-back Fits xs ys valid.1) (every-back (HasForm airport) xs ys forms) in
      let place : at + length (texts xs) + length (texts ys) ≡ at + length (texts (xs ++ ys)) = omega (arith, ap length (texts-append xs ys), length-append (texts xs) (texts ys)) in
      ap (λ (bytes : List ℕ). going_on (field (left_at at (bytes ++ more))) next) (texts-append xs ys)
      ∙ ap (λ bytes. going_on (field (left_at at bytes)) next) (append_assoc (texts xs) (texts ys) more)
      ∙ ap (λ r. going_on r next) one
      ∙ two
      ∙ ap (λ n. Ok (y, left_at n more)) place;
  stops = λ left fault from fits e. elim (going_on-err (field left) next fault e) [
    | inl bad ↦
        let st = s.stops left fault from fits bad in
        let full = (t st.value st.valid.0).some in
        let y = full.0 in
        let xs = front (get y) in
        let ys = back y in
        let same = sym full.1.0.0 in
        let few : st.count < length xs = subst (λ x. st.count < length (front x)) same st.few in
        let le : st.count ≤ length xs = omega (arith, few) in
        let first : IsFront airport left.bytes (take st.count xs) st.place = subst (λ x. IsFront airport left.bytes (take st.count (front x)) st.place) same st.front in
        record {
          value = y;
          valid = (full.1.0.1, every-append Fits xs ys (subst (λ x. Every Fits (front x)) same st.valid.1) full.1.1);
          count = st.count;
          place = st.place;
          front = subst (λ fs. IsFront airport left.bytes fs st.place) (sym (take-append-le st.count xs ys le)) first;
          few = omega (arith, few, length-append xs ys);
          at = st.at;
        }
    | inr (x, good, bad) ↦
        let one = s.takes left x fits good in
        let from_here = subst Onward (sym one.taken.place) (on x.0 left.at from one.valid) in
        let st = (t x.0 one.valid.0).stops x.1 fault from_here one.taken.fits bad in
        let y = st.value in
        let xs = front (get y) in
        let ys = back y in
        let same = sym st.valid.0.0 in
        let first : Takes left (texts xs) x.1 = subst (λ x'. Takes left (texts (front x')) x.1) same one.taken in
        let first_fits : Every Fits xs = subst (λ x'. Every Fits (front x')) same one.valid.1 in
        let first_forms : Every (HasForm airport) xs = subst (λ x'. Every (HasForm airport) (front x')) same one.forms in
        let place : x.1.at + st.place ≡ left.at + (length (texts xs) + st.place) = omega (arith, first.place) in
        record {
          value = y;
          valid = (st.valid.0.1, every-append Fits xs ys first_fits st.valid.1);
          count = length xs + st.count;
          place = length (texts xs) + st.place;
          front = subst (λ fs. IsFront airport left.bytes fs (length (texts xs) + st.place)) (sym (take-append-add xs ys st.count))
              (front-then airport left.bytes x.1.bytes xs (take st.count ys) st.place first.parts first_forms st.front);
          few = omega (arith, st.few, length-append xs ys);
          at = subst (λ n. IsAt n fault) place st.at;
        }
  ];
  within = λ left y count place from fits valid begun.
      let xs = front (get y) in
      let ys = back y in
      let p = holds y valid.0 in
      let first : IsValid front P (get y) = (p, every-front Fits xs ys valid.1) in
      elim (cases_lt count (length xs)) [
        | inl lt ↦
            let le : count ≤ length xs = omega (arith, lt) in
            let part = subst (λ fs. IsFront airport left.bytes fs place) (take-append-le count xs ys le) begun in
            let h = s.within left (get y) count place from fits first part in
            let further = goes_further (field left) next (λ x e.
            let one = s.takes left x fits e in
            not_before (t x.0 one.valid.0) x.1 (subst Onward (sym one.taken.place) (on x.0 left.at from one.valid)) one.taken.fits) in
            omega (arith, h, further)
        | inr le ↦
            let parts = front-split airport left.bytes xs (take (count - length xs) ys) place (subst (λ fs. IsFront airport left.bytes fs place) (take-past count xs ys le) begun) in
            let after = left_at (left.at + length (texts xs)) parts.middle in
            let good : field left ≡ Ok (get y, after) = ap (λ bytes. field (left_at left.at bytes)) parts.is ∙ s.again (get y) left.at parts.middle first parts.forms in
            let one = s.takes left (get y, after) fits good in
            let h = (t (get y) p).within after y (count - length xs) parts.behind (on (get y) left.at from first) one.taken.fits ((refl, valid.0), every-back Fits xs ys valid.1) parts.back in
            subst (λ r. left.at + place ≤ end_of (going_on r next)) (sym good) (omega (arith, h, parts.place_is))
      ];
  whole = λ left y count place read from fits valid begun good ends.
      let xs = front (get y) in
      let ys = back y in
      let p = holds y valid.0 in
      let first : IsValid front P (get y) = (p, every-front Fits xs ys valid.1) in
      let second : IsValid back (λ z. (get z ≡ get y) × Q z) y = ((refl, valid.0), every-back Fits xs ys valid.1) in
      let b = going_on-ok (field left) next read good in
      let one = s.takes left b.0 fits b.1 in
      let onward = subst Onward (sym one.taken.place) (on b.0.0 left.at from one.valid) in
      let onward_here = on (get y) left.at from first in
      elim (cases_lt count (length xs)) [
        | inl lt ↦
            let le : count ≤ length xs = omega (arith, lt) in
            let part = subst (λ fs. IsFront airport left.bytes fs place) (take-append-le count xs ys le) begun in
            let reached = s.within left (get y) count place from fits first part in
            let mid : end_of (field left) ≡ b.0.1.at = ap end_of b.1 in
            let rest = not_before (t b.0.0 one.valid.0) b.0.1 onward one.taken.fits in
            let last : end_of (next b.0.0 b.0.1) ≡ read.1.at = ap end_of b.2 in
            let here : left.at + place ≡ b.0.1.at = omega (arith, reached, mid, rest, last, ends) in
            let all = s.whole left (get y) count place b.0 from fits first part b.1 here in
            absurd (omega (arith, lt, all))
        | inr le ↦
            let parts = front-split airport left.bytes xs (take (count - length xs) ys) place (subst (λ fs. IsFront airport left.bytes fs place) (take-past count xs ys le) begun) in
            let after = left_at (left.at + length (texts xs)) parts.middle in
            let there : field left ≡ Ok (get y, after) = ap (λ bytes. field (left_at left.at bytes)) parts.is ∙ s.again (get y) left.at parts.middle first parts.forms in
            let then_ : next (get y) after ≡ Ok read = sym (ap (λ r. going_on r next) there) ∙ good in
            let taken = s.takes left (get y, after) fits there in
            let here : after.at + parts.behind ≡ read.1.at = omega (arith, parts.place_is, ends) in
            let all = (t (get y) p).whole after y (count - length xs) parts.behind read onward_here taken.taken.fits second parts.back then_ here in
            omega (arith, all, le, length-append xs ys)
      ];
  some =
      let a = s.some in
      let b = (t a.0 a.1.0).some in
      (b.0, (b.1.0.1, every-append Fits (front (get b.0)) (back b.0) (subst (λ x. Every Fits (front x)) (sym b.1.0.0) a.1.1) b.1.1));
}

pub Spells-then : {A B : Type 0} {From : ℕ → Type 0} {airport : AirportParts} {field : Reading A} {next : A → Reading B} {front : A → List Field} {back : B → List Field} {P : A → Type 0} (get : B → A) (Q : B → Type 0)
    → Spells From airport field front P
    → ((x : A) → P x → Spells Anywhere airport (next x) back (λ y. (get y ≡ x) × Q y))
    → ((y : B) → Q y → P (get y))
    → Spells From airport (field >>= next) (λ y. front (get y) ++ back y) Q
Spells-then get Q s t holds = Spells-onward {Onward = Anywhere} get Q s t holds (λ x at from valid. tt)

-- ---- the same reading in other words

end_of-made : {A B : Type 0} (made : A → B) (read : Result (A × RestOfEntry) EntryFault) → end_of (going_on read (λ value. give (made value))) ≡ end_of read
end_of-made made (Ok x) = refl
end_of-made made (Err fault) = refl

-- what is made of the values of a reading
pub Spells-made : {A B : Type 0} {From : ℕ → Type 0} {airport : AirportParts} {field : Reading A} {fields : A → List Field} {V : A → Type 0} (made : A → B) (told : B → List Field) (Q : B → Type 0)
    → Spells From airport field fields V → ((x : A) → V x → Q (made x)) → ((y : B) → Q y → (x : A) × V x × (y ≡ made x)) → ((x : A) → told (made x) ≡ fields x)
    → Spells From airport (field >>= λ value. give (made value)) told Q
Spells-made {A} {B} {From} {airport} {field} {fields} {V} made told Q s there from_made same = record {
  takes = λ left read fits e.
      let b = going_on-ok (field left) (λ value. give (made value)) read e in
      let one = s.takes left b.0 fits b.1 in
      let x = b.0.0 in
      let is : IsRead airport told Q left (made x, b.0.1) = record {
        taken = subst (λ fs. Takes left (texts fs) b.0.1) (sym (same x)) one.taken;
        valid = (there x one.valid.0, subst (Every Fits) (sym (same x)) one.valid.1);
        forms = subst (Every (HasForm airport)) (sym (same x)) one.forms;
      } in
      subst (IsRead airport told Q left) (ok_is (made x, b.0.1) read b.2) is;
  again = λ y at more valid forms.
      let m = from_made y valid.0 in
      let x = m.0 in
      let fs : told y ≡ fields x = ap told m.2 ∙ same x in
      let one = s.again x at more (m.1, subst (Every Fits) fs valid.1) (subst (Every (HasForm airport)) fs forms) in
      ap (λ gs. going_on (field (left_at at (texts gs ++ more))) (λ value. give (made value))) fs
      ∙ ap (λ r. going_on r (λ value. give (made value))) one
      ∙ ap (λ z. Ok (z, left_at (at + length (texts (fields x))) more)) (sym m.2)
      ∙ ap (λ gs. Ok (y, left_at (at + length (texts gs)) more)) (sym fs);
  stops = λ left fault from fits e. elim (going_on-err (field left) (λ value. give (made value)) fault e) [
    | inl bad ↦
        let st = s.stops left fault from fits bad in
        let fs = sym (same st.value) in
        record {
          value = made st.value;
          valid = (there st.value st.valid.0, subst (Every Fits) fs st.valid.1);
          count = st.count;
          place = st.place;
          front = subst (λ gs. IsFront airport left.bytes (take st.count gs) st.place) fs st.front;
          few = subst (λ (gs : List Field). st.count < length gs) fs st.few;
          at = st.at;
        }
    | inr (x, good, bad) ↦ absurd cc
  ];
  within = λ left y count place from fits valid front.
      let m = from_made y valid.0 in
      let fs : told y ≡ fields m.0 = ap told m.2 ∙ same m.0 in
      let h = s.within left m.0 count place from fits (m.1, subst (Every Fits) fs valid.1) (subst (λ gs. IsFront airport left.bytes (take count gs) place) fs front) in
      omega (arith, h, end_of-made made (field left));
  whole = λ left y count place read from fits valid front good ends.
      let m = from_made y valid.0 in
      let fs : told y ≡ fields m.0 = ap told m.2 ∙ same m.0 in
      let b = going_on-ok (field left) (λ value. give (made value)) read good in
      let here : left.at + place ≡ b.0.1.at = ends ∙ ap (λ (r : B × RestOfEntry). r.1.at) (sym (ok_is (made b.0.0, b.0.1) read b.2)) in
      let h = s.whole left m.0 count place b.0 from fits (m.1, subst (Every Fits) fs valid.1) (subst (λ gs. IsFront airport left.bytes (take count gs) place) fs front) b.1 here in
      omega (arith, h, ap length fs);
  some = let a = s.some in (made a.0, (there a.0 a.1.0, subst (Every Fits) (sym (same a.0)) a.1.1));
}

-- the same reading of values of the same kind, whose fields are told in another way
pub Spells-as : {A : Type 0} {From : ℕ → Type 0} {airport : AirportParts} {field : Reading A} {fields : A → List Field} {V : A → Type 0} (told : A → List Field) (Q : A → Type 0)
    → Spells From airport field fields V → ((x : A) → V x → Q x) → ((x : A) → Q x → V x) → ((x : A) → Q x → told x ≡ fields x) → Spells From airport field told Q
Spells-as {A} {From} {airport} {field} {fields} {V} told Q s there back same = record {
  takes = λ left read fits e.
      let one = s.takes left read fits e in
      let q = there read.0 one.valid.0 in
      let fs = sym (same read.0 q) in
      record {
        taken = subst (λ gs. Takes left (texts gs) read.1) fs one.taken;
        valid = (q, subst (Every Fits) fs one.valid.1);
        forms = subst (Every (HasForm airport)) fs one.forms;
      };
  again = λ x at more valid forms.
      let fs = same x valid.0 in
      subst (λ gs. field (left_at at (texts gs ++ more)) ≡ Ok (x, left_at (at + length (texts gs)) more)) (sym fs)
      (s.again x at more (back x valid.0, subst (Every Fits) fs valid.1) (subst (Every (HasForm airport)) fs forms));
  stops = λ left fault from fits e.
      let st = s.stops left fault from fits e in
      let q = there st.value st.valid.0 in
      let fs = sym (same st.value q) in
      record {
        value = st.value;
        valid = (q, subst (Every Fits) fs st.valid.1);
        count = st.count;
        place = st.place;
        front = subst (λ gs. IsFront airport left.bytes (take st.count gs) st.place) fs st.front;
        few = subst (λ (gs : List Field). st.count < length gs) fs st.few;
        at = st.at;
      };
  within = λ left x count place from fits valid front.
      let fs = same x valid.0 in
      s.within left x count place from fits (back x valid.0, subst (Every Fits) fs valid.1) (subst (λ gs. IsFront airport left.bytes (take count gs) place) fs front);
  whole = λ left x count place read from fits valid front good ends.
      let fs = same x valid.0 in
      let h = s.whole left x count place read from fits (back x valid.0, subst (Every Fits) fs valid.1) (subst (λ gs. IsFront airport left.bytes (take count gs) place) fs front) good ends in
      omega (arith, h, ap length fs);
  some =
      let a = s.some in
      let q = there a.0 a.1.0 in
      (a.0, (q, subst (Every Fits) (sym (same a.0 q)) a.1.1));
}

-- ---- one field

-- the fault is that this field, which begins there, is bad
abbrev pub IsBadAt : ℕ → EntryFault → Type 0
IsBadAt place fault = fault ≡ BadField place

-- a field that was read
pub record IsReadOne {A : Type 0} (airport : AirportParts) (one : A → Field) (V : A → Type 0) (left : RestOfEntry) (read : A × RestOfEntry) : Type 0 where
  pub taken : Takes left (field_bytes (one read.0)) read.1
  pub valid : V read.0
  pub fits : Fits (one read.0)
  pub form : HasForm airport (one read.0)

-- a reading of exactly one field
pub record ReadsOne {A : Type 0} (airport : AirportParts) (field : Reading A) (one : A → Field) (V : A → Type 0) : Type 0 where
  pub takes : (left : RestOfEntry) (read : A × RestOfEntry) → AreBytes left.bytes → field left ≡ Ok read → IsReadOne airport one V left read
  pub again : (x : A) (at : ℕ) (more : List ℕ) → V x → Fits (one x) → HasForm airport (one x)
      → field (left_at at (field_bytes (one x) ++ more)) ≡ Ok (x, left_at (at + length (field_bytes (one x))) more)
  pub front : (left : RestOfEntry) (fault : EntryFault) → field left ≡ Err fault → IsBadAt left.at fault
  pub some_bytes : (x : A) → 0 < length (field_bytes (one x))
  pub some : (x : A) × V x × Fits (one x)

take-one : (count : ℕ) (field : Field) → (count ≡ 0) ⊎ (take count (field ∷ []) ≡ field ∷ [])
take-one zero field = inl refl
take-one (suc count) field = inr (ap (λ (fs : List Field). field ∷ fs) (take-nil count))

-- fields that are some bytes are all of the one field
whole-one : (count place : ℕ) (field : Field) → place ≡ length (texts (take count (field ∷ []))) → 0 < place → length (field ∷ []) ≤ count
whole-one zero place field is some = absurd (omega (arith, is, some))
whole-one (suc count) place field is some = omega arith

one_ends : {A : Type 0} (left : RestOfEntry) (read : Result (A × RestOfEntry) EntryFault) → ((x : A × RestOfEntry) → read ≡ Ok x → left.at ≤ x.1.at) → ((fault : EntryFault) → read ≡ Err fault → IsBadAt left.at fault)
    → left.at ≤ end_of read
one_ends left (Ok x) good bad = good x refl
one_ends left (Err fault) good bad = let place : place_of fault ≡ left.at = ap place_of (bad fault refl) in omega (arith, place)

pub Spells-one : {A : Type 0} {From : ℕ → Type 0} {airport : AirportParts} {field : Reading A} {one : A → Field} {V : A → Type 0} → ReadsOne airport field one V
    → Spells From airport field (λ x. one x ∷ []) V
Spells-one {A} {From} {airport} {field} {one} {V} r = record {
  takes = λ left read fits e.
      let is = r.takes left read fits e in
      record {
        taken = subst (λ (t : List ℕ). Takes left t read.1) (sym (append-nil (field_bytes (one read.0)))) is.taken;
        valid = (is.valid, (is.fits, tt));
        forms = (is.form, tt);
      };
  again = λ x at more valid forms.
      subst (λ (t : List ℕ). field (left_at at (t ++ more)) ≡ Ok (x, left_at (at + length t) more)) (sym (append-nil (field_bytes (one x)))) (r.again x at more valid.0 valid.1.0 forms.0);
  stops = λ left fault from fits e.
      let place : left.at ≡ left.at + 0 = omega arith in
      let some_field : 0 < length (one r.some.0 ∷ []) = omega arith in
      record {
        value = r.some.0;
        valid = (r.some.1, (r.some.2, tt));
        count = 0;
        place = 0;
        front = record { rest = left.bytes; is = refl; forms = tt; place_is = refl };
        few = some_field;
        at = subst (IsAt (left.at + 0)) (sym (r.front left fault e)) place;
      };
  within = λ left x count place from fits valid begun. elim (take-one count (one x)) [
    | inl none ↦
        let begins = one_ends left (field left) (λ read e. let h = (r.takes left read fits e).taken.place in omega (arith, h)) (λ fault e. r.front left fault e) in
        let nothing : place ≡ 0 = begun.place_is ∙ ap (λ n. length (texts (take n (one x ∷ [])))) none in
        omega (arith, begins, nothing)
    | inr all ↦
        let whole = subst (λ fs. IsFront airport left.bytes fs place) all begun in
        let text : texts (one x ∷ []) ≡ field_bytes (one x) = append-nil (field_bytes (one x)) in
        let bytes : left.bytes ≡ field_bytes (one x) ++ whole.rest = whole.is ∙ ap (λ (t : List ℕ). t ++ whole.rest) text in
        let good = ap (λ b. field (left_at left.at b)) bytes ∙ r.again x left.at whole.rest valid.0 valid.1.0 whole.forms.0 in
        subst (λ read. left.at + place ≤ end_of read) (sym good) (omega (arith, whole.place_is, ap length text))
  ];
  whole = λ left x count place read from fits valid begun good ends.
      let some_bytes = r.some_bytes read.0 in
      let taken = (r.takes left read fits good).taken.place in
      whole-one count place (one x) begun.place_is (omega (arith, some_bytes, taken, ends));
  some = (r.some.0, (r.some.1, (r.some.2, tt)));
}

-- ---- fields in their forms

such_ok : {A : Type 0} (test : Bool) (x : A) (at : ℕ) (left : RestOfEntry) (read : A × RestOfEntry) → cond test (give x) (bad_at at) left ≡ Ok read → (test ≡ true) × ((x, left) ≡ read)
such_ok true x at left read e = (refl, ok_is (x, left) read e)
such_ok false x at left read e = absurd cc

such_err : {A : Type 0} (test : Bool) (x : A) (at : ℕ) (left : RestOfEntry) (fault : EntryFault) → cond test (give x) (bad_at at) left ≡ Err fault → IsBadAt at fault
such_err true x at left fault e = absurd cc
such_err {A} false x at left fault e = sym (err_is {A = A × RestOfEntry} (BadField at) fault e)

-- what has to be true of a value for it to be another field, which has the same bytes
pub record IsTested {A : Type 0} (airport : AirportParts) (test : A → Bool) (one told : A → Field) (V Q : A → Type 0) (x : A) : Type 0 where
  pub there : V x → Fits (one x) → HasForm airport (one x) → test x ≡ true → Q x × Fits (told x) × HasForm airport (told x)
  pub back : Q x → Fits (told x) → HasForm airport (told x) → V x × Fits (one x) × HasForm airport (one x) × (test x ≡ true)
  pub same : field_bytes (told x) ≡ field_bytes (one x)

pub ReadsOne-such : {A : Type 0} {airport : AirportParts} {field : Reading A} {one : A → Field} {V : A → Type 0} (test : A → Bool) (told : A → Field) (Q : A → Type 0)
    → ReadsOne airport field one V → ((x : A) → IsTested airport test one told V Q x) → (x : A) × Q x × Fits (told x) → ReadsOne airport (such_that test field) told Q
ReadsOne-such {A} {airport} {field} {one} {V} test told Q r tested some = record {
  takes = λ left read fits e.
      let b = going_on-ok (field left) (λ value. cond (test value) (give value) (bad_at left.at)) read e in
      let is = r.takes left b.0 fits b.1 in
      let x = b.0.0 in
      let c = such_ok (test x) x left.at b.0.1 read b.2 in
      let q = (tested x).there is.valid is.fits is.form c.0 in
      let made : IsReadOne airport told Q left (x, b.0.1) = record {
        taken = subst (λ (t : List ℕ). Takes left t b.0.1) (sym (tested x).same) is.taken;
        valid = q.0;
        fits = q.1;
        form = q.2;
      } in
      subst (IsReadOne airport told Q left) c.1 made;
  again = λ x at more q fits form.
      let t = (tested x).back q fits form in
      let text = (tested x).same in
      ap (λ (b : List ℕ). going_on (field (left_at at (b ++ more))) (λ value. cond (test value) (give value) (bad_at at))) text
      ∙ ap (λ read. going_on read (λ value. cond (test value) (give value) (bad_at at))) (r.again x at more t.0 t.1 t.2)
      ∙ ap (λ b. cond b (give x) (bad_at at) (left_at (at + length (field_bytes (one x))) more)) t.3
      ∙ ap (λ (b : List ℕ). Ok (x, left_at (at + length b) more)) (sym text);
  front = λ left fault e. elim (going_on-err (field left) (λ value. cond (test value) (give value) (bad_at left.at)) fault e) [
    | inl bad ↦ r.front left fault bad
    | inr (x, good, bad) ↦ such_err (test x.0) x.0 left.at x.1 fault bad
  ];
  some_bytes = λ x. let h = r.some_bytes x in omega (arith, h, ap length (tested x).same);
  some = some;
}

-- ---- fields that mean something

given_ok : {A : Type 0} (value : Option A) (at : ℕ) (left : RestOfEntry) (read : A × RestOfEntry) → or_bad_field at value left ≡ Ok read → (value ≡ Some read.0) × (left ≡ read.1)
given_ok None at left read e = absurd cc
given_ok (Some x) at left read e = let same = ok_is (x, left) read e in (ap (λ r. Some r.0) same, ap (λ r. r.1) same)

given_err : {A : Type 0} (value : Option A) (at : ℕ) (left : RestOfEntry) (fault : EntryFault) → or_bad_field at value left ≡ Err fault → IsBadAt at fault
given_err {A} None at left fault e = sym (err_is {A = A × RestOfEntry} (BadField at) fault e)
given_err (Some x) at left fault e = absurd cc

-- a field that is read as another value, which gives it back
pub ReadsOne-told : {A B : Type 0} {airport : AirportParts} {field : Reading A} {one : A → Field} {V : A → Type 0} (told : A → Option B) (text_of : B → A) (Q : B → Type 0)
    → ReadsOne airport field one V
    → ((x : A) (y : B) → told x ≡ Some y → (x ≡ text_of y) × Q y)
    → ((y : B) → Q y → V (text_of y) × (told (text_of y) ≡ Some y))
    → (y : B) × Q y × Fits (one (text_of y))
    → ReadsOne airport (meaning_of_field told field) (λ y. one (text_of y)) Q
ReadsOne-told {A} {B} {airport} {field} {one} {V} told text_of Q r there back some = record {
  takes = λ left read fits e.
      let b = going_on-ok (field left) (λ value. or_bad_field left.at (told value)) read e in
      let is = r.takes left b.0 fits b.1 in
      let c = given_ok (told b.0.0) left.at b.0.1 read b.2 in
      let d = there b.0.0 read.0 c.0 in
      let taken : Takes left (field_bytes (one (text_of read.0))) b.0.1 = subst (λ x. Takes left (field_bytes (one x)) b.0.1) d.0 is.taken in
      record {
        taken = subst (λ rest. Takes left (field_bytes (one (text_of read.0))) rest) c.1 taken;
        valid = d.1;
        fits = subst (λ x. Fits (one x)) d.0 is.fits;
        form = subst (λ x. HasForm airport (one x)) d.0 is.form;
      };
  again = λ y at more q fits form.
      let v = back y q in
      ap (λ read. going_on read (λ value. or_bad_field at (told value))) (r.again (text_of y) at more v.0 fits form)
      ∙ ap (λ o. or_bad_field at o (left_at (at + length (field_bytes (one (text_of y)))) more)) v.1;
  front = λ left fault e. elim (going_on-err (field left) (λ value. or_bad_field left.at (told value)) fault e) [
    | inl bad ↦ r.front left fault bad
    | inr (x, good, bad) ↦ given_err (told x.0) left.at x.1 fault bad
  ];
  some_bytes = λ y. r.some_bytes (text_of y);
  some = some;
}

-- ---- tags

-- what a tag announces, if anything, reads exactly the rest of what has this tag
abbrev pub Announces : {A : Type 0} → AirportParts → Option (Reading A) → (A → List Field) → (A → Type 0) → Type 0
Announces airport field back V = MatchOption field (Unit {0}) (λ reading. Spells Anywhere airport reading back V)

pub Announces-or : {A : Type 0} {airport : AirportParts} {test : Bool} {field : Reading A} {back : A → List Field} {V : A → Type 0} (others : Option (Reading A))
    → (test ≡ true → Spells Anywhere airport field back V) → Announces airport others back V → Announces airport (cond test (Some field) others) back V
Announces-or {test = true} others this rest = this refl
Announces-or {test = false} others this rest = rest

module _ {A : Type 0} (airport : AirportParts) (back : A → List Field) (V : A → Type 0) where
  announced-takes : (missing : EntryFault) (field : Option (Reading A)) (left : RestOfEntry) (read : A × RestOfEntry) → Announces airport field back V → AreBytes left.bytes
      → or_no_kind missing field left ≡ Ok read → IsRead airport back V left read
  announced-takes missing None left read h fits e = absurd cc
  announced-takes missing (Some field) left read h fits e = h.takes left read fits e

  announced-again : (missing : EntryFault) (field : Option (Reading A)) (x : A) (at : ℕ) (more : List ℕ) → Announces airport field back V → IsSome field → IsValid back V x → Every (HasForm airport) (back x)
      → or_no_kind missing field (left_at at (texts (back x) ++ more)) ≡ Ok (x, left_at (at + length (texts (back x))) more)
  announced-again missing None x at more h there valid forms = absurd cc
  announced-again missing (Some field) x at more h there valid forms = h.again x at more valid forms

  pub announced-stops : (missing : EntryFault) (field : Option (Reading A)) (left : RestOfEntry) (fault : EntryFault) → Announces airport field back V → AreBytes left.bytes
      → or_no_kind missing field left ≡ Err fault → (missing ≡ fault) ⊎ Stops airport back V left fault
  announced-stops missing None left fault h fits e = inl (err_is {A = A × RestOfEntry} missing fault e)
  announced-stops missing (Some field) left fault h fits e = inr (h.stops left fault tt fits e)

  announced-within : (missing : EntryFault) (field : Option (Reading A)) (left : RestOfEntry) (x : A) (count place : ℕ) → Announces airport field back V → IsSome field → AreBytes left.bytes → IsValid back V x
      → IsFront airport left.bytes (take count (back x)) place → left.at + place ≤ end_of (or_no_kind missing field left)
  announced-within missing None left x count place h there fits valid front = absurd cc
  announced-within missing (Some field) left x count place h there fits valid front = h.within left x count place tt fits valid front

  announced-whole : (missing : EntryFault) (field : Option (Reading A)) (left : RestOfEntry) (x : A) (count place : ℕ) (read : A × RestOfEntry) → Announces airport field back V → IsSome field → AreBytes left.bytes
      → IsValid back V x → IsFront airport left.bytes (take count (back x)) place → or_no_kind missing field left ≡ Ok read → left.at + place ≡ read.1.at → length (back x) ≤ count
  announced-whole missing None left x count place read h there fits valid front good ends = absurd cc
  announced-whole missing (Some field) left x count place read h there fits valid front good ends = h.whole left x count place read tt fits valid front good ends

  announced-begins : (missing : EntryFault) (field : Option (Reading A)) (left : RestOfEntry) (low : ℕ) → Announces airport field back V → AreBytes left.bytes → low ≤ left.at → low ≤ place_of missing
      → low ≤ end_of (or_no_kind missing field left)
  announced-begins missing None left low h fits le here = here
  announced-begins missing (Some field) left low h fits le here = let begins = not_before h left tt fits in omega (arith, begins)

module _ {A : Type 0} (airport : AirportParts) (fault_at : ℕ → EntryFault) (field_of : ℕ → Option (Reading A)) (tag_of : A → ℕ) (back : A → List Field) (V : A → Type 0)
    (b : ReadsOne airport byte (number_field w8) (λ number. Unit {0}))
    (all : (tag : ℕ) → Announces airport (field_of tag) back (λ y. (tag_of y ≡ tag) × V y)) where
  abbrev tagged : A → List Field
  tagged y = number_field w8 (tag_of y) ∷ back y

  abbrev OfTag : ℕ → A → Type 0
  OfTag tag y = (tag_of y ≡ tag) × V y

  abbrev announced : ℕ → ℕ → Reading A
  announced at tag = or_no_kind (fault_at at) (field_of tag)

  tagged-begins : (left : RestOfEntry) (read : Result (ℕ × RestOfEntry) EntryFault) → AreBytes left.bytes → IsAt left.at (fault_at left.at) → byte left ≡ read
      → left.at ≤ end_of (going_on read (announced left.at))
  tagged-begins left (Err fault) fits from e = let place : place_of fault ≡ left.at = ap place_of (b.front left fault e) in omega (arith, place)
  tagged-begins left (Ok x) fits from e =
      let one = (b.takes left x fits e).taken in
      announced-begins airport back (OfTag x.0) (fault_at left.at) (field_of x.0) x.1 left.at (all x.0) one.fits (omega (arith, one.place)) (omega (arith, place_is left.at (fault_at left.at) from))

  tagged-within : ((y : A) → V y → IsSome (field_of (tag_of y))) → (left : RestOfEntry) (y : A) (count place : ℕ) → AreBytes left.bytes → IsAt left.at (fault_at left.at) → IsValid tagged V y
      → IsFront airport left.bytes (take count (tagged y)) place → left.at + place ≤ end_of (by_tag fault_at field_of left)
  tagged-within has left y zero place fits from valid front =
      let begins = tagged-begins left (byte left) fits from refl in
      omega (arith, begins, front.place_is)
  tagged-within has left y (suc count) place fits from valid front =
      let tag = tag_of y in
      let parts = front-split airport left.bytes (number_field w8 tag ∷ []) (take count (back y)) place front in
      let after = left_at (left.at + 1) parts.middle in
      let good : byte left ≡ Ok (tag, after) = ap (λ bytes. byte (left_at left.at bytes)) parts.is ∙ b.again tag left.at parts.middle tt valid.1.0 tt in
      let one = (b.takes left (tag, after) fits good).taken in
      let h = announced-within airport back (OfTag tag) (fault_at left.at) (field_of tag) after y count parts.behind (all tag) (has y valid.0) one.fits ((refl, valid.0), valid.1.1) parts.back in
      subst (λ read. left.at + place ≤ end_of (going_on read (announced left.at))) (sym good) (omega (arith, h, parts.place_is))

  tagged-whole : ((y : A) → V y → IsSome (field_of (tag_of y))) → (left : RestOfEntry) (y : A) (count place : ℕ) (read : A × RestOfEntry) → AreBytes left.bytes → IsValid tagged V y
      → IsFront airport left.bytes (take count (tagged y)) place → by_tag fault_at field_of left ≡ Ok read → left.at + place ≡ read.1.at → length (tagged y) ≤ count
  tagged-whole has left y zero place read fits valid front good ends =
      let first = going_on-ok (byte left) (announced left.at) read good in
      let one = (b.takes left first.0 fits first.1).taken in
      let two = (announced-takes airport back (OfTag first.0.0) (fault_at left.at) (field_of first.0.0) first.0.1 read (all first.0.0) one.fits first.2).taken in
      absurd (omega (arith, one.place, two.place, ends, front.place_is))
  tagged-whole has left y (suc count) place read fits valid front good ends =
      let tag = tag_of y in
      let parts = front-split airport left.bytes (number_field w8 tag ∷ []) (take count (back y)) place front in
      let after = left_at (left.at + 1) parts.middle in
      let there : byte left ≡ Ok (tag, after) = ap (λ bytes. byte (left_at left.at bytes)) parts.is ∙ b.again tag left.at parts.middle tt valid.1.0 tt in
      let one = (b.takes left (tag, after) fits there).taken in
      let then_ : announced left.at tag after ≡ Ok read = sym (ap (λ r. going_on r (announced left.at)) there) ∙ good in
      let here : after.at + parts.behind ≡ read.1.at = omega (arith, parts.place_is, ends) in
      let h = announced-whole airport back (OfTag tag) (fault_at left.at) (field_of tag) after y count parts.behind read (all tag) (has y valid.0) one.fits ((refl, valid.0), valid.1.1) parts.back then_ here in
      omega (arith, h)

  pub Spells-tagged : ((y : A) → V y → IsSome (field_of (tag_of y))) → (y : A) × IsValid tagged V y → Spells (λ at. IsAt at (fault_at at)) airport (by_tag fault_at field_of) tagged V
  Spells-tagged has some = record {
    takes = λ left read fits e.
        let first = going_on-ok (byte left) (announced left.at) read e in
        let tag = first.0.0 in
        let one = b.takes left first.0 fits first.1 in
        let two = announced-takes airport back (OfTag tag) (fault_at left.at) (field_of tag) first.0.1 read (all tag) one.taken.fits first.2 in
        let y = read.0 in
        let same : tag ≡ tag_of y = sym two.valid.0.0 in
        let begun : Takes left (field_bytes (number_field w8 (tag_of y))) first.0.1 = subst (λ n. Takes left (field_bytes (number_field w8 n)) first.0.1) same one.taken in
        record {
          taken = Takes-then left (field_bytes (number_field w8 (tag_of y))) first.0.1 (texts (back y)) read.1 begun two.taken;
          valid = (two.valid.0.1, (subst (λ n. Fits (number_field w8 n)) same one.fits, two.valid.1));
          forms = (tt, two.forms);
        };
    again = λ y at more valid forms.
        let tag = tag_of y in
        let one = b.again tag at (texts (back y) ++ more) tt valid.1.0 tt in
        let two = announced-again airport back (OfTag tag) (fault_at at) (field_of tag) y (at + 1) more (all tag) (has y valid.0) ((refl, valid.0), valid.1.1) forms.1 in
        let place : at + 1 + length (texts (back y)) ≡ at + length (texts (tagged y)) = omega arith in
        ap (λ r. going_on r (announced at)) one ∙ two ∙ ap (λ n. Ok (y, left_at n more)) place;
    stops = λ left fault from fits e.
        let here : (fault' : EntryFault) → IsAt left.at fault' → Stops airport tagged V left fault' = λ fault' at.
        let place : left.at ≡ left.at + 0 = omega arith in
        let some_field : 0 < length (tagged some.0) = omega arith in
        record {
          value = some.0;
          valid = some.1;
          count = 0;
          place = 0;
          front = record { rest = left.bytes; is = refl; forms = tt; place_is = refl };
          few = some_field;
          at = subst (λ n. IsAt n fault') place at;
        } in
        elim (going_on-err (byte left) (announced left.at) fault e) [
          | inl bad ↦ here fault (subst (IsAt left.at) (sym (b.front left fault bad)) refl)
          | inr (x, good, rest) ↦
              let one = b.takes left x fits good in
              elim (announced-stops airport back (OfTag x.0) (fault_at left.at) (field_of x.0) x.1 fault (all x.0) one.taken.fits rest) [
                | inl missing ↦ here fault (subst (IsAt left.at) missing from)
                | inr st ↦
                    let y = st.value in
                    let same : x.0 ≡ tag_of y = sym st.valid.0.0 in
                    let begun : Takes left (texts (number_field w8 (tag_of y) ∷ [])) x.1 = subst (λ n. Takes left (texts (number_field w8 n ∷ [])) x.1) same one.taken in
                    let place : x.1.at + st.place ≡ left.at + (1 + st.place) = omega (arith, one.taken.place) in
                    record {
                      value = y;
                      valid = (st.valid.0.1, (subst (λ n. Fits (number_field w8 n)) same one.fits, st.valid.1));
                      count = suc st.count;
                      place = 1 + st.place;
                      front = front-then airport left.bytes x.1.bytes (number_field w8 (tag_of y) ∷ []) (take st.count (back y)) st.place begun.parts (tt, tt) st.front;
                      few = omega (arith, st.few);
                      at = subst (λ n. IsAt n fault) place st.at;
                    }
              ]
        ];
    within = λ left y count place from fits valid front. tagged-within has left y count place fits from valid front;
    whole = λ left y count place read from fits valid front good ends. tagged-whole has left y count place read fits valid front good ends;
    some = some;
  }

-- ---- lists

-- the values of a list of this length
abbrev pub AreSpelt : {A : Type 0} → (A → Type 0) → ℕ → List A → Type 0
AreSpelt V count xs = (length xs ≡ count) × Every V xs

abbrev head_of : {A : Type 0} → A → List A → A
head_of some [] = some
head_of some (x ∷ xs) = x

abbrev pub tail_of : {A : Type 0} → List A → List A
tail_of [] = []
tail_of (x ∷ xs) = xs

module _ {A : Type 0} (airport : AirportParts) (field : Reading A) (fields : A → List Field) (V : A → Type 0) (s : Spells Anywhere airport field fields V) where
  abbrev first_of : List A → A
  first_of xs = head_of s.some.0 xs

  none_is : (xs : List A) → AreSpelt V 0 xs → xs ≡ []
  none_is [] h = refl
  none_is (x ∷ xs) h = absurd (omega (arith, h.0))

  no_fields : (xs : List A) → AreSpelt V 0 xs → flat_map fields xs ≡ []
  no_fields [] h = refl
  no_fields (x ∷ xs) h = absurd (omega (arith, h.0))

  first_is : (count : ℕ) (xs : List A) → AreSpelt V (suc count) xs → V (first_of xs)
  first_is count [] h = absurd (omega (arith, h.0))
  first_is count (x ∷ xs) h = h.1.0

  others_are : (count : ℕ) (x : A) (xs : List A) → (first_of xs ≡ x) × AreSpelt V (suc count) xs → (others : List A) × AreSpelt V count others × (xs ≡ x ∷ others)
  others_are count x [] h = absurd (omega (arith, h.1.0))
  others_are count x (y ∷ xs) h = (xs, (omega (arith, h.1.0), h.1.1.1), ap (λ z. z ∷ xs) h.0)

  fields_are : (count : ℕ) (xs : List A) → AreSpelt V (suc count) xs → flat_map fields xs ≡ fields (first_of xs) ++ flat_map fields (tail_of xs)
  fields_are count [] h = absurd (omega (arith, h.0))
  fields_are count (x ∷ xs) h = refl

  pub Spells-repeated : (count : ℕ) → Spells Anywhere airport (parse_many count field) (flat_map fields) (AreSpelt V count)
  unfolding parse_many
  Spells-repeated zero = Spells-as (flat_map fields) (AreSpelt V 0) (Spells-give [] (AreSpelt V 0) (refl, tt) none_is) (λ xs h. h) (λ xs h. h) no_fields
  Spells-repeated (suc count) = Spells-as (flat_map fields) (AreSpelt V (suc count))
      (Spells-then first_of (AreSpelt V (suc count)) s
      (λ x v. Spells-made (λ others. x ∷ others) (λ xs. flat_map fields (tail_of xs)) (λ xs. (first_of xs ≡ x) × AreSpelt V (suc count) xs) (Spells-repeated count)
      (λ others h. (refl, (ap suc h.0, (v, h.1)))) (others_are count x) (λ others. refl))
      (first_is count))
      (λ xs h. h) (λ xs h. h) (fields_are count)
