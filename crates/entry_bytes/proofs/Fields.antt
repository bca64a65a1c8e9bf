-- The fields that entries are made of: each is read exactly from its bytes.
use Rattle.std.proofs.Common.{◌≡◌, ℕ, suc, ◌+◌, ◌%◌, ◌^◌, ◌<◌, ◌≤◌, Bool, true, false, cond, ltb, List, [], ◌∷◌, ◌++◌, length, take, drop, Ok, Err, refl, sym, ap, subst, ◌∙◌, arith, inl, inr, length-append}
use Rattle.std.specs.Option.{SomeIff}
use Rattle.std.specs.Prelude.{MatchOption, Option, Some, None}
use Rattle.std.specs.Int.{Width, w8, w16, w32, w64, byte_len, from_le_bytes, to_le_bytes}
use Rattle.std.proofs.lemmas.Bool.{cases_lt, ltb-false, le-ltb, false_from_ne_true}
use Rattle.std.proofs.lemmas.List.{take_at, drop_at, take-append-drop, length-take, get_or-drop, get_or-take, get_or_past}
use Rattle.std.proofs.lemmas.Nat.{le_bytes_2, le_bytes_4, le_bytes_8, from_le_bytes-to_le_bytes_2, from_le_bytes-to_le_bytes_4, from_le_bytes-to_le_bytes_8}
use Rattle.apron_base.specs.Name.{IsName, is_name}
use Rattle.apron_base.proofs.NameTests.{name_decides}
use Rattle.apron_rules.specs.declared.parts.AirportParts.{AirportParts}
use Rattle.entry_bytes.specs.declared.faults.EntryFault.{EntryFault}
use Rattle.entry_bytes.specs.declared.faults.EntryFault.TheVariants.{BadField}
use Rattle.entry_bytes.specs.Fields.{Fits, limited_field, name_field, number_field, text_field}
use Rattle.entry_bytes.specs.Laws.{AreBytes}
use Rattle.entry_bytes.specs.Readings.{RestOfEntry, Reading, going_on, give, bad_at, such_that, field_bytes as bytes_of, byte, first_byte, number, text, name}
use Rattle.entry_bytes.proofs.Spells.{IsBadAt, IsReadOne, ReadsOne, ReadsOne-such, Takes, Takes-then, left_at, ok_is, err_is, going_on-ok, going_on-err}

-- ---- bytes

AreBytes-drop : (n : ℕ) (bytes : List ℕ) → AreBytes bytes → AreBytes (drop n bytes)
AreBytes-drop n bytes h i = rw get_or-drop (h (n + i))

AreBytes-take : (n : ℕ) (bytes : List ℕ) → AreBytes bytes → AreBytes (take n bytes)
AreBytes-take n bytes h i = elim (cases_lt i n) [
  | inl lt ↦ rw (get_or-take n bytes i 0 lt) (h i)
  | inr le ↦ rw (get_or_past (take n bytes) i 0 (omega (arith, length-take n bytes))) (omega arith)
]

guard_ok : {A : Type 0} (b : Bool) (d : EntryFault) (x y : A) → cond b (Err d) (Ok x) ≡ Ok y → (b ≡ false) × (x ≡ y)
guard_ok true d x y e = absurd cc
guard_ok false d x y e = (refl, ok_is x y e)

guard_err : {A : Type 0} (b : Bool) (at : ℕ) (x : A) (fault : EntryFault) → cond b (Err (BadField at)) (Ok x) ≡ Err fault → IsBadAt at fault
guard_err {A} true at x fault e = sym (err_is {A = A} (BadField at) fault e)
guard_err false at x fault e = absurd cc

pub record BytesTaken (left : RestOfEntry) (wanted : ℕ) (read : List ℕ × RestOfEntry) : Type 0 where
  pub taken : Takes left read.0 read.1
  pub count : length read.0 ≡ wanted
  pub bytes : AreBytes read.0

bytes-takes : (at count : ℕ) (left : RestOfEntry) (read : List ℕ × RestOfEntry) → AreBytes left.bytes → bytes_of at count left ≡ Ok read → BytesTaken left count read
unfolding bytes_of
bytes-takes at count left read fits e =
    let bytes = left.bytes in
    let g = guard_ok (ltb (length bytes) count) (BadField at) (take count bytes, left_at (left.at + count) (drop count bytes)) read e in
    let long : count ≤ length bytes = ltb-false (length bytes) count g.0 in
    let exact : length (take count bytes) ≡ count = omega (arith, length-take count bytes) in
    let taken : Takes left (take count bytes) (left_at (left.at + count) (drop count bytes)) = record {
      parts = sym (take-append-drop count bytes);
      place = ap (λ n. left.at + n) (sym exact);
      fits = AreBytes-drop count bytes fits;
    } in
    subst (BytesTaken left count) g.1 (record { taken = taken; count = exact; bytes = AreBytes-take count bytes fits })

bytes-again : (at count from : ℕ) (bytes more : List ℕ) → length bytes ≡ count → bytes_of at count (left_at from (bytes ++ more)) ≡ Ok (bytes, left_at (from + count) more)
unfolding bytes_of
bytes-again at count from bytes more exact =
    let long : ltb (length (bytes ++ more)) count ≡ false = le-ltb (length (bytes ++ more)) count (omega (arith, length-append bytes more)) in
    rw (long, take_at bytes more count exact, drop_at bytes more count exact) refl

bytes-bad : (at count : ℕ) (left : RestOfEntry) (fault : EntryFault) → bytes_of at count left ≡ Err fault → IsBadAt at fault
unfolding bytes_of
bytes-bad at count left fault e = guard_err (ltb (length left.bytes) count) at (take count left.bytes, left_at (left.at + count) (drop count left.bytes)) fault e

-- ---- one byte

pub one_byte : (n : ℕ) → n < 256 → to_le_bytes w8 n ≡ n ∷ []
one_byte n small = let same : n % 256 ≡ n = omega arith in ap (λ (b : ℕ). b ∷ []) same

first-takes : (at : ℕ) (bytes : List ℕ) (read : ℕ × RestOfEntry) → AreBytes bytes → first_byte at bytes ≡ Ok read → Takes (left_at at bytes) (read.0 ∷ []) read.1 × (read.0 < 256)
first-takes at [] read fits e = absurd cc
first-takes at (b ∷ bytes) read fits e =
    let below : b < 256 = fits 0 in
    let rest : AreBytes bytes = λ i. fits (suc i) in
    let taken : Takes (left_at at (b ∷ bytes)) (b ∷ []) (left_at (at + 1) bytes) = record { parts = refl; place = refl; fits = rest } in
    subst (λ r. Takes (left_at at (b ∷ bytes)) (r.0 ∷ []) r.1 × (r.0 < 256)) (ok_is (b, left_at (at + 1) bytes) read e) (taken, below)

pub first_bad : (at : ℕ) (bytes : List ℕ) (fault : EntryFault) → first_byte at bytes ≡ Err fault → IsBadAt at fault × (bytes ≡ [])
first_bad at [] fault e = (sym (err_is {A = ℕ × RestOfEntry} (BadField at) fault e), refl)
first_bad at (b ∷ bytes) fault e = absurd cc

byte-takes : (left : RestOfEntry) (read : ℕ × RestOfEntry) → AreBytes left.bytes → byte left ≡ Ok read → Takes left (read.0 ∷ []) read.1 × (read.0 < 256)
unfolding byte
byte-takes left read fits e = first-takes left.at left.bytes read fits e

byte-again : (b at : ℕ) (more : List ℕ) → byte (left_at at (b ∷ more)) ≡ Ok (b, left_at (at + 1) more)
unfolding byte
byte-again b at more = refl

-- no byte is left
pub byte-bad : (left : RestOfEntry) (fault : EntryFault) → byte left ≡ Err fault → IsBadAt left.at fault × (left.bytes ≡ [])
unfolding byte
byte-bad left fault e = first_bad left.at left.bytes fault e

pub reads_byte : (airport : AirportParts) → ReadsOne airport byte (number_field w8) (λ n. Unit {0})
reads_byte airport = record {
  takes = λ left read fits e.
      let is = byte-takes left read fits e in
      record {
        taken = subst (λ (t : List ℕ). Takes left t read.1) (sym (one_byte read.0 is.1)) is.0;
        valid = tt;
        fits = is.1;
        form = tt;
      };
  again = λ n at more v fits form. subst (λ (t : List ℕ). byte (left_at at (t ++ more)) ≡ Ok (n, left_at (at + length t) more)) (sym (one_byte n fits)) (byte-again n at more);
  front = λ left fault e. (byte-bad left fault e).0;
  some_bytes = λ n. omega arith;
  some = let small : 0 < 256 = omega arith in (0, tt, small);
}

-- ---- numbers

pub record IsWide (width : Width) : Type 0 where
  pub len : (n : ℕ) → length (to_le_bytes width n) ≡ byte_len width
  pub back : (bytes : List ℕ) → length bytes ≡ byte_len width → AreBytes bytes → to_le_bytes width (from_le_bytes width bytes) ≡ bytes
  pub again : (n : ℕ) → n < 256 ^ byte_len width → from_le_bytes width (to_le_bytes width n) ≡ n
  pub below : (bytes : List ℕ) → AreBytes bytes → from_le_bytes width bytes < 256 ^ byte_len width
  pub zero : 0 < 256 ^ byte_len width
  pub some : 0 < byte_len width

pub wide16 : IsWide w16
wide16 = record {
  len = λ n. refl;
  back = λ bytes len fits. le_bytes_2 bytes _ len fits refl;
  again = λ n lt. from_le_bytes-to_le_bytes_2 n lt;
  below = λ bytes fits. omega (arith, fits 0, fits 1);
  zero = omega arith;
  some = omega arith;
}

pub wide32 : IsWide w32
wide32 = record {
  len = λ n. refl;
  back = λ bytes len fits. le_bytes_4 bytes _ len fits refl;
  again = λ n lt. from_le_bytes-to_le_bytes_4 n lt;
  below = λ bytes fits. omega (arith, fits 0, fits 1, fits 2, fits 3);
  zero = omega arith;
  some = omega arith;
}

pub wide64 : IsWide w64
wide64 = record {
  len = λ n. refl;
  back = λ bytes len fits. le_bytes_8 bytes _ len fits refl;
  again = λ n lt. from_le_bytes-to_le_bytes_8 n lt;
  below = λ bytes fits. omega (arith, fits 0, fits 1, fits 2, fits 3, fits 4, fits 5, fits 6, fits 7);
  zero = omega arith;
  some = omega arith;
}

abbrev said : Width → List ℕ → Reading ℕ
said width bytes = give (from_le_bytes width bytes)

number-takes : (airport : AirportParts) (width : Width) → IsWide width → (left : RestOfEntry) (read : ℕ × RestOfEntry) → AreBytes left.bytes → number width left ≡ Ok read
    → IsReadOne airport (number_field width) (λ n. Unit {0}) left read
unfolding number
number-takes airport width wide left read fits e =
    let b = going_on-ok (bytes_of left.at (byte_len width) left) (said width) read e in
    let t = bytes-takes left.at (byte_len width) left b.0 fits b.1 in
    let n = from_le_bytes width b.0.0 in
    let is : IsReadOne airport (number_field width) (λ n. Unit {0}) left (n, b.0.1) = record {
      taken = subst (λ (text : List ℕ). Takes left text b.0.1) (sym (wide.back b.0.0 t.count t.bytes)) t.taken;
      valid = tt;
      fits = wide.below b.0.0 t.bytes;
      form = tt;
    } in
    subst (IsReadOne airport (number_field width) (λ n. Unit {0}) left) (ok_is (n, b.0.1) read b.2) is

number-again : (width : Width) → IsWide width → (n at : ℕ) (more : List ℕ) → n < 256 ^ byte_len width
    → number width (left_at at (to_le_bytes width n ++ more)) ≡ Ok (n, left_at (at + length (to_le_bytes width n)) more)
unfolding number
number-again width wide n at more lt =
    ap (λ r. going_on r (said width)) (bytes-again at (byte_len width) at (to_le_bytes width n) more (wide.len n))
    ∙ ap (λ k. Ok (k, left_at (at + byte_len width) more)) (wide.again n lt)
    ∙ ap (λ k. Ok (n, left_at (at + k) more)) (sym (wide.len n))

number-bad : (width : Width) (left : RestOfEntry) (fault : EntryFault) → number width left ≡ Err fault → IsBadAt left.at fault
unfolding number
number-bad width left fault e = elim (going_on-err (bytes_of left.at (byte_len width) left) (said width) fault e) [
  | inl bad ↦ bytes-bad left.at (byte_len width) left fault bad
  | inr (x, good, bad) ↦ absurd cc
]

pub reads_number : (airport : AirportParts) (width : Width) → IsWide width → ReadsOne airport (number width) (number_field width) (λ n. Unit {0})
reads_number airport width wide = record {
  takes = number-takes airport width wide;
  again = λ n at more v fits form. number-again width wide n at more fits;
  front = number-bad width;
  some_bytes = λ n. omega (arith, wide.len n, wide.some);
  some = (0, tt, wide.zero);
}

-- ---- numbers in their forms

-- a number of any airport
pub reads_number-in : {airport : AirportParts} {width : Width} {field : Reading ℕ} (test : ℕ → Bool) → ReadsOne airport field (number_field width) (λ n. Unit {0}) → (n : ℕ) × (test n ≡ true) × Fits (number_field width n)
    → ReadsOne airport (such_that test field) (number_field width) (λ n. test n ≡ true)
reads_number-in {width = width} test r some = ReadsOne-such test (number_field width) (λ n. test n ≡ true) r
    (λ n. record { there = λ v fits form passes. (passes, fits, tt); back = λ passes fits form. (tt, fits, tt, passes); same = refl }) some

-- a number that the airport limits
pub reads_limited : {airport : AirportParts} {width : Width} {field : Reading ℕ} (form_of : ℕ → AirportParts → Bool) → ReadsOne airport field (number_field width) (λ n. Unit {0}) → 0 < 256 ^ byte_len width
    → ReadsOne airport (such_that (λ n. form_of n airport) field) (λ n. limited_field width n (form_of n)) (λ n. Unit {0})
reads_limited {airport = airport} {width = width} form_of r zero = ReadsOne-such (λ n. form_of n airport) (λ n. limited_field width n (form_of n)) (λ n. Unit {0}) r
    (λ n. record { there = λ v fits form passes. (tt, fits, passes); back = λ v fits passes. (tt, fits, tt, passes); same = refl }) (0, tt, zero)

-- ---- texts

text-takes : (airport : AirportParts) (left : RestOfEntry) (read : List ℕ × RestOfEntry) → AreBytes left.bytes → text left ≡ Ok read → IsReadOne airport text_field (λ t. length t < 256) left read
unfolding text
text-takes airport left read fits e =
    let b = going_on-ok (byte left) (bytes_of left.at) read e in
    let one = byte-takes left b.0 fits b.1 in
    let two = bytes-takes left.at b.0.0 b.0.1 read one.0.fits b.2 in
    let both = Takes-then left (b.0.0 ∷ []) b.0.1 read.0 read.1 one.0 two.taken in
    record {
      taken = subst (λ (n : ℕ). Takes left (n ∷ read.0) read.1) (sym two.count) both;
      valid = omega (arith, two.count, one.1);
      fits = tt;
      form = tt;
    }

text-again : (bytes : List ℕ) (at : ℕ) (more : List ℕ) → text (left_at at (length bytes ∷ bytes ++ more)) ≡ Ok (bytes, left_at (at + length (length bytes ∷ bytes)) more)
unfolding text
text-again bytes at more =
    let place : at + 1 + length bytes ≡ at + length (length bytes ∷ bytes) = omega arith in
    ap (λ r. going_on r (bytes_of at)) (byte-again (length bytes) at (bytes ++ more))
    ∙ bytes-again at (length bytes) (at + 1) bytes more refl
    ∙ ap (λ n. Ok (bytes, left_at n more)) place

text-bad : (left : RestOfEntry) (fault : EntryFault) → text left ≡ Err fault → IsBadAt left.at fault
unfolding text
text-bad left fault e = elim (going_on-err (byte left) (bytes_of left.at) fault e) [
  | inl bad ↦ (byte-bad left fault bad).0
  | inr (x, good, bad) ↦ bytes-bad left.at x.0 x.1 fault bad
]

pub reads_text : (airport : AirportParts) → ReadsOne airport text text_field (λ t. length t < 256)
reads_text airport = record {
  takes = text-takes airport;
  again = λ t at more short fits form. text-again t at more;
  front = text-bad;
  some_bytes = λ t. omega arith;
  some = let short : 0 < 256 = omega arith in ([], short, tt);
}

name-short : (bytes : List ℕ) → is_name bytes ≡ true → length bytes < 256
name-short bytes h = let is = (name_decides bytes).0 h in let few = is.few in omega (arith, few)

-- the shortest name
abbrev pub some_name : List ℕ
some_name = 65 ∷ []

pub some_is_name : is_name some_name ≡ true
some_is_name = refl

pub reads_name : (airport : AirportParts) → ReadsOne airport name name_field (λ n. Unit {0})
reads_name airport = ReadsOne-such is_name name_field (λ n. Unit {0}) (reads_text airport)
    (λ n. record {
      there = λ short fits form test. (tt, test, tt);
      back = λ v fits form. (name-short n fits, tt, tt, fits);
      same = refl;
    })
    (some_name, tt, some_is_name)

-- a text that was read is read as a name if it is one
pub named : (left after : RestOfEntry) (bytes : List ℕ) (found : Option (List ℕ)) → text left ≡ Ok (bytes, after) → SomeIff found (IsName bytes) bytes
    → MatchOption found (name left ≡ Err (BadField left.at)) (λ value. name left ≡ Ok (value, after))
named left after bytes None e h =
    let no = false_from_ne_true (is_name bytes) (λ t. h ((name_decides bytes).0 t)) in
    ap (λ r. going_on r (λ value. cond (is_name value) (give value) (bad_at left.at))) e ∙ ap (λ t. cond t (give bytes) (bad_at left.at) after) no
named left after bytes (Some value) e h =
    let yes = (name_decides bytes).1 h.0 in
    ap (λ r. going_on r (λ value. cond (is_name value) (give value) (bad_at left.at))) e ∙ ap (λ t. cond t (give bytes) (bad_at left.at) after) yes ∙ ap (λ k. Ok (k, after)) (sym h.1)
