-- What texts of records are read as.
use Rattle.std.proofs.Common.{cond, inl, inr, length-drop, true, false, Bool, get_or, ◌&&◌, nat_le, nat_lt, subst, take-append-drop, ◌≡◌, ◌≢◌, ℕ, zero, suc, ◌+◌, ◌-◌, ◌*◌, ◌/◌, ◌%◌, ◌≤◌, ◌<◌, List, [], ◌∷◌, ◌++◌, length, take, drop, Option, Some, None, Result, Ok, Err, refl, sym, ◌∙◌, ap, arith, append_assoc, length-append}
use Rattle.std.proofs.lemmas.List.{get_or-drop, length-take-le, length_push, take_rest, take_at, drop_at}
use Rattle.std.proofs.lemmas.Bool.{cases_eq}
use Rattle.std.proofs.lemmas.Bool.Decides.{nat_tests}
use Rattle.apron_base.specs.Histories.{Every}
use Rattle.journal_disk.specs.Limits.{most_entries, most_bytes}
use Rattle.journal_disk.specs.Gates.{IsClosed}
use Rattle.journal_disk.specs.Opening.{IsReadJournal, NextIs}
use Rattle.journal_disk.specs.Entries.{behind_gate, closed_gate, open_gate, before_rest, with_record, entries_from, section_length, with_length, records, IsEntry}

-- these entries and then those of the rest
abbrev pub after_entries : List (List ℕ) → Result (List (List ℕ)) ℕ → Result (List (List ℕ)) ℕ
after_entries others (Ok entries) = Ok (others ++ entries)
after_entries others (Err number) = Err number

-- the gate that is written where nothing counts isn't open
pub is_shut : closed_gate ≢ open_gate
is_shut = omega arith

size_of : (n : ℕ) → n % 256 + 256 * (n / 256) ≡ n
size_of n = omega arith

-- a record that is written is read
pub behind_gate-sized : (entry : List ℕ) (gate : ℕ) (rest : List ℕ) → IsEntry entry → behind_gate (with_length entry ++ gate ∷ rest) ≡ Some (entry, gate ∷ rest)
behind_gate-sized entry gate rest is =
    let long = length-append entry (gate ∷ rest) in
    rw (size_of (length entry), take_at entry (gate ∷ rest) (length entry) refl, drop_at entry (gate ∷ rest) (length entry) refl) (grind (arith, nat_tests))

pub closed : (left gate : ℕ) (rest : List ℕ) → gate ≢ 1 → entries_from left (gate ∷ rest) ≡ Ok []
unfolding entries_from
closed zero gate rest shut = grind (arith, nat_tests)
closed (suc left) gate rest shut = grind (arith, nat_tests)

opened : (left : ℕ) (rest : List ℕ) → entries_from (suc left) (1 ∷ rest) ≡ with_record (most_entries - left) (behind_gate rest) (entries_from left)
unfolding entries_from
opened left rest = refl

pub records-append : (entries others : List (List ℕ)) → records (entries ++ others) ≡ records entries ++ records others
records-append [] others = refl
records-append (entry ∷ entries) others = ap (λ (l : List ℕ). 1 ∷ l) (ap (λ (l : List ℕ). with_length entry ++ l) (records-append entries others) ∙ sym (append_assoc (with_length entry) (records entries) (records others)))

front_of : (entries : List (List ℕ)) (gate : ℕ) (rest : List ℕ) → (g : ℕ) × (r : List ℕ) × (records entries ++ gate ∷ rest ≡ g ∷ r)
front_of [] gate rest = (gate, rest, refl)
front_of (entry ∷ entries) gate rest = (1, (with_length entry ++ records entries) ++ gate ∷ rest, refl)

-- records and then a closed gate are read as their entries, whatever comes after
pub entries-closed : (entries : List (List ℕ)) (left gate : ℕ) (rest : List ℕ) → Every IsEntry entries → length entries ≤ left → gate ≢ 1 → entries_from left (records entries ++ gate ∷ rest) ≡ Ok entries
entries-closed [] left gate rest sizes few shut = closed left gate rest shut
entries-closed (entry ∷ entries) zero gate rest sizes few shut = absurd (omega arith)
entries-closed (entry ∷ entries) (suc left) gate rest sizes few shut =
    let front = front_of entries gate rest in
    let text : (with_length entry ++ records entries) ++ gate ∷ rest ≡ with_length entry ++ front.0 ∷ front.1 = append_assoc (with_length entry) (records entries) (gate ∷ rest) ∙ ap (λ (l : List ℕ). with_length entry ++ l) front.2 in
    let read : behind_gate ((with_length entry ++ records entries) ++ gate ∷ rest) ≡ Some (entry, front.0 ∷ front.1) = ap behind_gate text ∙ behind_gate-sized entry front.0 front.1 sizes.0 in
    let others = entries-closed entries left gate rest sizes.1 (omega arith) shut in
    opened left ((with_length entry ++ records entries) ++ gate ∷ rest)
    ∙ ap (λ r. with_record (most_entries - left) r (entries_from left)) read
    ∙ ap (λ l. before_rest entry (entries_from left l)) (sym front.2)
    ∙ ap (before_rest entry) others

-- The turns of a reading. This many entries were read before.
pub turn_end : (number : ℕ) (text : List ℕ) → number ≤ most_entries → length text ≡ 0 → entries_from (most_entries - number) text ≡ Err (number + 1)
unfolding entries_from
turn_end number [] few none = ap Err (omega (arith, few))
turn_end number (x ∷ text) few none = absurd (omega arith)

pub end_is : (left : ℕ) → entries_from left [] ≡ Err (most_entries + 1 - left)
unfolding entries_from
end_is left = refl

pub turn_closed : (left : ℕ) (text : List ℕ) → 1 ≤ length text → get_or text 0 0 ≢ 1 → entries_from left text ≡ Ok []
turn_closed left [] long shut = absurd (omega arith)
turn_closed left (x ∷ text) long shut = closed left x text shut

full_is : (text : List ℕ) → entries_from 0 (1 ∷ text) ≡ Err (most_entries + 1)
unfolding entries_from
full_is text = refl

pub turn_full : (number : ℕ) (text : List ℕ) → 1 ≤ length text → get_or text 0 0 ≡ 1 → number ≡ most_entries → entries_from (most_entries - number) text ≡ Err (number + 1)
turn_full number [] long is full = absurd (omega arith)
turn_full number (x ∷ text) long is full =
    let none : 0 ≡ most_entries - number = omega (arith, full) in
    subst (λ n. entries_from n (x ∷ text) ≡ Err (number + 1)) none (subst (λ g. entries_from 0 (g ∷ text) ≡ Err (number + 1)) (sym is) (full_is text ∙ ap Err (omega (arith, full))))

pub turn_record : (number : ℕ) (text : List ℕ) → 1 ≤ length text → get_or text 0 0 ≡ 1 → number < most_entries → entries_from (most_entries - number) text ≡ with_record (number + 1) (behind_gate (drop 1 text)) (entries_from (most_entries - (number + 1)))
turn_record number [] long is few = absurd (omega arith)
turn_record number (x ∷ text) long is few =
    let left : most_entries - number ≡ suc (most_entries - (number + 1)) = omega (arith, few) in
    let count : most_entries - (most_entries - (number + 1)) ≡ number + 1 = omega (arith, few) in
    ap (λ n. entries_from n (x ∷ text)) left
    ∙ ap (λ g. entries_from (suc (most_entries - (number + 1))) (g ∷ text)) is
    ∙ opened (most_entries - (number + 1)) text
    ∙ ap (λ n. with_record n (behind_gate text) (entries_from (most_entries - (number + 1)))) count

some_pair : (a b : List ℕ × List ℕ) → Some a ≡ Some b → a ≡ b
some_pair a b is = cc

-- how long a record is
pub record_length : (bytes entry rest : List ℕ) → behind_gate bytes ≡ Some (entry, rest) → length bytes ≡ 2 + length entry + length rest
record_length [] entry rest is = absurd (cc is)
record_length (low ∷ []) entry rest is = absurd (cc is)
record_length (low ∷ high ∷ bytes) entry rest is = by_test (low + 256 * high) bytes entry rest (nat_le 1 (low + 256 * high) && nat_le (low + 256 * high) most_bytes && nat_lt (low + 256 * high) (length bytes)) is
  where
    by_test : (size : ℕ) (bytes entry rest : List ℕ) (b : Bool) → cond {A = Option (List ℕ × List ℕ)} b (Some (take size bytes, drop size bytes)) None ≡ Some (entry, rest) → suc (suc (length bytes)) ≡ 2 + length entry + length rest
    by_test size bytes entry rest true e =
        let both = some_pair (take size bytes, drop size bytes) (entry, rest) e in
        let entry_is : take size bytes ≡ entry = ap (λ p. p.0) both in
        let rest_is : drop size bytes ≡ rest = ap (λ p. p.1) both in
        omega (arith, ap length entry_is, ap length rest_is, ap length (take-append-drop size bytes), length-append (take size bytes) (drop size bytes))
    by_test size bytes entry rest false e = absurd (cc e)

behind_is : (text : List ℕ) → take (length text - 1) (drop 1 text) ≡ drop 1 text
behind_is text = take_rest text 1

pub next_some : (number : ℕ) (text entry rest : List ℕ) → 1 ≤ length text → get_or text 0 0 ≡ 1 → number < most_entries → Some (entry, rest) ≡ behind_gate (take (length text - 1) (drop 1 text)) → NextIs number text (Some (entry, rest))
next_some number text entry rest long is few found =
    let read : behind_gate (drop 1 text) ≡ Some (entry, rest) = sym (found ∙ ap behind_gate (behind_is text)) in (
      few,
      turn_record number text long is few ∙ ap (λ r. with_record (number + 1) r (entries_from (most_entries - (number + 1)))) read,
      omega (arith, long, length-drop 1 text, record_length (drop 1 text) entry rest read),
    )

pub next_none : (number : ℕ) (text : List ℕ) → 1 ≤ length text → get_or text 0 0 ≡ 1 → number < most_entries → None ≡ behind_gate (take (length text - 1) (drop 1 text)) → entries_from (most_entries - number) text ≡ Err (number + 1)
next_none number text long is few found =
    let read : behind_gate (drop 1 text) ≡ None = sym (found ∙ ap behind_gate (behind_is text)) in
    turn_record number text long is few ∙ ap (λ r. with_record (number + 1) r (entries_from (most_entries - (number + 1)))) read

-- one entry more
pub one_more : (entries : List (List ℕ)) (entry : List ℕ) (rest : Result (List (List ℕ)) ℕ) → after_entries entries (before_rest entry rest) ≡ after_entries (entries ++ entry ∷ []) rest
one_more entries entry (Ok others) = ap Ok (sym (append_assoc entries (entry ∷ []) others))
one_more entries entry (Err n) = refl

pub records-push : (entries : List (List ℕ)) (entry : List ℕ) → length (records (entries ++ entry ∷ [])) ≡ length (records entries) + 3 + length entry
records-push entries entry =
    omega (arith, ap length (records-append entries (entry ∷ [])), length-append (records entries) (records (entry ∷ [])), length-append (with_length entry) [])

-- a turn of the loop
pub turn : (text rest after entry : List ℕ) (entries pushed : List (List ℕ)) (number : ℕ) → pushed ≡ entries ++ entry ∷ [] → number ≡ length entries → NextIs number rest (Some (entry, after))
    → entries_from most_entries text ≡ after_entries entries (entries_from (most_entries - length entries) rest) → length text ≡ length (records entries) + length rest
    → (length pushed ≤ most_entries) × (entries_from most_entries text ≡ after_entries pushed (entries_from (most_entries - length pushed) after)) × (length text ≡ length (records pushed) + length after)
turn text rest after entry entries pushed number is count next read long =
    rw (is, length_push entries entry, ← count) (
      omega (arith, next.0),
      read ∙ ap (λ n. after_entries entries (entries_from (most_entries - n) rest)) (sym count) ∙ ap (after_entries entries) next.1 ∙ one_more entries entry (entries_from (most_entries - (number + 1)) after),
      omega (arith, long, next.2, records-push entries entry),
    )

-- each of these bytes fits
abbrev pub AreBytes : List ℕ → Type 0
AreBytes text = (i : ℕ) → get_or text i 0 < 256

bytes-drop : (n : ℕ) (text : List ℕ) → AreBytes text → AreBytes (drop n text)
bytes-drop n text are i = subst (λ x. x < 256) (sym (get_or-drop n text i 0)) (are (n + i))

sized_is : (low high : ℕ) (entry : List ℕ) → low < 256 → low + 256 * high ≡ length entry → with_length entry ≡ low ∷ high ∷ entry
sized_is low high entry small is =
    let l : length entry % 256 ≡ low = omega (arith, small, is) in
    let h : length entry / 256 ≡ high = omega (arith, small, is) in
    ap (λ x. x ∷ length entry / 256 ∷ entry) l ∙ ap (λ x. low ∷ x ∷ entry) h

-- a record that is read was written
pub gate_read : (bytes entry rest : List ℕ) → AreBytes bytes → behind_gate bytes ≡ Some (entry, rest) → IsEntry entry × (bytes ≡ with_length entry ++ rest) × (1 ≤ length rest)
gate_read [] entry rest are is = absurd (cc is)
gate_read (low ∷ []) entry rest are is = absurd (cc is)
gate_read (low ∷ high ∷ bytes) entry rest are is =
    by_test (low + 256 * high) (nat_le 1 (low + 256 * high) && nat_le (low + 256 * high) most_bytes && nat_lt (low + 256 * high) (length bytes)) refl refl is
  where
    by_test : (size : ℕ) (b : Bool) → size ≡ low + 256 * high → (nat_le 1 size && nat_le size most_bytes && nat_lt size (length bytes)) ≡ b → cond {A = Option (List ℕ × List ℕ)} b (Some (take size bytes, drop size bytes)) None ≡ Some (entry, rest)
        → IsEntry entry × (low ∷ high ∷ bytes ≡ with_length entry ++ rest) × (1 ≤ length rest)
    by_test size false size_is test e = absurd (cc e)
    by_test size true size_is test e =
        let both = some_pair (take size bytes, drop size bytes) (entry, rest) e in
        let entry_is : take size bytes ≡ entry = ap (λ p. p.0) both in
        let rest_is : drop size bytes ≡ rest = ap (λ p. p.1) both in
        let some : 1 ≤ size = grind (arith, nat_tests) in
        let few : size ≤ most_bytes = grind (arith, nat_tests) in
        let room : size < length bytes = grind (arith, nat_tests) in
        let long : length entry ≡ size = ap length (sym entry_is) ∙ length-take-le size bytes (omega (arith, room)) in (
          (omega (arith, long, some), omega (arith, long, few)),
          sym (ap (λ (l : List ℕ). l ++ rest) (sized_is low high entry (are 0) (omega (arith, long, size_is))) ∙ ap (λ (l : List ℕ). low ∷ high ∷ (l ++ rest)) (sym entry_is) ∙ ap (λ (l : List ℕ). low ∷ high ∷ (take size bytes ++ l)) (sym rest_is) ∙ ap (λ (l : List ℕ). low ∷ high ∷ l) (take-append-drop size bytes)),
          omega (arith, ap length (sym rest_is), length-drop size bytes, room),
        )

-- a text that is read is the text of its entries' records, and a closed gate
pub record IsText (left : ℕ) (text : List ℕ) (entries : List (List ℕ)) : Type 0 where
  pub sizes : Every IsEntry entries
  pub few : length entries ≤ left
  pub closed : IsClosed (records entries) text

ok_same : (r : Result (List (List ℕ)) ℕ) (a b : List (List ℕ)) → r ≡ Ok a → r ≡ Ok b → a ≡ b
ok_same r a b one two = cc

-- a record that is read, and then the rest
record HasRecord (record_is : Option (List ℕ × List ℕ)) (rest_of : List ℕ → Result (List (List ℕ)) ℕ) (entries : List (List ℕ)) : Type 0 where
  entry : List ℕ
  rest : List ℕ
  others : List (List ℕ)
  found : record_is ≡ Some (entry, rest)
  read : rest_of rest ≡ Ok others
  all : entries ≡ entry ∷ others

before_ok : (entry : List ℕ) (r : Result (List (List ℕ)) ℕ) (entries : List (List ℕ)) → before_rest entry r ≡ Ok entries → (others : List (List ℕ)) × (r ≡ Ok others) × (entries ≡ entry ∷ others)
before_ok entry (Ok others) entries is = (others, refl, sym (ok_same (Ok (entry ∷ others)) (entry ∷ others) entries refl is))
before_ok entry (Err n) entries is = absurd (cc is)

with_ok : (n : ℕ) (r : Option (List ℕ × List ℕ)) (rest_of : List ℕ → Result (List (List ℕ)) ℕ) (entries : List (List ℕ)) → with_record n r rest_of ≡ Ok entries → HasRecord r rest_of entries
with_ok n None rest_of entries is = absurd (cc is)
with_ok n (Some (entry, rest)) rest_of entries is =
    let before = before_ok entry (rest_of rest) entries is in
    record { entry = entry; rest = rest; others = before.0; found = refl; read = before.1; all = before.2 }

nothing_read : (left gate : ℕ) (rest : List ℕ) (entries : List (List ℕ)) → gate ≢ 1 → entries_from left (gate ∷ rest) ≡ Ok entries → IsText left (gate ∷ rest) entries
nothing_read left gate rest entries shut is =
    let none : [] ≡ entries = ok_same (entries_from left (gate ∷ rest)) [] entries (closed left gate rest shut) is in
    subst (IsText left (gate ∷ rest)) none (record { sizes = tt; few = omega arith; closed = record { gate = gate; rest = rest; text = refl; shut = shut } })

more_read : (left : ℕ) (rest : List ℕ) (entries : List (List ℕ)) → AreBytes rest → (h : HasRecord (behind_gate rest) (entries_from left) entries) → IsText left h.rest h.others → IsText (suc left) (1 ∷ rest) entries
more_read left rest entries are h others =
    let one = gate_read rest h.entry h.rest are h.found in
    subst (IsText (suc left) (1 ∷ rest)) (sym h.all) (record {
      sizes = (one.0, others.sizes);
      few = omega (arith, others.few);
      closed = record {
        gate = others.closed.gate;
        rest = others.closed.rest;
        text = ap (λ (l : List ℕ). 1 ∷ l) (one.1 ∙ ap (λ (l : List ℕ). with_length h.entry ++ l) others.closed.text ∙ sym (append_assoc (with_length h.entry) (records h.others) (others.closed.gate ∷ others.closed.rest)));
        shut = others.closed.shut;
      };
    })

bytes_behind : (gate : ℕ) (rest : List ℕ) → AreBytes (gate ∷ rest) → AreBytes rest
bytes_behind gate rest are i = are (suc i)

bytes_after : (bytes entry rest : List ℕ) → AreBytes bytes → behind_gate bytes ≡ Some (entry, rest) → AreBytes rest
bytes_after bytes entry rest are found i =
    let one = gate_read bytes entry rest are found in
    let end : drop (length (with_length entry)) bytes ≡ rest = ap (drop (length (with_length entry))) one.1 ∙ drop_at (with_length entry) rest (length (with_length entry)) refl in
    subst (λ l. get_or l i 0 < 256) end (bytes-drop (length (with_length entry)) bytes are i)

pub read_is : (left : ℕ) (text : List ℕ) (entries : List (List ℕ)) → AreBytes text → entries_from left text ≡ Ok entries → IsText left text entries
read_is zero [] entries are is = absurd (cc (sym (end_is 0), is))
read_is (suc left) [] entries are is = absurd (cc (sym (end_is (suc left)), is))
read_is zero (gate ∷ rest) entries are is = elim (cases_eq gate 1) [
  | inl is_open ↦ absurd (cc (sym (ap (λ g. entries_from 0 (g ∷ rest)) is_open ∙ full_is rest), is))
  | inr shut ↦ nothing_read zero gate rest entries shut is
]
read_is (suc left) (gate ∷ rest) entries are is = elim (cases_eq gate 1) [
  | inl is_open ↦
      let found = with_ok (most_entries - left) (behind_gate rest) (entries_from left) entries (sym (ap (λ g. entries_from (suc left) (g ∷ rest)) is_open ∙ opened left rest) ∙ is) in
      let others = read_is left found.rest found.others (bytes_after rest found.entry found.rest (bytes_behind gate rest are) found.found) found.read in
      subst (λ g. IsText (suc left) (g ∷ rest) entries) (sym is_open) (more_read left rest entries (bytes_behind gate rest are) found others)
  | inr shut ↦ nothing_read (suc left) gate rest entries shut is
]

-- A section that is passed over.
abbrev pub plus_length : ℕ → Option ℕ → Option ℕ
plus_length n (Some m) = Some (n + m)
plus_length n None = None

pub plus_zero : (p : Option ℕ) → plus_length 0 p ≡ p
plus_zero (Some m) = ap (λ i. Some i) (omega arith)
plus_zero None = refl

plus_plus : (n m : ℕ) (p : Option ℕ) → plus_length n (plus_length m p) ≡ plus_length (n + m) p
plus_plus n m (Some k) = ap (λ i. Some i) (omega arith)
plus_plus n m None = refl

length_before : (entry : List ℕ) (r : Result (List (List ℕ)) ℕ) → section_length (before_rest entry r) ≡ plus_length (3 + length entry) (section_length r)
length_before entry (Ok entries) = ap (λ i. Some i) (omega (arith, length-append (with_length entry) (records entries)))
length_before entry (Err number) = refl

-- a turn of the loop
pub passing : (text rest after entry : List ℕ) (number : ℕ) → NextIs number rest (Some (entry, after)) → length rest ≤ length text
    → section_length (entries_from most_entries text) ≡ plus_length (length text - length rest) (section_length (entries_from (most_entries - number) rest))
    → (number + 1 ≤ most_entries) × (length after ≤ length text) × (section_length (entries_from most_entries text) ≡ plus_length (length text - length after) (section_length (entries_from (most_entries - (number + 1)) after)))
passing text rest after entry number next inside read =
    let others = entries_from (most_entries - (number + 1)) after in
    let so_far : length text - length rest + (3 + length entry) ≡ length text - length after = omega (arith, next.2, inside) in (
      omega (arith, next.0),
      omega (arith, next.2, inside),
      read
          ∙ ap (λ r. plus_length (length text - length rest) (section_length r)) next.1
          ∙ ap (plus_length (length text - length rest)) (length_before entry others)
          ∙ plus_plus (length text - length rest) (3 + length entry) (section_length others)
          ∙ ap (λ n. plus_length n (section_length others)) so_far,
    )

some_number : (a b : ℕ) → Some a ≡ Some b → a ≡ b
some_number a b is = cc

-- what was passed over is records and a closed gate
pub passed_is : (text : List ℕ) (size : ℕ) → AreBytes text → section_length (entries_from most_entries text) ≡ Some size → (old : List (List ℕ)) × IsReadJournal text old size
passed_is text size are is = by_read (entries_from most_entries text) refl is
  where
    by_read : (r : Result (List (List ℕ)) ℕ) → entries_from most_entries text ≡ r → section_length r ≡ Some size → (old : List (List ℕ)) × IsReadJournal text old size
    by_read (Err number) read e = absurd (cc e)
    by_read (Ok old) read e =
        let whole = read_is most_entries text old are read in
        (old, record { sizes = whole.sizes; few = whole.few; closed = whole.closed; size_is = sym (some_number (length (records old)) size e) })
