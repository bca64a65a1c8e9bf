-- Whole entries, with any kinds of commands: all of the bytes are read exactly as their fields, or
-- the first fault is named.
use Rattle.std.proofs.Common.{◌≡◌, ℕ, ◌+◌, ◌^◌, ◌<◌, ◌≤◌, Bool, true, false, cond, eqb, List, [], ◌∷◌, ◌++◌, length, take, drop, Result, Ok, Err, refl, sym, ap, subst, ◌∙◌, inl, inr, arith, length-append}
use Rattle.std.specs.Prelude.{◌⊎◌, ◌≢◌, ◌==◌, ◌&&◌, nat_le, nat_lt}
use Rattle.std.specs.Int.{w64}
use Rattle.std.proofs.lemmas.Bool.{cases_lt, eqb-true, le-leb, lt-leb, ltb-true, lt-ltb}
use Rattle.std.proofs.lemmas.List.{append-nil, nil_from_length, take-append-drop, take_all}
use Rattle.apron_base.specs.Histories.{Every}
use Rattle.apron_rules.specs.declared.parts.AirportParts.{AirportParts}
use Rattle.desk_asks.specs.declared.asks.Command.{Command}
use Rattle.desk_asks.specs.declared.asks.Entry.{Entry}
use Rattle.entry_bytes.specs.declared.faults.EntryFault.{EntryFault}
use Rattle.entry_bytes.specs.declared.faults.EntryFault.TheVariants.{BadField, BadKind, TrailingBytes, Memory}
use Rattle.entry_bytes.specs.declared.faults.ReadFault.{ReadFault}
use Rattle.entry_bytes.specs.declared.faults.ReadFault.TheVariants as faults
use Rattle.entry_bytes.specs.Faults.{BeginsWith, HasForm, fault_after}
use Rattle.entry_bytes.specs.Fields.{Field, number_field}
use Rattle.entry_bytes.specs.Gives.{FailsReading, IsWithin, entry_fault}
use Rattle.entry_bytes.specs.Laws.{AreBytes, most_bytes}
use Rattle.entry_bytes.specs.Parsing.{Kinds, parse_call, parse_command, parse_entry, read_with, with_none_left}
use Rattle.entry_bytes.specs.Readings.{RestOfEntry, ◌>>=◌, byte, give, or_no_kind}
use Rattle.entry_bytes.proofs.Fields.{byte-bad, reads_byte, reads_number, reads_number-in, wide64}
use Rattle.entry_bytes.proofs.Spells.{Announces, IsAt, IsFront, IsValid, ReadsOne, Spells, Spells-as, Spells-give, Spells-one, Spells-onward, Spells-then, announced-stops, end_of, err_is, going_on-err, left_at, ok_is, place_is, place_of, texts, texts-append}

abbrev pub At : ℕ → ℕ → Type 0
At place at = at ≡ place

reads_call : (airport : AirportParts) → ReadsOne airport parse_call (number_field w64) (λ call. nat_lt call (2 ^ 62) ≡ true)
reads_call airport = reads_number-in (λ call. nat_lt call (2 ^ 62)) (reads_number airport w64 wide64) (0, refl, wide64.zero)

abbrev pub entry_of : ℕ → Command → Entry
entry_of call command = record { call = call; command = command }

same_entry : (a b : ℕ) (c d : Command) → a ≡ b → c ≡ d → entry_of a c ≡ entry_of b d
same_entry a b c d e f = cc

-- an entry with a call number, whose command is such a one
abbrev pub IsCalled : (Command → Type 0) → Entry → Type 0
IsCalled V entry = (entry.call < 2 ^ 62) × V entry.command

abbrev pub fields_with : (Command → List Field) → Entry → List Field
fields_with spelling entry = number_field w64 entry.call ∷ spelling entry.command

pub entry_with-spells : (airport : AirportParts) (kinds : Kinds) (spelling : Command → List Field) (V : Command → Type 0) → Spells (At 8) airport (parse_command kinds) spelling V
    → Spells (At 0) airport (parse_entry kinds) (fields_with spelling) (IsCalled V)
unfolding parse_entry
entry_with-spells airport kinds spelling V s = Spells-as (fields_with spelling) (IsCalled V)
    (Spells-onward {Onward = At 8} (λ entry. entry.call) (IsCalled V) (Spells-one (reads_call airport))
    (λ call c. Spells-then (λ entry. entry.command) (λ entry. (entry.call ≡ call) × IsCalled V entry) s
    (λ command d. Spells-give (entry_of call command) (λ entry. (entry.command ≡ command) × ((entry.call ≡ call) × IsCalled V entry)) (refl, (refl, (ltb-true call (2 ^ 62) c, d)))
    (λ entry h. same_entry entry.call call entry.command command h.1.0 h.0))
    (λ entry h. h.1.1))
    (λ entry h. lt-ltb entry.call (2 ^ 62) h.0)
    (λ call at from valid. omega (arith, from)))
    (λ entry h. h) (λ entry h. h) (λ entry h. ap (λ fs. number_field w64 entry.call ∷ fs) (sym (append-nil (spelling entry.command))))

-- ---- where the kind is

-- what the ninth byte has to do with a fault there
abbrev pub IsKindShown : List ℕ → EntryFault → Type 0
IsKindShown bytes fault = ((fault ≡ BadKind) × (8 < length bytes)) ⊎ ((fault ≡ BadField 8) × (length bytes ≤ 8))

elsewhere : (low : ℕ) (bytes : List ℕ) (fault : EntryFault) → 8 < low → IsAt low fault → IsAt 8 fault → IsKindShown bytes fault
elsewhere low bytes BadKind lt here there = absurd (omega (arith, lt, here))
elsewhere low bytes (BadField at) lt here there = absurd (omega (arith, lt, here, there))
elsewhere low bytes (TrailingBytes at) lt here there = absurd here
elsewhere low bytes Memory lt here there = absurd here

module _ (airport : AirportParts) (kinds : Kinds) (V : Command → Type 0) (kind_of : Command → ℕ) (back : Command → List Field)
    (all : (kind : ℕ) → Announces airport (kinds kind) back (λ command. (kind_of command ≡ kind) × V command)) where
  command_shown : (bytes : List ℕ) (left : RestOfEntry) (fault : EntryFault) → length bytes ≡ 8 + length left.bytes → left.at ≡ 8 → AreBytes left.bytes → IsAt 8 fault → parse_command kinds left ≡ Err fault
      → IsKindShown bytes fault
  unfolding parse_command
  command_shown bytes left fault len at fits there e = elim (going_on-err (byte left) (λ kind. or_no_kind BadKind (kinds kind)) fault e) [
    | inl bad ↦
        let cut = byte-bad left fault bad in
        let few : length bytes ≤ 8 = omega (arith, len, ap length cut.1) in
        inr (cut.0 ∙ ap BadField at, few)
    | inr (x, good, rest) ↦
        let one = ((reads_byte airport).takes left x fits good).taken in
        let more : 8 < length bytes = omega (arith, len, ap length one.parts) in
        elim (announced-stops airport back (λ command. (kind_of command ≡ x.0) × V command) BadKind (kinds x.0) x.1 fault (all x.0) one.fits rest) [
          | inl missing ↦ inl (sym missing, more)
          | inr st ↦
              let lt : 8 < x.1.at + st.place = omega (arith, one.place, at) in
              elsewhere (x.1.at + st.place) bytes fault lt st.at there
        ]
  ]

  pub kind_shown : (bytes : List ℕ) (fault : EntryFault) → AreBytes bytes → IsAt 8 fault → parse_entry kinds (left_at 0 bytes) ≡ Err fault → IsKindShown bytes fault
  unfolding parse_entry
  kind_shown bytes fault fits there e = elim (going_on-err (parse_call (left_at 0 bytes)) (λ call. parse_command kinds >>= λ command. give (entry_of call command)) fault e) [
    | inl bad ↦
        let first : IsAt 8 (BadField 0) = subst (IsAt 8) ((reads_call airport).front (left_at 0 bytes) fault bad) there in
        absurd (omega (arith, first))
    | inr (x, good, rest) ↦
        let one = ((reads_call airport).takes (left_at 0 bytes) x fits good).taken in
        let len : length bytes ≡ 8 + length x.1.bytes = ap length one.parts ∙ omega arith in
        elim (going_on-err (parse_command kinds x.1) (λ command. give (entry_of x.0 command)) fault rest) [
          | inl bad ↦ command_shown bytes x.1 fault len one.place one.fits there bad
          | inr (y, fine, none) ↦ absurd cc
        ]
  ]

-- the fault at a place
abbrev named_at : ℕ → Bool → Bool → EntryFault
named_at place eight long = cond (eight && long) BadKind (BadField place)

not_eight : (fault : EntryFault) (place : ℕ) → (place == 8) ≡ false → IsAt place fault → fault ≡ BadField place
not_eight (BadField at) place other there = ap BadField there
not_eight BadKind place other there = let eight : (place == 8) ≡ true = ap (λ n. n == 8) there in absurd cc
not_eight (TrailingBytes at) place other there = absurd there
not_eight Memory place other there = absurd there

eight_named : (bytes : List ℕ) (fault : EntryFault) (place : ℕ) (long : Bool) → nat_lt 8 (length bytes) ≡ long → place ≡ 8 → IsKindShown bytes fault → fault ≡ named_at place true long
eight_named bytes fault place true is eight shown = elim shown [
  | inl kind ↦ kind.0
  | inr cut ↦ let more = ltb-true 8 (length bytes) is in absurd (omega (arith, more, cut.1))
]
eight_named bytes fault place false is eight shown = elim shown [
  | inl kind ↦ let yes = lt-ltb 8 (length bytes) kind.1 in absurd cc
  | inr cut ↦ cut.0 ∙ ap BadField (sym eight)
]

named : (bytes : List ℕ) (fault : EntryFault) (place : ℕ) (eight : Bool) → (place == 8) ≡ eight → IsAt place fault → (IsAt 8 fault → IsKindShown bytes fault)
    → fault ≡ named_at place eight (nat_lt 8 (length bytes))
named bytes fault place false is at shown = not_eight fault place is at
named bytes fault place true is at shown =
    let eight : place ≡ 8 = eqb-true place 8 is in
    eight_named bytes fault place (nat_lt 8 (length bytes)) refl eight (shown (subst (λ n. IsAt n fault) eight at))

-- ---- all of the bytes

ended_ok : (read : Result (Entry × RestOfEntry) EntryFault) (entry : Entry) → with_none_left read ≡ Ok entry → (x : Entry × RestOfEntry) × (read ≡ Ok x) × (length x.1.bytes ≡ 0) × (x.0 ≡ entry)
ended_ok (Ok x) entry e = let parts = tested (eqb (length x.1.bytes) 0) x.0 entry (TrailingBytes x.1.at) e in (x, refl, eqb-true (length x.1.bytes) 0 parts.0, parts.1)
  where
    tested : (test : Bool) (y z : Entry) (fault : EntryFault) → cond test (Ok y) (Err fault) ≡ Ok z → (test ≡ true) × (y ≡ z)
    tested true y z fault e = (refl, ok_is y z e)
    tested false y z fault e = absurd cc
ended_ok (Err fault) entry e = absurd cc

ended_err : (read : Result (Entry × RestOfEntry) EntryFault) (fault : EntryFault) → with_none_left read ≡ Err fault
    → (read ≡ Err fault) ⊎ ((x : Entry × RestOfEntry) × (read ≡ Ok x) × (TrailingBytes x.1.at ≡ fault))
ended_err (Ok x) fault e = inr (x, refl, tested (eqb (length x.1.bytes) 0) x.0 (TrailingBytes x.1.at) fault e)
  where
    tested : (test : Bool) (y : Entry) (missing found : EntryFault) → cond test (Ok y) (Err missing) ≡ Err found → missing ≡ found
    tested true y missing found e = absurd cc
    tested false y missing found e = err_is {A = Entry} missing found e
ended_err (Err found) fault e = inl (ap Err (err_is {A = Entry} found fault e))

front_of : (airport : AirportParts) (bytes : List ℕ) (fields : List Field) (count place : ℕ) → BeginsWith airport bytes fields count place → IsFront airport bytes (take count fields) place
front_of airport bytes fields count place h = record { rest = h.rest; is = h.is; forms = h.forms; place_is = h.place_is }

begins_with : (airport : AirportParts) (bytes : List ℕ) (fields : List Field) (count place : ℕ) → IsFront airport bytes (take count fields) place → BeginsWith airport bytes fields count place
begins_with airport bytes fields count place h = record { rest = h.rest; is = h.is; forms = h.forms; place_is = h.place_is }

pub front-short : (count : ℕ) (fields : List Field) → length (texts (take count fields)) ≤ length (texts fields)
front-short count fields =
    let parts = ap length (sym (texts-append (take count fields) (drop count fields)) ∙ ap texts (take-append-drop count fields)) in
    omega (arith, parts, length-append (texts (take count fields)) (texts (drop count fields)))

take-whole : (fields : List Field) → take (length fields) fields ≡ fields
take-whole [] = refl
take-whole (field ∷ fields) = ap (λ fs. field ∷ fs) (take-whole fields)

-- the first fault, and how far it is at most
pub record Faults (airport : AirportParts) (fields : Entry → List Field) (V : Entry → Type 0) (bytes : List ℕ) (fault : EntryFault) : Type 0 where
  pub entry : Entry
  pub valid : IsValid fields V entry
  pub count : ℕ
  pub place : ℕ
  pub begins : BeginsWith airport bytes (fields entry) count place
  pub most : (other : Entry) (more later : ℕ) → IsValid fields V other → BeginsWith airport bytes (fields other) more later → later ≤ place
  pub is : fault ≡ fault_after bytes (fields entry) count place
  pub near : place ≤ length (texts (fields entry))

module _ (airport : AirportParts) (kinds : Kinds) (fields : Entry → List Field) (V : Entry → Type 0) (s : Spells (At 0) airport (parse_entry kinds) fields V) where
  pub whole_is_read : (entry : Entry) → IsValid fields V entry → Every (HasForm airport) (fields entry) → read_with kinds (texts (fields entry)) ≡ Ok entry
  whole_is_read entry valid forms =
      ap (λ bytes. with_none_left (parse_entry kinds (left_at 0 bytes))) (sym (append-nil (texts (fields entry)))) ∙ ap with_none_left (s.again entry 0 [] valid forms)

  pub whole_is_spelt : (bytes : List ℕ) (entry : Entry) → AreBytes bytes → read_with kinds bytes ≡ Ok entry
      → (bytes ≡ texts (fields entry)) × IsValid fields V entry × Every (HasForm airport) (fields entry)
  whole_is_spelt bytes entry fits e =
      let x = ended_ok (parse_entry kinds (left_at 0 bytes)) entry e in
      let one = s.takes (left_at 0 bytes) x.0 fits x.1 in
      let nothing : x.0.1.bytes ≡ [] = nil_from_length x.0.1.bytes x.2 in
      let whole : bytes ≡ texts (fields x.0.0) = one.taken.parts ∙ ap (λ (rest : List ℕ). texts (fields x.0.0) ++ rest) nothing ∙ append-nil (texts (fields x.0.0)) in
      subst (λ other. (bytes ≡ texts (fields other)) × IsValid fields V other × Every (HasForm airport) (fields other)) x.3 (whole, one.valid, one.forms)

  none_further : (bytes : List ℕ) (read : Result (Entry × RestOfEntry) EntryFault) (end : ℕ) → AreBytes bytes → parse_entry kinds (left_at 0 bytes) ≡ read → end_of read ≡ end
      → (other : Entry) (more later : ℕ) → IsValid fields V other → BeginsWith airport bytes (fields other) more later → later ≤ end
  none_further bytes read end fits e is other more later valid begins =
      let h = s.within (left_at 0 bytes) other more later refl fits valid (front_of airport bytes (fields other) more later begins) in
      omega (arith, h, ap end_of e, is)

  pub whole_faults : (bytes : List ℕ) (fault : EntryFault) → AreBytes bytes → (IsAt 8 fault → parse_entry kinds (left_at 0 bytes) ≡ Err fault → IsKindShown bytes fault) → read_with kinds bytes ≡ Err fault
      → Faults airport fields V bytes fault
  whole_faults bytes fault fits shown e = elim (ended_err (parse_entry kinds (left_at 0 bytes)) fault e) [
    | inl bad ↦
        let st = s.stops (left_at 0 bytes) fault refl fits bad in
        let fs = fields st.value in
        let zero : 0 + st.place ≡ st.place = omega arith in
        let at = subst (λ n. IsAt n fault) zero st.at in
        let more : nat_le (length fs) st.count ≡ false = lt-leb (length fs) st.count st.few in
        let after = named bytes fault st.place (st.place == 8) refl at (λ there. shown there bad) in
        record {
          entry = st.value;
          valid = st.valid;
          count = st.count;
          place = st.place;
          begins = begins_with airport bytes fs st.count st.place st.front;
          most = none_further bytes (Err fault) st.place fits bad (place_is st.place fault at);
          is = after ∙ ap (λ (b : Bool). cond b (TrailingBytes st.place) (named_at st.place (st.place == 8) (nat_lt 8 (length bytes)))) (sym more);
          near = omega (arith, st.front.place_is, front-short st.count fs);
        }
    | inr (x, good, trailing) ↦
        let one = s.takes (left_at 0 bytes) x fits good in
        let fs = fields x.0 in
        let whole : IsFront airport bytes fs x.1.at = record { rest = x.1.bytes; is = one.taken.parts; forms = one.forms; place_is = omega (arith, one.taken.place) } in
        let le : length fs ≤ length fs = omega arith in
        record {
          entry = x.0;
          valid = one.valid;
          count = length fs;
          place = x.1.at;
          begins = begins_with airport bytes fs (length fs) x.1.at (subst (λ gs. IsFront airport bytes gs x.1.at) (sym (take-whole fs)) whole);
          most = none_further bytes (Ok x) x.1.at fits good refl;
          is = sym trailing ∙ ap (λ (b : Bool). cond b (TrailingBytes x.1.at) (named_at x.1.at (x.1.at == 8) (nat_lt 8 (length bytes)))) (sym (le-leb (length fs) (length fs) le));
          near = omega (arith, whole.place_is);
        }
  ]

-- ---- one fault

-- what a reading of all of the bytes comes to
abbrev verdict : List ℕ → Result (Entry × RestOfEntry) EntryFault → EntryFault
verdict bytes (Ok x) = TrailingBytes x.1.at
verdict bytes (Err fault) = named_at (place_of fault) (place_of fault == 8) (nat_lt 8 (length bytes))

abbrev after_place : List ℕ → Bool → ℕ → EntryFault
after_place bytes ended place = cond ended (TrailingBytes place) (named_at place (place == 8) (nat_lt 8 (length bytes)))

module _ (airport : AirportParts) (kinds : Kinds) (fields : Entry → List Field) (V : Entry → Type 0) (s : Spells (At 0) airport (parse_entry kinds) fields V) (bytes : List ℕ) (are : AreBytes bytes) where
  verdict_is : (fault : EntryFault) → (f : Faults airport fields V bytes fault) → (read : Result (Entry × RestOfEntry) EntryFault) → parse_entry kinds (left_at 0 bytes) ≡ read → fault ≡ verdict bytes read
  verdict_is fault f (Ok x) e =
      let fs = fields f.entry in
      let reached = s.within (left_at 0 bytes) f.entry f.count f.place refl are f.valid (front_of airport bytes fs f.count f.place f.begins) in
      let one = s.takes (left_at 0 bytes) x are e in
      let all = fields x.0 in
      let whole : IsFront airport bytes all x.1.at = record { rest = x.1.bytes; is = one.taken.parts; forms = one.forms; place_is = omega (arith, one.taken.place) } in
      let most = f.most x.0 (length all) x.1.at one.valid (begins_with airport bytes all (length all) x.1.at (subst (λ gs. IsFront airport bytes gs x.1.at) (sym (take-whole all)) whole)) in
      let here : 0 + f.place ≡ x.1.at = omega (arith, reached, ap end_of e, most) in
      let place : f.place ≡ x.1.at = omega (arith, here) in
      let ended = s.whole (left_at 0 bytes) f.entry f.count f.place x refl are f.valid (front_of airport bytes fs f.count f.place f.begins) e here in
      f.is ∙ ap (λ b. after_place bytes b f.place) (le-leb (length fs) f.count ended) ∙ ap TrailingBytes place
  verdict_is fault f (Err found) e =
      let fs = fields f.entry in
      let front = front_of airport bytes fs f.count f.place f.begins in
      let reached = s.within (left_at 0 bytes) f.entry f.count f.place refl are f.valid front in
      let st = s.stops (left_at 0 bytes) found refl are e in
      let most = f.most st.value st.count st.place st.valid (begins_with airport bytes (fields st.value) st.count st.place st.front) in
      let there = place_is (0 + st.place) found st.at in
      let place : f.place ≡ place_of found = omega (arith, reached, ap end_of e, most, there) in
      elim (cases_lt f.count (length fs)) [
        | inl lt ↦ f.is ∙ ap (λ b. after_place bytes b f.place) (lt-leb (length fs) f.count lt) ∙ ap (λ n. named_at n (n == 8) (nat_lt 8 (length bytes))) place
        | inr le ↦
            let all : take f.count fs ≡ fs = take_all f.count fs le in
            let whole = subst (λ gs. IsFront airport bytes gs f.place) all front in
            let good = ap (λ b. parse_entry kinds (left_at 0 b)) whole.is ∙ s.again f.entry 0 whole.rest f.valid whole.forms in
            let both = sym good ∙ e in
            absurd cc
      ]

  pub faults_once : (one other : EntryFault) → Faults airport fields V bytes one → Faults airport fields V bytes other → one ≡ other
  faults_once one other a b = verdict_is one a (parse_entry kinds (left_at 0 bytes)) refl ∙ sym (verdict_is other b (parse_entry kinds (left_at 0 bytes)) refl)

-- ---- places

IsWithin-after : (bytes : List ℕ) (fields : List Field) (count place most : ℕ) (whole kind : Bool) → place ≤ most → IsWithin most (cond whole (TrailingBytes place) (cond kind BadKind (BadField place)))
IsWithin-after bytes fields count place most true kind le = le
IsWithin-after bytes fields count place most false true le = tt
IsWithin-after bytes fields count place most false false le = le

pub faults_near : (airport : AirportParts) (fields : Entry → List Field) (V : Entry → Type 0) (bytes : List ℕ) (fault : EntryFault) → ((entry : Entry) → IsValid fields V entry → length (texts (fields entry)) ≤ most_bytes)
    → Faults airport fields V bytes fault → IsWithin most_bytes fault
faults_near airport fields V bytes fault short f =
    let fs = fields f.entry in
    let few = short f.entry f.valid in
    let le : f.place ≤ most_bytes = omega (arith, few, f.near) in
    subst (IsWithin most_bytes) (sym f.is)
    (IsWithin-after bytes fs f.count f.place most_bytes (nat_le (length fs) f.count) (f.place == 8 && nat_lt 8 (length bytes)) le)

pub near_of : (read : Result Entry EntryFault) (fault : ReadFault) → ((found : EntryFault) → read ≡ Err found → IsWithin most_bytes found) → FailsReading fault read
    → IsWithin most_bytes (entry_fault fault)
near_of read faults.BadKind near e = tt
near_of read (faults.BadField at) near e = near (BadField at) e
near_of read (faults.TrailingBytes at) near e = near (TrailingBytes at) e
near_of read faults.Memory near e = tt

-- a fault that is none of memory is that of the reading
pub read_of : (read : Result Entry EntryFault) (fault : ReadFault) → FailsReading fault read → entry_fault fault ≢ Memory → read ≡ Err (entry_fault fault)
read_of read faults.BadKind e kept = e
read_of read (faults.BadField at) e kept = e
read_of read (faults.TrailingBytes at) e kept = e
read_of read faults.Memory e kept = absurd (kept refl)
