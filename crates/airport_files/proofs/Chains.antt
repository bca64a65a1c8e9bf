-- The walk key by key, with the texts of its keys, says what the file says.
use Rattle.std.proofs.Common.{◌≡◌, ℕ, ◌+◌, List, [], ◌∷◌, ◌++◌, Bool, true, false, if◌then◌else◌, Option, None, Some, option_and_then, option_map, Result, Ok, Err, codes, decimal, refl, sym, ◌∙◌, ap, append_assoc}
use Rattle.std.specs.Prelude.{ok_or, unwrap_or}
use Rattle.apron_base.specs.ResultChain.{◌>>=◌}
use Rattle.apron_dates.specs.declared.day.Date.{Date}
use Rattle.csv_records.specs.Tables.{each_from}
use Rattle.toml.specs.Data.{Data, Members, Items, get_member, as_table, table, array, item, no_items}
use Rattle.apron_rules.specs.declared.parts.AirportParts.{AirportParts}
use Rattle.apron_rules.specs.declared.parts.Frontage.{Frontage}
use Rattle.apron_rules.specs.declared.parts.StandRow.{StandRow}
use Rattle.apron_rules.specs.declared.parts.PairRow.{PairRow}
use Rattle.apron_rules.specs.declared.parts.TypeRow.{TypeRow}
use Rattle.airport_files.specs.declared.keys.HeadKey.TheVariants.{Station, FirstDay, Days, TaxiIn, Tow}
use Rattle.airport_files.specs.declared.keys.FrontageKey.TheVariants as frontage
use Rattle.airport_files.specs.declared.keys.StandKey.TheVariants as stand
use Rattle.airport_files.specs.declared.keys.PairKey.TheVariants as pair
use Rattle.airport_files.specs.declared.keys.FileKey.{FileKey}
use Rattle.airport_files.specs.declared.keys.FileKey.TheVariants as key
use Rattle.airport_files.specs.declared.keys.WalkFault.{WalkFault}
use Rattle.airport_files.specs.declared.keys.WalkFault.TheVariants.{Wrong}
use Rattle.airport_files.specs.declared.read.FileFault.{FileFault}
use Rattle.airport_files.specs.declared.read.FileFault.TheVariants.{MissingKey, WrongKind}
use Rattle.airport_files.specs.declared.rows.AirportTable.{AirportTable}
use Rattle.airport_files.specs.declared.layout.Layout.{Layout}
use Rattle.airport_files.specs.Forms.{array_of, date_of, items_in, letter_of, name_of, station_of, toml_number}
use Rattle.airport_files.specs.Keys.{form_if_there, needed, optional, row_start, rows_at}
use Rattle.airport_files.specs.Named.{airport_parts, file_fault, named}
use Rattle.airport_files.specs.Rows.{frontage_at, pair_at, parts_of, stand_at}
use Rattle.airport_files.specs.Walk.{are_tables, at_key, frontage_in, frontage_objects, frontage_value, frontages_of, head_in, head_value, if_there, in_form, in_form_if_there, layout_of, numbers_at, numbers_value, pair_in, pair_value, pairs_of, rows_value, stand_half, stand_in, stand_value, stands_of, toml_numbers, walk_rows_from}
use Rattle.airport_files.specs.Words.{key_text}

-- what is made of what the walk reads, or its fault with the text of the key
abbrev said : {A B : Type 0} → (A → B) → Result A WalkFault → Result B FileFault
said made (Ok x) = Ok (made x)
said made (Err fault) = Err (file_fault fault)

-- what the walk reads, or its fault with the text of the key
abbrev told : {A : Type 0} → Result A WalkFault → Result A FileFault
told read = said (λ x. x) read

-- a step of the walk, and the same step of the file
step : {A B C : Type 0} (made : B → C) (read : Result A WalkFault) (says : Result A FileFault) (next : A → Result B WalkFault) (more : A → Result C FileFault) → told read ≡ says → ((x : A) → said made (next x) ≡ more x)
    → said made (read >>= next) ≡ (says >>= more)
step made (Ok x) says next more e rest = rw (← e) (rest x)
step made (Err fault) says next more e rest = rw (← e) refl

-- the same of a walk within a longer one
inner-step : {A B C D : Type 0} (made : C → D) (read : Result A WalkFault) (says : Result A FileFault) (next : A → Result B WalkFault) (later : B → Result C WalkFault) (more : A → Result D FileFault) → told read ≡ says
    → ((x : A) → said made (next x >>= later) ≡ more x) → said made ((read >>= next) >>= later) ≡ (says >>= more)
inner-step made (Ok x) says next later more e rest = rw (← e) (rest x)
inner-step made (Err fault) says next later more e rest = rw (← e) refl

form-said : {A : Type 0} (at : FileKey) (found : Option A) → told (in_form at found) ≡ ok_or found (WrongKind (key_text at))
form-said at None = refl
form-said at (Some x) = refl

key-said : {A : Type 0} (form : Data → Option A) (at : FileKey) (held : Option Data) → told (at_key form at held) ≡ (ok_or held (MissingKey (key_text at)) >>= (λ value. ok_or (form value) (WrongKind (key_text at))))
key-said form at None = refl
key-said form at (Some d) = form-said at (form d)

-- what a needed key says
needed-said : {A : Type 0} (form : Data → Option A) (at : FileKey) (start word : List ℕ) (ms : Members) → key_text at ≡ start ++ word → told (at_key form at (get_member word ms)) ≡ needed form start ms word
needed-said form at start word ms e =
    key-said form at (get_member word ms) ∙ ap (λ (text : List ℕ). ok_or (get_member word ms) (MissingKey text) >>= (λ value. ok_or (form value) (WrongKind text))) e

there-said : {A : Type 0} (at : FileKey) (found : Option A) → told (in_form_if_there at found) ≡ ok_or (option_map Some found) (WrongKind (key_text at))
there-said at None = refl
there-said at (Some x) = refl

if_there-said : {A : Type 0} (form : Data → Option A) (at : FileKey) (held : Option Data) → told (if_there form at held) ≡ ok_or (form_if_there form held) (WrongKind (key_text at))
if_there-said form at None = refl
if_there-said form at (Some d) = there-said at (form d)

-- what a key says that may be missing
optional-said : {A : Type 0} (form : Data → Option A) (at : FileKey) (start word : List ℕ) (ms : Members) → key_text at ≡ start ++ word → told (if_there form at (get_member word ms)) ≡ optional form start ms word
optional-said form at start word ms e =
    if_there-said form at (get_member word ms) ∙ ap (λ (text : List ℕ). ok_or (form_if_there form (get_member word ms)) (WrongKind text)) e

-- the text of a key of a row
row_text : (before : List ℕ) (k : ℕ) (word : List ℕ) → before ++ (decimal k ++ (codes "." ++ word)) ≡ before ++ ((decimal k ++ codes ".") ++ word)
row_text before k word = ap (λ (text : List ℕ). before ++ text) (sym (append_assoc (decimal k) (codes ".") word))

-- a needed key, and then the others
needed-step : {A B C : Type 0} (made : B → C) (form : Data → Option A) (at : FileKey) (start word : List ℕ) (ms : Members) (next : A → Result B WalkFault) (more : A → Result C FileFault) → key_text at ≡ start ++ word
    → ((x : A) → said made (next x) ≡ more x) → said made (at_key form at (get_member word ms) >>= next) ≡ (needed form start ms word >>= more)
needed-step made form at start word ms next more e rest = step made (at_key form at (get_member word ms)) (needed form start ms word) next more (needed-said form at start word ms e) rest

-- the same of a walk within a longer one
needed-inner : {A B C D : Type 0} (made : C → D) (form : Data → Option A) (at : FileKey) (start word : List ℕ) (ms : Members) (next : A → Result B WalkFault) (later : B → Result C WalkFault) (more : A → Result D FileFault) → key_text at ≡ start ++ word
    → ((x : A) → said made (next x >>= later) ≡ more x) → said made ((at_key form at (get_member word ms) >>= next) >>= later) ≡ (needed form start ms word >>= more)
needed-inner made form at start word ms next later more e rest = inner-step made (at_key form at (get_member word ms)) (needed form start ms word) next later more (needed-said form at start word ms e) rest

-- an array of numbers, number after number
numbers_all : (at : FileKey) (found : Option ℕ) (more : Option (List ℕ)) → (in_form at found >>= (λ first. in_form at more >>= (λ rest. Ok (first ∷ rest))))
    ≡ in_form at (option_and_then (λ first. option_and_then (λ rest. Some (first ∷ rest)) more) found)
numbers_all at None more = refl
numbers_all at (Some n) None = refl
numbers_all at (Some n) (Some rest) = refl

numbers_from-is : (at : FileKey) (ds : Items) → toml_numbers at ds ≡ in_form at (items_in toml_number ds)
unfolding toml_numbers
numbers_from-is at no_items = refl
numbers_from-is at (item d ds) =
    ap (λ (rest : Result (List ℕ) WalkFault). in_form at (toml_number d) >>= (λ first. rest >>= (λ more. Ok (first ∷ more)))) (numbers_from-is at ds) ∙ numbers_all at (toml_number d) (items_in toml_number ds)

numbers_value-is : (at : FileKey) (d : Data) → numbers_value at d ≡ in_form at (array_of toml_number d)
numbers_value-is at (array ds) = numbers_from-is at ds
numbers_value-is at _ = refl

numbers_at-is : (at : FileKey) (held : Option Data) → numbers_at at held ≡ at_key (array_of toml_number) at held
numbers_at-is at None = refl
numbers_at-is at (Some d) = numbers_value-is at d

objects-said : (k : ℕ) (ms : Members) → told (frontage_objects k ms) ≡ needed (array_of toml_number) (row_start (codes "frontage") k) ms (codes "objects")
objects-said k ms =
    let at = key.Frontage k frontage.Objects in
    ap (λ (read : Result (List ℕ) WalkFault). told read) (numbers_at-is at (get_member (codes "objects") ms))
    ∙ needed-said (array_of toml_number) at (row_start (codes "frontage") k) (codes "objects") ms (row_text (codes "frontage ") k (codes "objects"))

-- what a frontage says
frontage-said : (k : ℕ) (ms : Members) → told (frontage_value k (table ms)) ≡ frontage_at (row_start (codes "frontage") k) ms
unfolding frontage_in frontage_at
frontage-said k ms =
    let start = row_start (codes "frontage") k in
    needed-step (λ (row : Frontage). row) name_of (key.Frontage k frontage.Name) start (codes "name") ms _ _ (row_text (codes "frontage ") k (codes "name")) (λ name.
    step (λ (row : Frontage). row) (frontage_objects k ms) (needed (array_of toml_number) start ms (codes "objects")) _ _ (objects-said k ms) (λ objects. refl))

-- what a stand says
stand-said : (k : ℕ) (ms : Members) → told (stand_value k (table ms)) ≡ stand_at (row_start (codes "stand") k) ms
unfolding stand_in stand_at
stand-said k ms =
    let start = row_start (codes "stand") k in
    let same = λ (row : StandRow). row in
    let text = row_text (codes "stand ") k in
    needed-step same name_of (key.Stand k stand.Name) start (codes "name") ms _ _ (text (codes "name")) (λ name.
    needed-step same name_of (key.Stand k stand.Frontage) start (codes "frontage") ms _ _ (text (codes "frontage")) (λ on.
    needed-step same toml_number (key.Stand k stand.Centre) start (codes "centre") ms _ _ (text (codes "centre")) (λ centre.
    needed-step same letter_of (key.Stand k stand.Letter) start (codes "letter") ms _ _ (text (codes "letter")) (λ letter.
    needed-step same toml_number (key.Stand k stand.Buffer) start (codes "buffer") ms _ _ (text (codes "buffer")) (λ buffer.
    step same (stand_half k ms) (optional name_of start ms (codes "half_of")) _ _ (optional-said name_of (key.Stand k stand.HalfOf) start (codes "half_of") ms (text (codes "half_of"))) (λ half. refl))))))

-- what a pair restriction says
pair-said : (k : ℕ) (ms : Members) → told (pair_value k (table ms)) ≡ pair_at (row_start (codes "pair") k) ms
unfolding pair_in pair_at
pair-said k ms =
    let start = row_start (codes "pair") k in
    let same = λ (row : PairRow). row in
    let text = row_text (codes "pair ") k in
    needed-step same name_of (key.Pair k pair.A) start (codes "a") ms _ _ (text (codes "a")) (λ a.
    needed-step same letter_of (key.Pair k pair.La) start (codes "la") ms _ _ (text (codes "la")) (λ la.
    needed-step same name_of (key.Pair k pair.B) start (codes "b") ms _ _ (text (codes "b")) (λ b.
    needed-step same letter_of (key.Pair k pair.Lb) start (codes "lb") ms _ _ (text (codes "lb")) (λ lb. refl))))

-- the tables among some items
abbrev tables_among : Items → List Members
tables_among no_items = []
tables_among (item (table ms) ds) = ms ∷ tables_among ds
tables_among (item _ ds) = tables_among ds

one_more : (ms : Members) (all : Bool) (tables : List Members) → option_and_then (λ rest. Some (ms ∷ rest)) (if all then Some tables else None) ≡ (if all then Some (ms ∷ tables) else None)
one_more ms true tables = refl
one_more ms false tables = refl

tables-are : (ds : Items) → items_in as_table ds ≡ (if are_tables ds then Some (tables_among ds) else None)
tables-are no_items = refl
tables-are (item (table ms) ds) = ap (option_and_then (λ rest. Some (ms ∷ rest))) (tables-are ds) ∙ one_more ms (are_tables ds) (tables_among ds)
tables-are (item _ ds) = refl

-- what the rows of an array of tables say, one after the other
rows_from-said : {A : Type 0} (read : ℕ → Data → Result A WalkFault) (says : ℕ → Members → Result A FileFault) → ((k : ℕ) (ms : Members) → told (read k (table ms)) ≡ says k ms)
    → (k : ℕ) (ds : Items) → are_tables ds ≡ true → told (walk_rows_from read k ds) ≡ each_from says k (tables_among ds)
unfolding walk_rows_from each_from
rows_from-said read says reads k no_items all = refl
rows_from-said {A} read says reads k (item (table ms) ds) all =
    let same = λ (rows : List A). rows in
    step same (read k (table ms)) (says k ms) _ _ (reads k ms) (λ first.
    step same (walk_rows_from read (k + 1) ds) (each_from says (k + 1) (tables_among ds)) _ _ (rows_from-said read says reads (k + 1) ds all) (λ more. refl))
rows_from-said read says reads k (item _ ds) all = absurd (cc)

rows_by : {A : Type 0} (all : Bool) (at : FileKey) (read : Result (List A) WalkFault) (says : List Members → Result (List A) FileFault) (tables : List Members) → (all ≡ true → told read ≡ says tables)
    → told (if all then read else Err (Wrong at)) ≡ (ok_or (option_map Some (if all then Some tables else None)) (WrongKind (key_text at)) >>= (λ found. says (unwrap_or found [])))
rows_by true at read says tables rows = rows refl
rows_by false at read says tables rows = refl

-- what an array of tables says, which may be missing
rows_value-said : {A : Type 0} (read : ℕ → Data → Result A WalkFault) (says : ℕ → Members → Result A FileFault) → ((k : ℕ) (ms : Members) → told (read k (table ms)) ≡ says k ms)
    → (at : FileKey) (held : Option Data) → told (rows_value read at held) ≡ (ok_or (form_if_there (array_of as_table) held) (WrongKind (key_text at)) >>= (λ tables. each_from says 1 (unwrap_or tables [])))
unfolding each_from
rows_value-said read says reads at None = refl
rows_value-said read says reads at (Some (array ds)) =
    rows_by (are_tables ds) at (walk_rows_from read 1 ds) (each_from says 1) (tables_among ds) (rows_from-said read says reads 1 ds)
    ∙ ap (λ (found : Option (List Members)). ok_or (option_map Some found) (WrongKind (key_text at)) >>= (λ tables. each_from says 1 (unwrap_or tables []))) (sym (tables-are ds))
rows_value-said read says reads at (Some _) = refl

frontages-said : (ms : Members) → told (frontages_of ms) ≡ rows_at frontage_at ms (codes "frontage")
frontages-said ms = rows_value-said frontage_value (λ k. frontage_at (row_start (codes "frontage") k)) frontage-said key.Frontages (get_member (codes "frontage") ms)

stands-said : (ms : Members) → told (stands_of ms) ≡ rows_at stand_at ms (codes "stand")
stands-said ms = rows_value-said stand_value (λ k. stand_at (row_start (codes "stand") k)) stand-said key.Stands (get_member (codes "stand") ms)

pairs-said : (ms : Members) → told (pairs_of ms) ≡ rows_at pair_at ms (codes "pair")
pairs-said ms = rows_value-said pair_value (λ k. pair_at (row_start (codes "pair") k)) pair-said key.Pairs (get_member (codes "pair") ms)

-- the keys of the table `airport`, and what comes after them
abbrev airport_then : {C : Type 0} → (List ℕ → Date → ℕ → ℕ → ℕ → Result C FileFault) → Members → Result C FileFault
airport_then more ms = do
  station ← needed station_of (codes "airport.") ms (codes "station")
  first ← needed date_of (codes "airport.") ms (codes "first_day")
  days ← needed toml_number (codes "airport.") ms (codes "days")
  taxi_in ← needed toml_number (codes "airport.") ms (codes "taxi_in")
  tow ← needed toml_number (codes "airport.") ms (codes "tow")
  more station first days taxi_in tow

-- what the table `airport` says, and then the rest of the file
airport-said : {B C : Type 0} (made : B → C) (held : Option Data) (next : AirportTable → Result B WalkFault) (more : List ℕ → Date → ℕ → ℕ → ℕ → Result C FileFault)
    → ((head : AirportTable) → said made (next head) ≡ more head.station head.first head.days head.taxi_in head.tow)
    → said made (head_value held >>= next) ≡ ((ok_or held (MissingKey (codes "airport")) >>= (λ value. ok_or (as_table value) (WrongKind (codes "airport")))) >>= airport_then more)
unfolding head_in
airport-said made None next more rest = refl
airport-said made (Some (table ms)) next more rest =
    let start = codes "airport." in
    needed-inner made station_of (key.Head Station) start (codes "station") ms _ next _ refl (λ station.
    needed-inner made date_of (key.Head FirstDay) start (codes "first_day") ms _ next _ refl (λ first.
    needed-inner made toml_number (key.Head Days) start (codes "days") ms _ next _ refl (λ days.
    needed-inner made toml_number (key.Head TaxiIn) start (codes "taxi_in") ms _ next _ refl (λ taxi_in.
    needed-inner made toml_number (key.Head Tow) start (codes "tow") ms _ next _ refl (λ tow. rest (record { station = station; first = first; days = days; taxi_in = taxi_in; tow = tow }))))))
airport-said made (Some _) next more rest = refl

-- what the file says is what the walk reads
parts-said : (ms : Members) → said airport_parts (layout_of ms) ≡ parts_of ms
unfolding layout_of parts_of
parts-said ms =
    airport-said airport_parts (get_member (codes "airport") ms) _ _ (λ head.
    step airport_parts (frontages_of ms) (rows_at frontage_at ms (codes "frontage")) _ _ (frontages-said ms) (λ frontages.
    step airport_parts (stands_of ms) (rows_at stand_at ms (codes "stand")) _ _ (stands-said ms) (λ stands.
    step airport_parts (pairs_of ms) (rows_at pair_at ms (codes "pair")) _ _ (pairs-said ms) (λ pairs. refl))))

then_said : {C : Type 0} (read : Result Layout WalkFault) (next : (List TypeRow → AirportParts) → Result C FileFault) → (said airport_parts read >>= next) ≡ (named read >>= (λ layout. next (airport_parts layout)))
then_said (Ok layout) next = refl
then_said (Err fault) next = refl

-- the same with what comes after it
pub parts-then : {C : Type 0} (ms : Members) (next : (List TypeRow → AirportParts) → Result C FileFault) → (parts_of ms >>= next) ≡ (named (layout_of ms) >>= (λ layout. next (airport_parts layout)))
parts-then ms next = ap (λ (parts : Result (List TypeRow → AirportParts) FileFault). parts >>= next) (sym (parts-said ms)) ∙ then_said (layout_of ms) next
