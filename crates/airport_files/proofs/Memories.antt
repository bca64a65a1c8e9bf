-- What files mean is never a lack of memory.
use Rattle.std.proofs.Common.{◌≡◌, ◌≢◌, ℕ, ◌+◌, List, [], ◌∷◌, ◌++◌, codes, ok_or, Option, None, Some, option_map, Result, Ok, Err, ap}
use Rattle.std.specs.Option.{option_map_or, option_or}
use Rattle.std.specs.Prelude.{unwrap_or}
use Rattle.std.specs.Result.{result_map_both}
use Rattle.csv_records.specs.Tables.{each_from, table_in}
use Rattle.toml.specs.Data.{Data, Members, as_table, get_member}
use Rattle.apron_rules.specs.declared.parts.AirportParts.{AirportParts}
use Rattle.apron_rules.specs.declared.parts.TypeRow.{TypeRow}
use Rattle.apron_rules.specs.declared.refusals.AirportFault.{AirportFault}
use Rattle.apron_rules.specs.declared.refusals.AirportFault.TheVariants as refused
use Rattle.apron_rules.specs.Refusals.{airport_fault, later_fault_of, duplicate_of, unknown_of, bad_half_of, limit_of, bad_fold_of, bad_span_of}
use Rattle.airport_files.specs.declared.read.FileFault.{FileFault}
use Rattle.airport_files.specs.declared.read.FileFault.TheVariants as file
use Rattle.airport_files.specs.Document.{document}
use Rattle.airport_files.specs.Forms.{array_of, date_of, letter_of, name_of, station_of, toml_number}
use Rattle.airport_files.specs.Keys.{form_if_there, needed, optional, row_start, rows_at}
use Rattle.airport_files.specs.Meaning.{types_in, airport_of_parts, meaning}
use Rattle.airport_files.specs.Rows.{frontage_at, pair_at, parts_of, stand_at}
use Rattle.airport_files.specs.Types.{types_after}

-- a step, and then the next if it went well
abbrev after : {A B E : Type 0} → Result A E → (A → Result B E) → Result B E
after (Ok x) next = next x
after (Err e) next = Err e

never : {A B E : Type 0} (bad : E) (step : Result A E) (next : A → Result B E) → step ≢ Err bad → ((x : A) → next x ≢ Err bad) → after step next ≢ Err bad
never bad (Ok x) next h k = k x
never bad (Err e) next h k = λ p. h (let same : e ≡ bad = cc in ap Err same)

-- no lack of memory, neither of the files nor of the airport that they make
abbrev IsSaid : {A : Type 0} → Result A FileFault → Type 0
IsSaid meant = (meant ≢ Err file.Memory) × (meant ≢ Err (file.Airport refused.Memory))

said_next : {A B : Type 0} (step : Result A FileFault) (next : A → Result B FileFault) → IsSaid step → ((x : A) → IsSaid (next x)) → IsSaid (after step next)
said_next step next h k = (never file.Memory step next h.0 (λ x. (k x).0), never (file.Airport refused.Memory) step next h.1 (λ x. (k x).1))

said_ok : {A : Type 0} (x : A) → IsSaid (Ok x)
said_ok x = (λ p. cc, λ p. cc)

-- a value, or the fault that there is none
said_missing : {A : Type 0} (found : Option A) (text : List ℕ) → IsSaid (ok_or found (file.MissingKey text))
said_missing None text = (λ p. cc, λ p. cc)
said_missing (Some x) text = said_ok x

said_wrong : {A : Type 0} (found : Option A) (text : List ℕ) → IsSaid (ok_or found (file.WrongKind text))
said_wrong None text = (λ p. cc, λ p. cc)
said_wrong (Some x) text = said_ok x

said_needed : {A : Type 0} (form : Data → Option A) (start : List ℕ) (ms : Members) (word : List ℕ) → IsSaid (needed form start ms word)
said_needed form start ms word = said_next _ _ (said_missing (get_member word ms) (start ++ word)) (λ value. said_wrong (form value) (start ++ word))

said_optional : {A : Type 0} (form : Data → Option A) (start : List ℕ) (ms : Members) (word : List ℕ) → IsSaid (optional form start ms word)
said_optional form start ms word = said_wrong (form_if_there form (get_member word ms)) (start ++ word)

said_each : {A X : Type 0} (says : ℕ → X → Result A FileFault) → ((k : ℕ) (x : X) → IsSaid (says k x)) → (k : ℕ) (rows : List X) → IsSaid (each_from says k rows)
unfolding each_from
said_each says h k [] = said_ok []
said_each says h k (x ∷ rest) = said_next _ _ (h k x) (λ first. said_next _ _ (said_each says h (k + 1) rest) (λ more. said_ok _))

said_rows : {A : Type 0} (says : List ℕ → Members → Result A FileFault) → ((start : List ℕ) (ms : Members) → IsSaid (says start ms)) → (ms : Members) (word : List ℕ) → IsSaid (rows_at says ms word)
said_rows says h ms word =
    said_next _ _ (said_optional (array_of as_table) [] ms word) (λ tables. said_each (λ k. says (row_start word k)) (λ k. h (row_start word k)) 1 (unwrap_or tables []))

said_frontage : (start : List ℕ) (ms : Members) → IsSaid (frontage_at start ms)
unfolding frontage_at
said_frontage start ms =
    said_next _ _ (said_needed name_of start ms (codes "name")) (λ name.
    said_next _ _ (said_needed (array_of toml_number) start ms (codes "objects")) (λ objects. said_ok _))

said_stand : (start : List ℕ) (ms : Members) → IsSaid (stand_at start ms)
unfolding stand_at
said_stand start ms =
    said_next _ _ (said_needed name_of start ms (codes "name")) (λ name.
    said_next _ _ (said_needed name_of start ms (codes "frontage")) (λ on.
    said_next _ _ (said_needed toml_number start ms (codes "centre")) (λ centre.
    said_next _ _ (said_needed letter_of start ms (codes "letter")) (λ letter.
    said_next _ _ (said_needed toml_number start ms (codes "buffer")) (λ buffer.
    said_next _ _ (said_optional name_of start ms (codes "half_of")) (λ half. said_ok _))))))

said_pair : (start : List ℕ) (ms : Members) → IsSaid (pair_at start ms)
unfolding pair_at
said_pair start ms =
    said_next _ _ (said_needed name_of start ms (codes "a")) (λ a.
    said_next _ _ (said_needed letter_of start ms (codes "la")) (λ la.
    said_next _ _ (said_needed name_of start ms (codes "b")) (λ b.
    said_next _ _ (said_needed letter_of start ms (codes "lb")) (λ lb. said_ok _))))

said_parts : (ms : Members) → IsSaid (parts_of ms)
unfolding parts_of
said_parts ms =
    said_next _ _ (said_needed as_table [] ms (codes "airport")) (λ airport.
    said_next _ _ (said_needed station_of (codes "airport.") airport (codes "station")) (λ station.
    said_next _ _ (said_needed date_of (codes "airport.") airport (codes "first_day")) (λ first.
    said_next _ _ (said_needed toml_number (codes "airport.") airport (codes "days")) (λ days.
    said_next _ _ (said_needed toml_number (codes "airport.") airport (codes "taxi_in")) (λ taxi_in.
    said_next _ _ (said_needed toml_number (codes "airport.") airport (codes "tow")) (λ tow.
    said_next _ _ (said_rows frontage_at said_frontage ms (codes "frontage")) (λ frontages.
    said_next _ _ (said_rows stand_at said_stand ms (codes "stand")) (λ stands.
    said_next _ _ (said_rows pair_at said_pair ms (codes "pair")) (λ pairs. said_ok _)))))))))

said_document : (found : Option Members) → IsSaid (ok_or found file.NotToml)
said_document None = (λ p. cc, λ p. cc)
said_document (Some ms) = said_ok ms

said_table : (read : Result (List TypeRow) ℕ) → IsSaid (result_map_both (λ (rows : List TypeRow). rows) file.BadRow read)
said_table (Ok types) = said_ok types
said_table (Err k) = (λ p. cc, λ p. cc)

said_types : (types : List ℕ) → IsSaid (types_in types)
unfolding types_in
said_types types = said_table (table_in types_after types)

-- a refusal that isn't a lack of memory, or none
abbrev IsReason : Option AirportFault → Type 0
IsReason fault = fault ≢ Some refused.Memory

either : (first second : Option AirportFault) → IsReason first → IsReason second → IsReason (option_or first second)
either None second h k = k
either (Some fault) second h k = h

reason : {A : Type 0} (made : A → AirportFault) → ((x : A) → made x ≢ refused.Memory) → (found : Option A) → IsReason (option_map made found)
reason made h None = λ p. cc
reason made h (Some x) = λ p. h x cc

fault-reason : (parts : AirportParts) → IsReason (airport_fault parts)
unfolding airport_fault later_fault_of
fault-reason parts =
    either _ _ (reason refused.DuplicateName (λ x p. cc) (duplicate_of parts)) (either _ _ (reason refused.UnknownName (λ x p. cc) (unknown_of parts)) (either _ _ (reason refused.BadHalf (λ x p. cc) (bad_half_of parts)) (either _ _ (reason refused.LimitPassed (λ x p. cc) (limit_of parts)) (either _ _ (reason refused.BadSpan (λ x p. cc) (bad_span_of parts)) (either _ _ (reason refused.BadFold (λ x p. cc) (bad_fold_of parts)) (λ p. cc))))))

said_unless : (parts : AirportParts) (fault : Option AirportFault) → IsReason fault → IsSaid (option_map_or (λ (fault : AirportFault). Err (file.Airport fault)) fault (Ok parts))
said_unless parts None h = (λ p. cc, λ p. cc)
said_unless parts (Some fault) h = (λ p. cc, λ p. h (let same : fault ≡ refused.Memory = cc in ap Some same))

said_made : (parts : AirportParts) → IsSaid (airport_of_parts parts)
unfolding airport_of_parts
said_made parts = said_unless parts (airport_fault parts) (fault-reason parts)

pub meaning-said : (airport types : List ℕ) → (meaning airport types ≢ Err file.Memory) × (meaning airport types ≢ Err (file.Airport refused.Memory))
unfolding meaning
meaning-said airport types = said_next _ _ (said_document (document airport)) (λ table. said_next _ _ (said_parts table) (λ parts. said_next _ _ (said_types types) (λ rows. said_made (parts rows))))
