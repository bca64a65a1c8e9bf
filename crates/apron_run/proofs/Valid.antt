-- What is found if the two files make an airport and the disk has its journal.
use Rattle.std.proofs.Common.{◌≡◌, ◌≢◌, ◌∙◌, ◌<◌, ◌≤◌, ◌⊎◌, ℕ, List, [], ◌∷◌, ◌++◌, append_assoc, length, Option, None, Some, Result, Ok, Err, inl, inr, refl, sym, ap, ap₂, subst, arith}
use Rattle.std.specs.Prelude.{IfSome, IsSome}
use Rattle.apron_base.specs.Counts.{Rose}
use Rattle.apron_base.specs.Histories.{Every}
use Rattle.apron_base.specs.Keeper.{with_last}
use Rattle.apron_base.specs.Shelf.{ShelfState}
use Rattle.apron_rules.specs.declared.parts.AirportParts.{AirportParts}
use Rattle.airport_files.specs.Meaning.{meaning}
use Rattle.airport_files.specs.declared.read.FileFault.{FileFault}
use Rattle.desk_asks.specs.declared.asks.Entry.{Entry}
use Rattle.entry_bytes.specs.Entries.{IsEntryOf, SpellsEntry, entry_text}
use Rattle.entry_bytes.proofs.EntriesSpelt.{entries_are_different}
use Rattle.history_core.specs.Board.{Spells, entry_texts}
use Rattle.history_core.specs.History.{IsLegal}
use Rattle.history_core.specs.Opening.{IsNotNext, StopsAt}
use Rattle.history_core.specs.declared.opening.OpenFault.{OpenFault}
use Rattle.history_core.specs.declared.opening.OpenFault.TheVariants as entries
use Rattle.history_core.proofs.Legal.{front_legal}
use Rattle.journal_disk.specs.Disk.{DiskState, IfExposed}
use Rattle.journal_disk.specs.Header.{opening_of}
use Rattle.journal_disk.specs.declared.fault.JournalFault.{JournalFault}
use Rattle.journal_disk.specs.declared.fault.JournalFault.TheVariants as journal
use Rattle.apron_check.specs.Digests.{digests_of}
use Rattle.apron_check.specs.Files.{AreOfFile, HasFilesCause, IsFileTooLong, Make, Mean, max_file}
use Rattle.apron_check.specs.declared.files.AirportFiles.{AirportFiles}
use Rattle.apron_check.specs.declared.faults.FilesFault.{FilesFault}
use Rattle.apron_check.specs.declared.faults.FilesFault.TheVariants as files
use Rattle.apron_run.specs.End.{status_of}
use Rattle.apron_run.specs.Journal.{NotOpened, OpensTo, WhyUnusable}
use Rattle.apron_run.specs.declared.end.End.TheVariants.{Unusable as Unworkable}
use Rattle.apron_run.specs.declared.status.Status.TheVariants.{Memory}
use Rattle.apron_run.specs.declared.unusable.Unusable.{Unusable}
use Rattle.apron_run.specs.declared.unusable.Unusable.TheVariants.{Journal, Entries}
use Rattle.apron_run.proofs.Disks.{if_told}

-- the shelf tells the two files of these names, and they make this airport
abbrev pub HasFiles : ShelfState → List ℕ → List ℕ → AirportFiles → Type 0
HasFiles shelf airport types files = IsSome (shelf.file airport) × IsSome (shelf.file types)
    × Make (shelf.file airport) (shelf.file types) files

-- the disk tells what it reads as, and opens as the journal of these files with this history
pub record HasJournal (files : AirportFiles) (disk : DiskState) (history : List Entry) : Type 0 where
  pub told : IsSome disk.contents
  pub opens : OpensTo files disk history

-- a result is one value
ok_once : {A E : Type 0} (result : Result A E) (one other : A) → result ≡ Ok one → result ≡ Ok other → one ≡ other
ok_once result one other is are = cc

-- two facts of what is exposed
pub both_told : {A : Type 0} (option : Option A) (P Q : A → Type 0) → IsSome option → IfSome option P → IfSome option Q → (value : A) × P value × Q value
both_told None P Q told p q = absurd cc
both_told (Some value) P Q told p q = (value, p, q)

-- two lists of bytes that are those of a file that is exposed
pub same_bytes : (file : Option (List ℕ)) (one other : List ℕ) → IsSome file → IfSome file (λ kept. one ≡ kept) → IfSome file (λ kept. other ≡ kept) → one ≡ other
same_bytes file one other told is are =
    let (kept, first, second) = both_told file (λ kept. one ≡ kept) (λ kept. other ≡ kept) told is are in first ∙ sym second

module _ (before after : ShelfState) (airport types : List ℕ) (made : AirportFiles) (has : HasFiles before airport types made) where
  -- the two files mean one thing
  meant_once : (meant : Result AirportParts FileFault) → Mean (before.file airport) (before.file types) meant → Ok made.airport ≡ meant
  meant_once meant mean =
      let make : Make (before.file airport) (before.file types) made = has.2 in
      let first : make.airport_bytes ≡ mean.airport_bytes =
      same_bytes (before.file airport) make.airport_bytes mean.airport_bytes has.0 make.of_airport.told mean.of_airport.told in
      let second : make.types_bytes ≡ mean.types_bytes =
      same_bytes (before.file types) make.types_bytes mean.types_bytes has.1 make.of_types.told mean.of_types.told in
      sym make.airport_is ∙ (ap₂ meaning first second ∙ mean.meant_is)

  -- and make one airport
  made_once : (other : AirportFiles) → Make (before.file airport) (before.file types) other → other ≡ made
  made_once other makes =
      let make : Make (before.file airport) (before.file types) made = has.2 in
      let first : makes.airport_bytes ≡ make.airport_bytes =
      same_bytes (before.file airport) makes.airport_bytes make.airport_bytes has.0 makes.of_airport.told make.of_airport.told in
      let second : makes.types_bytes ≡ make.types_bytes =
      same_bytes (before.file types) makes.types_bytes make.types_bytes has.1 makes.of_types.told make.of_types.told in
      let airports : other.airport ≡ made.airport =
      ok_once (meaning makes.airport_bytes makes.types_bytes) other.airport made.airport makes.airport_is (ap₂ meaning first second ∙ make.airport_is) in
      let digests : other.digests ≡ made.digests = makes.digests_are ∙ (ap₂ digests_of first second ∙ sym make.digests_are) in
      λ i. record { airport = airports i; digests = digests i }

  -- neither is too long
  not_too_long : (file : Option (List ℕ)) (bytes : List ℕ) → IsSome file → AreOfFile file bytes → IsFileTooLong file before after → ⊥
  not_too_long None bytes told of long = absurd cc
  not_too_long (Some kept) bytes told of long =
      let is : bytes ≡ kept = of.told in
      let same : length bytes ≡ length kept = ap length is in
      let short : length bytes ≤ max_file = of.short in
      let many : max_file < length kept = long in
      absurd (omega arith)

  -- if the shelf doesn't fail, they are found, or memory has run out
  pub found_well : (found : Result AirportFiles FilesFault) → HasFilesCause before after airport types found → found ≢ Err files.ShelfFault
      → (found ≡ Ok made) ⊎ (found ≡ Err files.Memory)
  found_well (Ok other) cause failed = inl (ap Ok (made_once other cause))
  found_well (Err (files.Faulty fault)) cause failed = let same : Ok made.airport ≡ Err fault = meant_once (Err fault) cause in absurd cc
  found_well (Err files.AirportTooLong) cause failed =
      let make : Make (before.file airport) (before.file types) made = has.2 in
      absurd (not_too_long (before.file airport) make.airport_bytes has.0 make.of_airport cause)
  found_well (Err files.TypesTooLong) cause failed =
      let make : Make (before.file airport) (before.file types) made = has.2 in
      absurd (not_too_long (before.file types) make.types_bytes has.1 make.of_types cause.1)
  found_well (Err files.ShelfFault) cause failed = absurd (failed refl)
  found_well (Err files.Memory) cause failed = inr refl

-- bytes are those of one history
spelt_once : (airport : AirportParts) (one other : List Entry) → Every (IsEntryOf airport) one → Every (IsEntryOf airport) other → entry_texts one ≡ entry_texts other → one ≡ other
spelt_once airport [] [] is are same = refl
spelt_once airport [] (y ∷ ys) is are same = absurd cc
spelt_once airport (x ∷ xs) [] is are same = absurd cc
spelt_once airport (x ∷ xs) (y ∷ ys) is are same =
    let both : entry_text x ∷ entry_texts xs ≡ entry_text y ∷ entry_texts ys = same in
    let first : entry_text x ≡ entry_text y = cc in
    let others : entry_texts xs ≡ entry_texts ys = cc in
    ap₂ (λ e es. e ∷ es) (entries_are_different airport x y is.0 are.0 first) (spelt_once airport xs ys is.1 are.1 others)

-- an entry of a history with these bytes, after those that the first bytes are of
record IsReadNext (airport : AirportParts) (bytes : List ℕ) (before history : List Entry) : Type 0 where
  pub entry : Entry
  pub rest : List Entry
  pub are : history ≡ before ++ entry ∷ rest
  pub is : SpellsEntry airport bytes entry

read_next : (airport : AirportParts) (front : List (List ℕ)) (bytes : List ℕ) (back : List (List ℕ)) (before history : List Entry)
    → Spells airport (front ++ bytes ∷ back) history → Spells airport front before → IsReadNext airport bytes before history
read_next airport [] bytes back [] [] all some = let none : bytes ∷ back ≡ [] = all.0 in absurd cc
read_next airport [] bytes back [] (e ∷ es) all some =
    let both : bytes ∷ back ≡ entry_text e ∷ entry_texts es = all.0 in
    let is : bytes ≡ entry_text e = cc in
    record { entry = e; rest = es; are = refl; is = (all.1.0, is) }
read_next airport [] bytes back (b ∷ bs) history all some = let none : [] ≡ entry_text b ∷ entry_texts bs = some.0 in absurd cc
read_next airport (f ∷ fs) bytes back [] history all some = let none : f ∷ fs ≡ [] = some.0 in absurd cc
read_next airport (f ∷ fs) bytes back (b ∷ bs) [] all some = let none : f ∷ (fs ++ bytes ∷ back) ≡ [] = all.0 in absurd cc
read_next airport (f ∷ fs) bytes back (b ∷ bs) (e ∷ es) all some =
    let whole : f ∷ (fs ++ bytes ∷ back) ≡ entry_text e ∷ entry_texts es = all.0 in
    let part : f ∷ fs ≡ entry_text b ∷ entry_texts bs = some.0 in
    let first : entry_text e ≡ entry_text b = cc in
    let head : e ≡ b = entries_are_different airport e b all.1.0 some.1.0 first in
    let more : fs ++ bytes ∷ back ≡ entry_texts es = cc in
    let few : fs ≡ entry_texts bs = cc in
    let next : IsReadNext airport bytes bs es = read_next airport fs bytes back bs es (more, all.1.1) (few, some.1.1) in
    let are : e ∷ es ≡ b ∷ bs ++ next.entry ∷ next.rest = cc (next.are) in
    record { entry = next.entry; rest = next.rest; are = are; is = next.is }

-- no entry stops those of a legal history
module _ (airport : AirportParts) (texts : List (List ℕ)) (history : List Entry) (spells : Spells airport texts history) (legal : IsLegal airport history) where
  not_next : (before : List Entry) (bytes : List ℕ) (fault : OpenFault) → IsReadNext airport bytes before history → fault ≢ entries.Memory → IsNotNext airport before bytes fault → ⊥
  not_next before bytes (entries.BadEntry number) next other (counted, none) = none next.entry next.is.0 next.is.1
  not_next before bytes (entries.WrongEntry number) next other (counted, (entry, spelt, wrong)) =
      let same : next.entry ≡ entry = entries_are_different airport next.entry entry next.is.0 spelt.0 (sym next.is.1 ∙ spelt.1) in
      let parts : history ≡ with_last next.entry before ++ next.rest = next.are ∙ sym (append_assoc before (next.entry ∷ []) next.rest) in
      let front : IsLegal airport (with_last next.entry before) = front_legal airport (with_last next.entry before) next.rest (subst (IsLegal airport) parts legal) in
      wrong (subst (λ (e : Entry). IsLegal airport (with_last e before)) same front)
  not_next before bytes entries.Memory next other why = absurd (other refl)

  none_stops : (fault : OpenFault) → fault ≢ entries.Memory → StopsAt airport texts fault → ⊥
  none_stops fault other stops =
      not_next stops.before stops.bytes fault
      (read_next airport stops.front stops.bytes stops.back stops.before history (subst (λ (es : List (List ℕ)). Spells airport es history) stops.is spells) stops.spells)
      other stops.why

module _ (made : AirportFiles) (before after : DiskState) (history : List Entry) (has : HasJournal made before history) where
  -- it opens to one history
  pub opened_once : (opened : List Entry) → OpensTo made before opened → opened ≡ history
  opened_once opened opens =
      let known = has.opens in
      let (bytes, one, other) = both_told before.contents (λ bytes. opening_of made.digests bytes ≡ Ok (entry_texts opened))
      (λ bytes. opening_of made.digests bytes ≡ Ok (entry_texts history)) has.told opens.entries known.entries in
      let texts : entry_texts opened ≡ entry_texts history = ok_once (opening_of made.digests bytes) (entry_texts opened) (entry_texts history) one other in
      spelt_once made.airport opened history opens.each known.each texts

  opens_well : (fault : JournalFault) → IfExposed before (λ bytes. opening_of made.digests bytes ≡ Err fault) → ⊥
  opens_well fault fails =
      let known = has.opens in
      let (bytes, one, other) = both_told before.contents (λ bytes. opening_of made.digests bytes ≡ Ok (entry_texts history))
      (λ bytes. opening_of made.digests bytes ≡ Err fault) has.told known.entries
      (if_told before.contents (λ bytes. opening_of made.digests bytes ≡ Err fault) fails) in
      let both : Ok (entry_texts history) ≡ Err fault = sym one ∙ other in
      absurd cc

  opens_to_texts : (texts : List (List ℕ)) → IfSome before.contents (λ bytes. opening_of made.digests bytes ≡ Ok texts) → entry_texts history ≡ texts
  opens_to_texts texts opening =
      let known = has.opens in
      let (bytes, one, other) = both_told before.contents (λ bytes. opening_of made.digests bytes ≡ Ok (entry_texts history))
      (λ bytes. opening_of made.digests bytes ≡ Ok texts) has.told known.entries opening in
      ok_once (opening_of made.digests bytes) (entry_texts history) texts one other

  reads_well : (texts : List (List ℕ)) (fault : OpenFault) → IfSome before.contents (λ bytes. opening_of made.digests bytes ≡ Ok texts) → fault ≢ entries.Memory
      → StopsAt made.airport texts fault → ⊥
  reads_well texts fault opening other stops =
      let known = has.opens in
      let same : entry_texts history ≡ texts = opens_to_texts texts opening in
      none_stops made.airport texts history (sym same, known.each) known.legal fault other stops

  -- if the disk doesn't fail, it is not opened only if memory has run out
  pub unopened_wants : (why : Unusable) → NotOpened made before after why → ¬ (Rose before.faults after.faults) → status_of (Unworkable why) ≡ Memory
  unopened_wants why finds still = wants why finds.cause
    where
      wants : (why : Unusable) → WhyUnusable made before after why → status_of (Unworkable why) ≡ Memory
      wants (Journal journal.DiskFault) cause = absurd (still cause.1)
      wants (Journal journal.NotEmpty) cause = absurd cause
      wants (Journal journal.Memory) cause = refl
      wants (Journal fault) (counts, fails) = absurd (opens_well fault fails)
      wants (Entries entries.Memory) cause = refl
      wants (Entries fault) (texts, opening, counts, cannot) = absurd (reads_well texts fault opening (λ is. cc) cannot)
