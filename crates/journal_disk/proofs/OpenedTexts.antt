-- From what a text opens to, to what its journal is.
use Rattle.std.proofs.Common.{◌≡◌, ℕ, ◌*◌, ◌≤◌, List, [], ◌∷◌, ◌++◌, length, take, drop, Option, Some, Result, Err, ◌∙◌, ap, arith, length-append}
use Rattle.std.proofs.lemmas.List.{take_all, take_at}
use Rattle.apron_base.specs.Histories.{Every}
use Rattle.journal_disk.specs.Entries.{records, with_length, IsEntry}
use Rattle.journal_disk.specs.Faults.{FailsAs, RecordFails}
use Rattle.journal_disk.specs.Header.{as_old, or_bad_record, unless}
use Rattle.journal_disk.specs.Limits.{most_record}
use Rattle.journal_disk.specs.Opening.{IsOldSection}
use Rattle.journal_disk.specs.declared.fault.JournalFault.{JournalFault}
use Rattle.journal_disk.specs.declared.fault.JournalFault.TheVariants.{DiskFault, NotEmpty, NotAJournal, OtherAirport, OldFormat, BadRecord, Memory}

-- a refusal is what the text is read as
pub fails_is : {A : Type 0} (read : Result A JournalFault) (fault : JournalFault) → read ≡ Err fault → FailsAs read fault
fails_is read DiskFault is = is
fails_is read NotEmpty is = is
fails_is read Memory is = tt
fails_is read NotAJournal is = is
fails_is read OldFormat is = is
fails_is read (OtherAirport kept given) is = is
fails_is read (BadRecord number) is = is

-- a refusal of the header is one of all that is read after it
pub header_fails : {A : Type 0} (header : Option JournalFault) (read : Result A JournalFault) (fault : JournalFault) → header ≡ Some fault → FailsAs (unless header read) fault
header_fails header read fault is = fails_is (unless header read) fault (ap (λ h. unless h read) is)

-- and so is a refusal of the records
pub records_fail : (all : Result (List (List ℕ)) JournalFault) (read : Result (List (List ℕ)) ℕ) (fault : JournalFault) → all ≡ or_bad_record read → RecordFails read fault → FailsAs all fault
records_fail all read DiskFault is fails = absurd fails
records_fail all read NotEmpty is fails = absurd fails
records_fail all read Memory is fails = tt
records_fail all read NotAJournal is fails = absurd fails
records_fail all read OldFormat is fails = absurd fails
records_fail all read (OtherAirport kept given) is fails = absurd fails
records_fail all read (BadRecord number) is fails = is ∙ ap or_bad_record fails

pub old_records_fail : (all : Result (Option (List (List ℕ))) JournalFault) (read : Result (List (List ℕ)) ℕ) (fault : JournalFault) → all ≡ as_old (or_bad_record read) → RecordFails read fault → FailsAs all fault
old_records_fail all read DiskFault is fails = absurd fails
old_records_fail all read NotEmpty is fails = absurd fails
old_records_fail all read Memory is fails = tt
old_records_fail all read NotAJournal is fails = absurd fails
old_records_fail all read OldFormat is fails = absurd fails
old_records_fail all read (OtherAirport kept given) is fails = absurd fails
old_records_fail all read (BadRecord number) is fails = is ∙ ap (λ r. as_old (or_bad_record r)) fails

pub records_bound : (entries : List (List ℕ)) → Every IsEntry entries → length (records entries) ≤ most_record * length entries
records_bound [] sizes = omega arith
records_bound (entry ∷ entries) sizes = omega (arith, records_bound entries sizes.1, length-append (with_length entry) (records entries), sizes.0.1)

-- so is a refusal of an old section that was read
pub section_bound : (text : List ℕ) (entries : List (List ℕ)) (size : ℕ) → IsOldSection text entries size → size ≤ most_record * length entries
section_bound text entries size section = omega (arith, section.size_is, records_bound entries section.sizes)

-- the whole of what was read
pub read_whole : (n len : ℕ) (b into rest : List ℕ) → n ≡ length b → len ≡ n → into ≡ take n (drop 0 b) → take len (into ++ rest) ≡ b
read_whole n len b into rest is same read =
    let all : into ≡ b = read ∙ take_all n b (omega (arith, is)) in
    take_at into rest len (omega (arith, ap length all, is, same)) ∙ all
