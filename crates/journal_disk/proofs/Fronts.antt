-- What a text opens to if it begins with the front of a journal.
use Rattle.std.proofs.Common.{◌≡◌, ℕ, ◌+◌, ◌<◌, Bool, true, false, not, ◌||◌, ◌&&◌, ◌==◌, cond, nat_eq, nat_lt, List, [], ◌∷◌, ◌++◌, length, take, drop, None, Some, Ok, Err, append_assoc, length-append, refl, sym, ◌∙◌, ap, arith}
use Rattle.std.specs.Cmp.Lexicographic.{pointwise}
use Rattle.std.specs.List.{starts_with}
use Rattle.std.specs.Str.{bytes_eq}
use Rattle.std.proofs.lemmas.Bool.Decides.{nat_tests}
use Rattle.std.proofs.lemmas.List.{take-take, drop-take, drop_at, take_at, get_or-take}
use Rattle.journal_disk.specs.Entries.{entries_from, entries_of, section_length, records}
use Rattle.journal_disk.specs.Header.{as_old, behind_section, digests_in, entries_past, has_magic, header_fault, is_new, line_end, magic, new_entries, old_entries, old_opening_of, opening_of, or_bad_record, unless}
use Rattle.journal_disk.specs.Limits.{first_gate, most_entries}
use Rattle.journal_disk.specs.Sections.{IsHeaderAndOldSection}
use Rattle.journal_disk.specs.declared.fault.JournalFault.{JournalFault}
use Rattle.journal_disk.specs.declared.fault.JournalFault.TheVariants.{BadRecord, NotAJournal, OldFormat}
use Rattle.journal_disk.proofs.RecordTexts.{entries-closed}

-- the header is within the first bytes
pub magic_kept : (image : List ℕ) → has_magic (take first_gate image) ≡ has_magic image
magic_kept image =
    ap (λ l. pointwise nat_eq magic l && starts_with nat_eq (drop 6 (take first_gate image)) line_end) (take-take 5 first_gate image (omega arith))
    ∙ ap (λ l. starts_with nat_eq image magic && starts_with nat_eq l line_end) (drop-take 6 66 image)
    ∙ ap (λ l. starts_with nat_eq image magic && pointwise nat_eq line_end l) (take-take 2 66 (drop 6 image) (omega arith))

pub format_kept : (image : List ℕ) → is_new (take first_gate image) ≡ is_new image
format_kept image = ap (λ n. n == 50) (get_or-take first_gate image 5 0 (omega arith))

pub digests_kept : (image : List ℕ) → digests_in (take first_gate image) ≡ digests_in image
digests_kept image = ap (take 64) (drop-take 8 64 image) ∙ take-take 64 64 (drop 8 image) (omega arith)

pub bytes_same : (bytes : List ℕ) → bytes_eq bytes bytes ≡ true
bytes_same [] = refl
bytes_same (x ∷ bytes) = grind (arith, nat_tests, bytes_same bytes)

-- the tests of the header
no_fault : (short magic same : Bool) (one two : JournalFault) → short ≡ false → magic ≡ true → same ≡ true → cond (short || not magic) (Some one) (cond (not same) (Some two) None) ≡ None
no_fault false true true one two short magic same = refl
no_fault true m s one two short magic same = absurd (cc short)
no_fault false false s one two short magic same = absurd (cc magic)
no_fault false true false one two short magic same = absurd (cc same)

pub no_header_fault : (digests text : List ℕ) → first_gate < length text → has_magic text ≡ true → bytes_eq (digests_in text) digests ≡ true → header_fault digests text ≡ None
no_header_fault digests text long magic same =
    let whole : nat_lt (length text) (first_gate + 1) ≡ false = grind (arith, nat_tests) in
    no_fault _ (has_magic text) (bytes_eq (digests_in text) digests) NotAJournal _ whole magic same

tested : (short magic same : Bool) (one two : JournalFault) → cond (short || not magic) (Some one) (cond (not same) (Some two) None) ≡ None → magic ≡ true
tested true m s one two is = absurd (cc is)
tested false false s one two is = absurd (cc is)
tested false true s one two is = refl

pub header_tested : (digests text : List ℕ) → header_fault digests text ≡ None → has_magic text ≡ true
header_tested digests text is = tested _ (has_magic text) (bytes_eq (digests_in text) digests) NotAJournal _ is

-- what a text is read as after a header that is right
pub new_opening : (digests text : List ℕ) (size : ℕ) → header_fault digests text ≡ None → is_new text ≡ true → section_length (entries_of first_gate text) ≡ Some size → opening_of digests text ≡ or_bad_record (entries_of (behind_section size) text)
new_opening digests text size right new passed =
    ap (λ f. unless f (cond (is_new text) (new_entries text) (Err OldFormat))) right
    ∙ ap (λ b. cond b (new_entries text) (Err OldFormat)) new
    ∙ ap (λ p. entries_past p text) passed

pub not_passed : (digests text : List ℕ) → header_fault digests text ≡ None → is_new text ≡ true → section_length (entries_of first_gate text) ≡ None → opening_of digests text ≡ Err (BadRecord 0)
not_passed digests text right new not =
    ap (λ f. unless f (cond (is_new text) (new_entries text) (Err OldFormat))) right
    ∙ ap (λ b. cond b (new_entries text) (Err OldFormat)) new
    ∙ ap (λ p. entries_past p text) not

pub old_opening : (digests text : List ℕ) → header_fault digests text ≡ None → is_new text ≡ false → old_opening_of digests text ≡ as_old (old_entries text)
old_opening digests text right old =
    ap (λ f. unless f (cond (is_new text) (Ok None) (as_old (old_entries text)))) right
    ∙ ap (λ b. cond b (Ok None) (as_old (old_entries text))) old

-- a front, and an image that begins with it
module _ (new : Bool) (front : List ℕ) (f : IsHeaderAndOldSection new front) where
  pub front_length : length front ≡ behind_section (length (records f.old))
  front_length = omega (arith, ap length f.text, f.long, length-append f.header (records f.old ++ f.gate ∷ []), length-append (records f.old) (f.gate ∷ []))

  module _ (image rest : List ℕ) (is : image ≡ front ++ rest) where
    text : image ≡ f.header ++ (records f.old ++ f.gate ∷ rest)
    text =
        is ∙ ap (λ (l : List ℕ). l ++ rest) f.text ∙ append_assoc f.header (records f.old ++ f.gate ∷ []) rest
        ∙ ap (λ (l : List ℕ). f.header ++ l) (append_assoc (records f.old) (f.gate ∷ []) rest)

    header_is : take first_gate image ≡ f.header
    header_is = ap (take first_gate) text ∙ take_at f.header (records f.old ++ f.gate ∷ rest) first_gate f.long

    long : first_gate < length image
    long = omega (arith, ap length text, f.long, length-append f.header (records f.old ++ f.gate ∷ rest), length-append (records f.old) (f.gate ∷ rest))

    pub old_read : entries_of first_gate image ≡ Ok f.old
    old_read =
        ap (λ l. entries_from most_entries (drop first_gate l)) text
        ∙ ap (entries_from most_entries) (drop_at f.header (records f.old ++ f.gate ∷ rest) first_gate f.long)
        ∙ entries-closed f.old most_entries f.gate rest f.sizes f.few f.shut

    pub digests_are : digests_in image ≡ digests_in f.header
    digests_are = sym (digests_kept image) ∙ ap digests_in header_is

    has_format : is_new image ≡ new
    has_format = sym (format_kept image) ∙ ap is_new header_is ∙ f.format

    right : (digests : List ℕ) → digests ≡ digests_in f.header → header_fault digests image ≡ None
    right digests same =
        let magic : has_magic image ≡ true = sym (magic_kept image) ∙ ap has_magic header_is ∙ f.magic in
        no_header_fault digests image long magic (ap (λ l. bytes_eq l digests) (digests_are ∙ sym same) ∙ bytes_same digests)

    behind_front : drop (behind_section (length (records f.old))) image ≡ rest
    behind_front = ap (drop (behind_section (length (records f.old)))) is ∙ drop_at front rest _ front_length

-- what comes after the front of format 2 counts
pub opens_new : (front : List ℕ) (f : IsHeaderAndOldSection true front) (image rest digests : List ℕ) (found : List (List ℕ)) → image ≡ front ++ rest → digests ≡ digests_in f.header → entries_from most_entries rest ≡ Ok found → opening_of digests image ≡ Ok found
opens_new front f image rest digests found is same read =
    new_opening digests image (length (records f.old)) (right true front f image rest is digests same) (has_format true front f image rest is) (ap section_length (old_read true front f image rest is))
    ∙ ap (λ l. or_bad_record (entries_from most_entries l)) (behind_front true front f image rest is)
    ∙ ap or_bad_record read

-- in format 1 nothing after the front counts
pub opens_old : (front : List ℕ) (f : IsHeaderAndOldSection false front) (image rest digests : List ℕ) → image ≡ front ++ rest → digests ≡ digests_in f.header → old_opening_of digests image ≡ Ok (Some f.old)
opens_old front f image rest digests is same =
    old_opening digests image (right false front f image rest is digests same) (has_format false front f image rest is)
    ∙ ap (λ r. as_old (or_bad_record r)) (old_read false front f image rest is)
