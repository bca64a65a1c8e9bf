-- From what was read of a text to what its journal is.
use Rattle.std.proofs.Common.{Bool, true, false, ◌≡◌, ℕ, ◌+◌, ◌≤◌, List, [], ◌∷◌, ◌++◌, length, take, drop, append_assoc, take-append-drop, refl, sym, ◌∙◌, ap, subst, arith, length-append}
use Rattle.std.proofs.lemmas.List.{length-take-le, take_at}
use Rattle.journal_disk.specs.Entries.{records}
use Rattle.journal_disk.specs.Extent.{entries_within, extent_of, IsSettled}
use Rattle.journal_disk.specs.Gates.{IsClosed}
use Rattle.journal_disk.specs.Header.{behind_section, has_magic, is_new}
use Rattle.journal_disk.specs.Disk.{DiskState, IsSafe}
use Rattle.journal_disk.specs.Limits.{first_gate}
use Rattle.journal_disk.specs.Opening.{IsNewSection, IsOldSection, IsPassed, IsReadJournal}
use Rattle.journal_disk.specs.Sections.{IsHeaderAndOldSection}
use Rattle.journal_disk.proofs.Appending.{not_unclean}
use Rattle.journal_disk.proofs.Fronts.{format_kept, magic_kept}
use Rattle.journal_disk.proofs.OpenedTexts.{records_bound}
use Rattle.journal_disk.proofs.Settled.{told_entries}
use Rattle.std.specs.Prelude.{Option, None, Some, IfSome}
use Rattle.std.specs.Option.{option_map}

-- a text whose old section was passed over
module _ (text : List ℕ) (size : ℕ) (p : IsPassed (drop first_gate text) size) (long : first_gate ≤ length text) where
  abbrev pub begins : List ℕ
  begins = take first_gate text ++ (records p.0 ++ p.1.closed.gate ∷ [])

  pub goes : text ≡ begins ++ p.1.closed.rest
  goes =
      sym (take-append-drop first_gate text) ∙ ap (λ (l : List ℕ). take first_gate text ++ l) p.1.closed.text
      ∙ ap (λ (l : List ℕ). take first_gate text ++ l) (sym (append_assoc (records p.0) (p.1.closed.gate ∷ []) p.1.closed.rest))
      ∙ sym (append_assoc (take first_gate text) (records p.0 ++ p.1.closed.gate ∷ []) p.1.closed.rest)

  pub begins_length : length begins ≡ behind_section size
  begins_length = omega (arith, p.1.size_is, length-take-le first_gate text long, length-append (take first_gate text) (records p.0 ++ p.1.closed.gate ∷ []), length-append (records p.0) (p.1.closed.gate ∷ []))

  pub section_inside : behind_section size ≤ length text
  section_inside = omega (arith, begins_length, ap length goes, length-append begins p.1.closed.rest)

  abbrev pub front_of : (new : Bool) → has_magic text ≡ true → is_new text ≡ new → IsHeaderAndOldSection new (take (behind_section size) text)
  front_of new magic format = record {
    header = take first_gate text;
    old = p.0;
    gate = p.1.closed.gate;
    text = ap (take (behind_section size)) goes ∙ take_at begins p.1.closed.rest (behind_section size) begins_length;
    long = length-take-le first_gate text long;
    magic = magic_kept text ∙ magic;
    format = format_kept text ∙ format;
    sizes = p.1.sizes;
    few = p.1.few;
    shut = p.1.closed.shut;
  }

-- the new section of a text of format 2
pub new_section : (text : List ℕ) (size : ℕ) (entries : List (List ℕ)) (length_is : ℕ) → first_gate ≤ length text → has_magic text ≡ true → is_new text ≡ true → IsPassed (drop first_gate text) size
    → IsReadJournal (drop (behind_section size) text) entries length_is → IsNewSection text (behind_section size) entries length_is
new_section text size entries length_is long magic new p read = record {
  front = front_of text size p long true magic new;
  inside = section_inside text size p long;
  early = omega (arith, p.1.size_is, p.1.few, records_bound p.0 p.1.sizes);
  read = read;
}

-- the old section of a text of format 1
pub old_section : (text : List ℕ) (entries : List (List ℕ)) (size : ℕ) → first_gate ≤ length text → has_magic text ≡ true → is_new text ≡ false → IsReadJournal (drop first_gate text) entries size → IsOldSection text entries size
old_section text entries size long magic old read = record {
  front = front_of text size (entries, read) long false magic old;
  same = refl;
  inside = section_inside text size (entries, read) long;
  few = read.few;
  sizes = read.sizes;
  size_is = read.size_is;
}

-- the front of a text that was read
read_closed : (bytes : List ℕ) (first : ℕ) (entries : List (List ℕ)) (size : ℕ) → IsReadJournal (drop first bytes) entries size → IsClosed (take first bytes ++ records entries) bytes
read_closed bytes first entries size read = record {
  gate = read.closed.gate;
  rest = read.closed.rest;
  text = sym (take-append-drop first bytes) ∙ ap (λ (l : List ℕ). take first bytes ++ l) read.closed.text ∙ sym (append_assoc (take first bytes) (records entries) (read.closed.gate ∷ read.closed.rest));
  shut = read.closed.shut;
}

read_place : (bytes : List ℕ) (first : ℕ) (entries : List (List ℕ)) (size : ℕ) → first ≤ length bytes → IsReadJournal (drop first bytes) entries size → length (take first bytes ++ records entries) ≡ first + size
read_place bytes first entries size long read = omega (arith, length-append (take first bytes) (records entries), length-take-le first bytes long, read.size_is)

-- a journal that was read, and is safe, is settled
pub read_settled : (bytes : List ℕ) (first : ℕ) (entries : List (List ℕ)) (size : ℕ) (disk : DiskState) → IsNewSection bytes first entries size → IsSafe bytes disk → IsSettled (extent_of first (first + size) (length entries) false) disk
read_settled bytes first entries size disk section safe = record {
  begins = section.front;
  front = take first bytes;
  entries = entries;
  risk = [];
  first = length-take-le first bytes section.inside;
  sizes = section.read.sizes;
  count = refl;
  at = read_place bytes first entries size section.inside section.read;
  fits = not_unclean;
  gate = λ image left. subst (IsClosed (take first bytes ++ records entries)) (sym (safe image left)) (read_closed bytes first entries size section.read);
}

-- and its entries are those that were read
pub read_list : (bytes : List ℕ) (first : ℕ) (entries : List (List ℕ)) (size number : ℕ) (unclean : Bool) → IsNewSection bytes first entries size → entries_within (extent_of first (first + size) number unclean) bytes ≡ entries
read_list bytes first entries size number unclean section =
    let read = section.read in
    let closed = read_closed bytes first entries size read in
    told_entries first (take first bytes) entries (length-take-le first bytes section.inside) read.sizes (first + size) (closed.gate ∷ closed.rest) bytes (read_place bytes first entries size section.inside read) read.few closed.text

-- what is made of the bytes if they are exposed
pub if_told : {B : Type 0} (f : List ℕ → B) (contents : Option (List ℕ)) (found : B) → ((bytes : List ℕ) → contents ≡ Some bytes → f bytes ≡ found) → IfSome (option_map f contents) (λ made. made ≡ found)
if_told f None found same = tt
if_told f (Some bytes) found same = same bytes refl
