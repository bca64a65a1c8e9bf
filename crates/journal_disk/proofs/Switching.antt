-- What the images of a switch open to.
use Rattle.std.proofs.Common.{◌≡◌, ◌⊎◌, inl, inr, ℕ, ◌+◌, ◌==◌, ◌≤◌, ◌<◌, ◌&&◌, nat_eq, Bool, true, false, List, [], ◌∷◌, ◌++◌, length, take, drop, get_or, Some, Ok, sym, ◌∙◌, ap, subst, arith, append_assoc, length-append, take-append-drop}
use Rattle.std.specs.Cmp.Lexicographic.{pointwise}
use Rattle.std.specs.List.{starts_with}
use Rattle.std.proofs.lemmas.List.{append-nil, drop-append-le, drop-drop, drop_at, drop_more, get_or_at, length-take-le, take-append-le, take_at}
use Rattle.apron_base.specs.Histories.{Every}
use Rattle.journal_disk.specs.Disk.{DiskState, EachImageSince, Goes, IsSafe, Torn, with_piece_at}
use Rattle.journal_disk.specs.Entries.{entries_from, records, IsEntry}
use Rattle.journal_disk.specs.Header.{behind_section, digests_in, has_magic, is_new, line_end, magic, old_opening_of, opening_of}
use Rattle.journal_disk.specs.Limits.{most_entries}
use Rattle.journal_disk.specs.Opening.{IsOldSection}
use Rattle.journal_disk.specs.Sections.{IsHeaderAndOldSection}
use Rattle.journal_disk.specs.Switch.{HasSwitched, IsEither, IsSwitching, KeepsTo, after_switch, new_section, with_format}
use Rattle.journal_disk.proofs.Fronts.{digests_are, opens_new, opens_old}
use Rattle.journal_disk.proofs.Moments.{since_goes, since_now}
use Rattle.journal_disk.proofs.RecordTexts.{entries-closed, is_shut}
use Rattle.journal_disk.proofs.Writes.{keeps_none, torn_byte, written_length}

-- a header with another format byte
module _ (format : ℕ) (header : List ℕ) (long : 6 ≤ length header) where
  five : length (take 5 header) ≡ 5
  five = length-take-le 5 header (omega (arith, long))

  pub same_length : length (with_format format header) ≡ length header
  same_length = omega (arith, ap length (take-append-drop 6 header), length-append (take 6 header) (drop 6 header), length-take-le 6 header long, five, length-append (take 5 header) (format ∷ drop 6 header))

  same_start : take 5 (with_format format header) ≡ take 5 header
  same_start = take_at (take 5 header) (format ∷ drop 6 header) 5 five

  same_end : drop 6 (with_format format header) ≡ drop 6 header
  same_end =
      ap (drop 6) (sym (append_assoc (take 5 header) (format ∷ []) (drop 6 header)))
      ∙ drop_at (take 5 header ++ format ∷ []) (drop 6 header) 6 (omega (arith, five, length-append (take 5 header) (format ∷ [])))

  same_magic : has_magic (with_format format header) ≡ has_magic header
  same_magic =
      ap (λ l. pointwise nat_eq magic l && starts_with nat_eq (drop 6 (with_format format header)) line_end) same_start
      ∙ ap (λ l. starts_with nat_eq header magic && starts_with nat_eq l line_end) same_end

  format_is : is_new (with_format format header) ≡ (format == 50)
  format_is = ap (λ n. n == 50) (get_or_at (take 5 header) format (drop 6 header) 0 5 five)

  pub same_digests : digests_in (with_format format header) ≡ digests_in header
  same_digests = ap (take 64) (sym (drop-drop 2 6 (with_format format header)) ∙ ap (drop 2) same_end ∙ drop-drop 2 6 header)

  pub format_before : (rest : List ℕ) → with_format format (header ++ rest) ≡ with_format format header ++ rest
  format_before rest =
      ap (λ (l : List ℕ). l ++ (format ∷ drop 6 (header ++ rest))) (take-append-le 5 header rest (omega (arith, long)))
      ∙ ap (λ (l : List ℕ). take 5 header ++ (format ∷ l)) (drop-append-le 6 header rest long)
      ∙ sym (append_assoc (take 5 header) (format ∷ drop 6 header) rest)

own_format : (bytes : List ℕ) → 5 < length bytes → with_format (get_or bytes 5 0) bytes ≡ bytes
own_format bytes long = ap (λ (l : List ℕ). take 5 bytes ++ l) (sym (drop_more bytes 5 0 long)) ∙ take-append-drop 5 bytes

-- the front of a journal with another format byte
abbrev front_as : (format : ℕ) (front : List ℕ) (f : IsHeaderAndOldSection false front) → IsHeaderAndOldSection (format == 50) (with_format format front)
front_as format front f =
    let long : 6 ≤ length f.header = omega (arith, f.long) in
    record {
      header = with_format format f.header;
      old = f.old;
      gate = f.gate;
      text = ap (with_format format) f.text ∙ format_before format f.header long (records f.old ++ f.gate ∷ []);
      long = same_length format f.header long ∙ f.long;
      magic = same_magic format f.header long ∙ f.magic;
      format = format_is format f.header long;
      sizes = f.sizes;
      few = f.few;
      shut = f.shut;
    }

-- a journal of format 1
module _ (size : ℕ) (old : List (List ℕ)) (bytes : List ℕ) (section : IsOldSection bytes old size) where
  abbrev front : List ℕ
  front = take (behind_section size) bytes

  front_long : length front ≡ behind_section size
  front_long = length-take-le (behind_section size) bytes section.inside

  six : 6 ≤ length front
  six = omega (arith, front_long)

  digests_same : digests_in bytes ≡ digests_in section.front.header
  digests_same = digests_are false front section.front bytes (drop (behind_section size) bytes) (sym (take-append-drop (behind_section size) bytes))

  -- nothing before the new section was written: the old entries count
  pub kept_either : (new : List (List ℕ)) (image : List ℕ) → KeepsTo (behind_section size) bytes image → IsEither size old new bytes image
  kept_either new image keeps =
      let rest = drop (behind_section size) image in
      let goes : image ≡ front ++ rest = sym (take-append-drop (behind_section size) image) ∙ ap (λ (l : List ℕ). l ++ rest) keeps.before in
      record {
        keeps = (get_or front 5 0, keeps.before ∙ sym (own_format front (omega (arith, six))));
        opens = inl (opens_old front section.front image rest (digests_in bytes) goes digests_same ∙ ap (λ o. Ok (Some o)) section.same);
      }

  -- the new section is there, with any format byte
  module _ (new : List (List ℕ)) (sizes : Every IsEntry new) (few : length new ≤ most_entries) (format : ℕ) (more image : List ℕ) (is : image ≡ with_format format (with_piece_at (behind_section size) (new_section new) bytes) ++ more) where
    abbrev behind : List ℕ
    behind = drop (behind_section size + length (new_section new)) bytes

    goes : image ≡ with_format format front ++ (new_section new ++ (behind ++ more))
    goes =
        is ∙ ap (λ (l : List ℕ). l ++ more) (format_before format front six (new_section new ++ behind))
        ∙ append_assoc (with_format format front) (new_section new ++ behind) more
        ∙ ap (λ (l : List ℕ). with_format format front ++ l) (append_assoc (new_section new) behind more)

    read : entries_from most_entries (new_section new ++ (behind ++ more)) ≡ Ok new
    read = ap (entries_from most_entries) (append_assoc (records new) (0 ∷ []) (behind ++ more)) ∙ entries-closed new most_entries 0 (behind ++ more) sizes few is_shut

    -- the format byte decides which entries count
    by_format : (b : Bool) (f : IsHeaderAndOldSection b (with_format format front)) → digests_in bytes ≡ digests_in f.header → f.old ≡ old → (old_opening_of (digests_in bytes) image ≡ Ok (Some old)) ⊎ (opening_of (digests_in bytes) image ≡ Ok new)
    by_format true f digests same = inr (opens_new (with_format format front) f image (new_section new ++ (behind ++ more)) (digests_in bytes) new goes digests read)
    by_format false f digests same = inl (opens_old (with_format format front) f image (new_section new ++ (behind ++ more)) (digests_in bytes) goes digests ∙ ap (λ o. Ok (Some o)) same)

    pub still_digests : digests_in bytes ≡ digests_in (with_format format section.front.header)
    still_digests = digests_same ∙ sym (same_digests format section.front.header (omega (arith, section.front.long)))

    pub switched_either : IsEither size old new bytes image
    switched_either = record {
      keeps = (format, ap (take (behind_section size)) goes ∙ take_at (with_format format front) (new_section new ++ (behind ++ more)) (behind_section size) (same_length format front six ∙ front_long));
      opens = by_format (format == 50) (front_as format front section.front) still_digests section.same;
    }

    -- that of format 2
    pub new_opens : (f : IsHeaderAndOldSection true (with_format format front)) → digests_in bytes ≡ digests_in f.header → opening_of (digests_in bytes) image ≡ Ok new
    new_opens f digests = opens_new (with_format format front) f image (new_section new ++ (behind ++ more)) (digests_in bytes) new goes digests read

  pub either_is : (new : List (List ℕ)) → Every IsEntry new → length new ≤ most_entries → (image : List ℕ) → IsSwitching size new bytes image → IsEither size old new bytes image
  either_is new sizes few image (inl keeps) = kept_either new image keeps
  either_is new sizes few image (inr (format, more, is)) = switched_either new sizes few format more image is

  pub has_switched : (new : List (List ℕ)) → Every IsEntry new → length new ≤ most_entries → (disk : DiskState) → IsSafe (after_switch size new bytes) disk → HasSwitched size new bytes disk
  has_switched new sizes few disk safe = record {
    safe = safe;
    opens = new_opens new sizes few 50 [] (after_switch size new bytes) (sym (append-nil (after_switch size new bytes))) (front_as 50 front section.front) (still_digests new sizes few 50 [] (after_switch size new bytes) (sym (append-nil (after_switch size new bytes))));
  }

-- the images of the two writes of a switch
module _ (size : ℕ) (new : List (List ℕ)) (bytes : List ℕ) (inside : behind_section size ≤ length bytes) (before : DiskState) (safe : IsSafe bytes before) (written_disk : DiskState)
    (crash : Goes (KeepsTo (behind_section size)) before written_disk) where
  pub writing : EachImageSince before written_disk (IsSwitching size new bytes)
  writing =
      since_goes before before written_disk (KeepsTo (behind_section size)) (IsSwitching size new bytes)
      (since_now before (IsSwitching size new bytes) (λ image left. inl (subst (KeepsTo (behind_section size) bytes) (sym (safe image left)) (keeps_none (behind_section size) bytes))))
      crash (λ from image left keeps. inl (subst (λ b. KeepsTo (behind_section size) b image) (safe from left) keeps))

  module _ (is_written : IsSafe (with_piece_at (behind_section size) (new_section new) bytes) written_disk) (now : DiskState) (crash_now : Goes (Torn 5 1) written_disk now) where
    long : 5 < length (with_piece_at (behind_section size) (new_section new) bytes)
    long = omega (arith, written_length (behind_section size) (new_section new) bytes inside)

    pub switching : EachImageSince before now (IsSwitching size new bytes)
    switching =
        since_goes before written_disk now (Torn 5 1) (IsSwitching size new bytes) writing crash_now
        (λ from image left torn. inr (torn_byte 5 (with_piece_at (behind_section size) (new_section new) bytes) image long (subst (λ b. Torn 5 1 b image) (is_written from left) torn)))
