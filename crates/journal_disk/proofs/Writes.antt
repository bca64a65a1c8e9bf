-- Pieces that are written one after the other, and what stays before them.
use Rattle.std.proofs.Common.{◌≡◌, ℕ, zero, suc, ◌+◌, ◌≤◌, ◌<◌, List, [], ◌∷◌, ◌++◌, length, take, drop, get_or, Option, None, Some, refl, sym, ◌∙◌, ap, subst, arith, append_assoc, length-append, take-append-drop}
use Rattle.std.specs.Option.{option_map}
use Rattle.std.proofs.lemmas.List.{append-nil, drop-drop, drop_at, drop_more, length-take-le, take-take, take_at, take_more}
use Rattle.apron_base.specs.Histories.{Every}
use Rattle.journal_disk.specs.Disk.{Between, DiskState, Goes, IfExposed, IsSafe, Torn, with_piece_at}
use Rattle.journal_disk.specs.Entries.{records, with_length, IsEntry}
use Rattle.journal_disk.specs.Switch.{KeepsTo}
use Rattle.journal_disk.proofs.Moments.{goes_both, goes_like}
use Rattle.journal_disk.proofs.RecordTexts.{records-append}
use Rattle.journal_disk.proofs.Tells.{told_after, told_before, Any}

-- nothing is written
written_none : (at : ℕ) (bytes : List ℕ) → with_piece_at at [] bytes ≡ bytes
written_none at bytes =
    let end : at + 0 ≡ at = omega arith in
    ap (λ n. take at bytes ++ drop n bytes) end ∙ take-append-drop at bytes

pub none_put : (at : ℕ) (told : Option (List ℕ)) → told ≡ option_map (with_piece_at at []) told
none_put at None = refl
none_put at (Some bytes) = ap (λ l. Some l) (sym (written_none at bytes))

pub written_length : (at : ℕ) (piece bytes : List ℕ) → at ≤ length bytes → at + length piece ≤ length (with_piece_at at piece bytes)
written_length at piece bytes inside = omega (arith, length-take-le at bytes inside, length-append (take at bytes) (piece ++ drop (at + length piece) bytes), length-append piece (drop (at + length piece) bytes))

-- two pieces, one after the other
pub written_both : (at : ℕ) (p q bytes : List ℕ) → at ≤ length bytes → with_piece_at (at + length p) q (with_piece_at at p bytes) ≡ with_piece_at at (p ++ q) bytes
written_both at p q bytes inside =
    let end = at + length p in
    let behind = drop end bytes in
    let once : with_piece_at at p bytes ≡ (take at bytes ++ p) ++ behind = sym (append_assoc (take at bytes) p behind) in
    let reach : length (take at bytes ++ p) ≡ end = omega (arith, length-take-le at bytes inside, length-append (take at bytes) p) in
    let start : take end (with_piece_at at p bytes) ≡ take at bytes ++ p = ap (take end) once ∙ take_at (take at bytes ++ p) behind end reach in
    let past : drop end (with_piece_at at p bytes) ≡ behind = ap (drop end) once ∙ drop_at (take at bytes ++ p) behind end reach in
    let rest : drop (end + length q) (with_piece_at at p bytes) ≡ drop (end + length q) bytes = sym (drop-drop (length q) end (with_piece_at at p bytes)) ∙ ap (drop (length q)) past ∙ drop-drop (length q) end bytes in
    let long : end + length q ≡ at + length (p ++ q) = omega (arith, length-append p q) in
    ap (λ (l : List ℕ). l ++ (q ++ drop (end + length q) (with_piece_at at p bytes))) start
    ∙ ap (λ (l : List ℕ). (take at bytes ++ p) ++ (q ++ l)) rest
    ∙ append_assoc (take at bytes) p (q ++ drop (end + length q) bytes)
    ∙ ap (λ (l : List ℕ). take at bytes ++ l) (sym (append_assoc p q (drop (end + length q) bytes)))
    ∙ ap (λ n. take at bytes ++ ((p ++ q) ++ drop n bytes)) long

pub both_put : (at end : ℕ) (p q : List ℕ) (told one two : Option (List ℕ)) → end ≡ at + length p → ((bytes : List ℕ) → told ≡ Some bytes → at ≤ length bytes) → one ≡ option_map (with_piece_at at p) told → two ≡ option_map (with_piece_at end q) one
    → two ≡ option_map (with_piece_at at (p ++ q)) told
both_put at end p q None one two is inside first second = second ∙ ap (option_map (with_piece_at end q)) first
both_put at end p q (Some bytes) one two is inside first second =
    second ∙ ap (option_map (with_piece_at end q)) first ∙ ap (λ n. Some (with_piece_at n q (with_piece_at at p bytes))) is ∙ ap (λ l. Some l) (written_both at p q bytes (inside bytes refl))

some_same : {a b : List ℕ} → Some a ≡ Some b → a ≡ b
some_same is = cc

-- what is exposed after a piece was written
pub put_told : (at : ℕ) (p : List ℕ) (told now : Option (List ℕ)) (bytes : List ℕ) → now ≡ option_map (with_piece_at at p) told → now ≡ Some bytes → (before : List ℕ) × (told ≡ Some before) × (bytes ≡ with_piece_at at p before)
put_told at p None now bytes put is = absurd (cc (put, is))
put_told at p (Some before) now bytes put is = (before, refl, some_same (sym is ∙ put))

pub put_inside : (at end : ℕ) (p : List ℕ) (told now : Option (List ℕ)) → end ≡ at + length p → ((bytes : List ℕ) → told ≡ Some bytes → at ≤ length bytes) → now ≡ option_map (with_piece_at at p) told → (bytes : List ℕ) → now ≡ Some bytes → end ≤ length bytes
put_inside at end p told now reach inside put bytes is =
    let was = put_told at p told now bytes put is in
    omega (arith, reach, ap length was.2, written_length at p was.0 (inside was.0 was.1))

-- the records of one entry more
pub records_more : (entries : List (List ℕ)) (entry : List ℕ) → records (entries ++ entry ∷ []) ≡ records entries ++ 1 ∷ with_length entry
records_more entries entry = records-append entries (entry ∷ []) ∙ ap (λ (l : List ℕ). records entries ++ 1 ∷ l) (append-nil (with_length entry))

pub every_at : (entries : List (List ℕ)) (i : ℕ) (d : List ℕ) → Every IsEntry entries → i < length entries → IsEntry (get_or entries i d)
every_at [] i d sizes below = absurd (omega arith)
every_at (entry ∷ entries) zero d sizes below = sizes.0
every_at (entry ∷ entries) (suc i) d sizes below = every_at entries i d sizes.1 (omega arith)

-- the records up to the entry at a place
pub next_record : (entries : List (List ℕ)) (i : ℕ) (entry : List ℕ) → i < length entries → entry ≡ get_or entries i [] → records (take (i + 1) entries) ≡ records (take i entries) ++ 1 ∷ with_length entry
next_record entries i entry below is =
    ap records (take_more entries i [] below) ∙ records_more (take i entries) (get_or entries i []) ∙ ap (λ (e : List ℕ). records (take i entries) ++ 1 ∷ with_length e) (sym is)

pub next_length : (entries : List (List ℕ)) (i : ℕ) (entry : List ℕ) → i < length entries → entry ≡ get_or entries i [] → length (records (take (i + 1) entries)) ≡ length (records (take i entries)) + (3 + length entry)
next_length entries i entry below is = omega (arith, ap length (next_record entries i entry below is), length-append (records (take i entries)) (1 ∷ with_length entry))

-- what stays before a place
pub keeps_torn : (at end size : ℕ) → at ≤ end → (old new : List ℕ) → Torn end size old new → KeepsTo at old new
keeps_torn at end size early old new torn = record {
  before = sym (take-take at end new early) ∙ ap (take at) torn.before ∙ take-take at end old early;
  no_shorter = torn.no_shorter;
}

pub keeps_both : (at : ℕ) (x y z : List ℕ) → KeepsTo at x y → KeepsTo at y z → KeepsTo at x z
keeps_both at x y z one two = record { before = two.before ∙ one.before; no_shorter = omega (arith, one.no_shorter, two.no_shorter) }

pub keeps_early : (at end : ℕ) → at ≤ end → (old new : List ℕ) → KeepsTo end old new → KeepsTo at old new
keeps_early at end early old new keeps = record {
  before = sym (take-take at end new early) ∙ ap (take at) keeps.before ∙ take-take at end old early;
  no_shorter = keeps.no_shorter;
}

pub keeps_none : (at : ℕ) (x : List ℕ) → KeepsTo at x x
keeps_none at x = record { before = refl; no_shorter = omega arith }

-- one byte that was torn is some byte, and there may be more after the old end
pub torn_byte : (at : ℕ) (old new : List ℕ) → at < length old → Torn at 1 old new → (byte : ℕ) × (more : List ℕ) × (new ≡ with_piece_at at (byte ∷ []) old ++ more)
torn_byte at old new inside torn =
    let kept = take (length old) new in
    let size : length kept ≡ length old = length-take-le (length old) new torn.no_shorter in
    let byte = get_or kept at 0 in
    let start : take at kept ≡ take at old = take-take at (length old) new (omega (arith, inside)) ∙ torn.before in
    let tail : drop at kept ≡ byte ∷ drop (at + 1) old = drop_more kept at 0 (omega (arith, size, inside)) ∙ ap (λ (l : List ℕ). byte ∷ l) torn.after in
    let text : kept ≡ with_piece_at at (byte ∷ []) old = sym (take-append-drop at kept) ∙ ap (λ (l : List ℕ). l ++ drop at kept) start ∙ ap (λ (l : List ℕ). take at old ++ l) tail in
    (byte, drop (length old) new, sym (take-append-drop (length old) new) ∙ ap (λ (l : List ℕ). l ++ drop (length old) new) text)

pub goes_further : (at end : ℕ) → at ≤ end → (a b c : DiskState) → Goes (KeepsTo at) a b → Goes (KeepsTo end) b c → Goes (KeepsTo at) a c
goes_further at end early a b c one two = goes_both (KeepsTo at) (keeps_both at) a b c one (goes_like (KeepsTo end) (KeepsTo at) (keeps_early at end early) b c two)

-- a section, once the gate after its records was written and all was synced
pub section_safe : (at end : ℕ) (recs : List ℕ) (told now : Option (List ℕ)) (disk : DiskState) → end ≡ at + length recs → ((bytes : List ℕ) → told ≡ Some bytes → at ≤ length bytes) → now ≡ option_map (with_piece_at at recs) told
    → ((bytes : List ℕ) → now ≡ Some bytes → IsSafe (with_piece_at end (0 ∷ []) bytes) disk) → (bytes : List ℕ) → told ≡ Some bytes → IsSafe (with_piece_at at (recs ++ 0 ∷ []) bytes) disk
section_safe at end recs told now disk reach inside put safe bytes is image left =
    let later : now ≡ Some (with_piece_at at recs bytes) = put ∙ ap (option_map (with_piece_at at recs)) is in
    safe (with_piece_at at recs bytes) later image left ∙ ap (λ n. with_piece_at n (0 ∷ []) (with_piece_at at recs bytes)) reach ∙ written_both at recs (0 ∷ []) bytes (inside bytes is)

-- a disk that was synced, and then written again
module _ (at : ℕ) (piece : List ℕ) (told : Option (List ℕ)) (disk : DiskState) (now_is : List ℕ → List ℕ) (alike : Between Any told disk.contents) (reads : IfExposed disk (disk.images disk.moment)) (safe : (bytes : List ℕ) → told ≡ Some bytes → IsSafe (now_is bytes) disk) where
  pub then_inside : ((bytes : List ℕ) → told ≡ Some bytes → at ≤ length (now_is bytes)) → IfExposed disk (λ bytes. at ≤ length bytes)
  then_inside inside bytes is =
      let was = told_before Any told disk.contents bytes alike is in
      subst (λ (l : List ℕ). at ≤ length l) (sym (safe was.0 was.1 bytes (reads bytes is))) (inside was.0 was.1)

  pub then_safe : (now : DiskState) → IfExposed disk (λ bytes. IsSafe (with_piece_at at piece bytes) now) → (bytes : List ℕ) → told ≡ Some bytes → IsSafe (with_piece_at at piece (now_is bytes)) now
  then_safe now again bytes is image left =
      let later = told_after Any told disk.contents bytes alike is in
      again later.0 later.1 image left ∙ ap (with_piece_at at piece) (safe bytes is later.0 (reads later.0 later.1))
