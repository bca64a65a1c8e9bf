-- What images with a settled front are read as.
use Rattle.std.proofs.Common.{◌≡◌, ◌≢◌, ◌⊎◌, inl, inr, ℕ, ◌+◌, ◌≤◌, ◌<◌, List, [], ◌∷◌, ◌++◌, length, take, drop, Bool, true, false, Some, Ok, refl, sym, ◌∙◌, ap, subst, arith, append_assoc, length-append, take-append-drop}
use Rattle.std.specs.Prelude.{Option}
use Rattle.std.specs.Option.{option_map}
use Rattle.std.specs.Result.{result_unwrap_or}
use Rattle.std.proofs.lemmas.Bool.{cases_eq}
use Rattle.std.proofs.lemmas.List.{take_at, drop_at, append-nil, length_push}
use Rattle.apron_base.specs.Histories.{Every}
use Rattle.journal_disk.specs.Disk.{DiskState, IfExposed}
use Rattle.journal_disk.specs.Entries.{behind_gate, entries_from, entries_of, records, with_length, IsEntry}
use Rattle.journal_disk.specs.Extent.{Extent, entries_within, record_entry, entry_at_risk, entry_if, IsCrashSafe, IsExtentOf, IsSettled, StandsFor}
use Rattle.journal_disk.specs.Gates.{IsClosed, IsRecord, IsWhole, GateIs}
use Rattle.journal_disk.specs.Header.{digests_in, opening_of}
use Rattle.journal_disk.specs.Limits.{most_entries}
use Rattle.journal_disk.proofs.Fronts.{digests_are, opens_new}
use Rattle.journal_disk.proofs.RecordTexts.{entries-closed, is_shut, behind_gate-sized, records-append}

pub every-push : (entries : List (List ℕ)) (entry : List ℕ) → Every IsEntry entries → IsEntry entry → Every IsEntry (entries ++ entry ∷ [])
every-push [] entry sizes is = (is, tt)
every-push (e ∷ entries) entry sizes is = (sizes.0, every-push entries entry sizes.1 is)

-- a record whose gate is not open
pub shut_record : (front : List ℕ) (gate : ℕ) (entry image : List ℕ) → gate ≢ 1 → IsRecord gate entry front image → IsClosed front image
shut_record front gate entry image shut is = record { gate = gate; rest = with_length entry ++ is.next ∷ is.rest; text = is.text; shut = shut }

-- how an image goes on after its front
pub gate_text : (unclean : Bool) (risk front image : List ℕ) → GateIs unclean risk front image → (rest : List ℕ) × (image ≡ front ++ rest)
gate_text false risk front image closed = (closed.gate ∷ closed.rest, closed.text)
gate_text true risk front image whole = (whole.0 ∷ (with_length risk ++ whole.1.next ∷ whole.1.rest), whole.1.text)

module _ (first : ℕ) (header : List ℕ) (entries : List (List ℕ)) (long : length header ≡ first) (sizes : Every IsEntry entries) where
  abbrev front : List ℕ
  front = header ++ records entries

  pub front-push : (entry : List ℕ) → header ++ records (entries ++ entry ∷ []) ≡ front ++ 1 ∷ with_length entry
  front-push entry =
      ap (λ (l : List ℕ). header ++ l) (records-append entries (entry ∷ []) ∙ ap (λ (l : List ℕ). records entries ++ 1 ∷ l) (append-nil (with_length entry)))
      ∙ sym (append_assoc header (records entries) (1 ∷ with_length entry))

  pub header_of : (rest : List ℕ) → take first (front ++ rest) ≡ header
  header_of rest = ap (take first) (append_assoc header (records entries) rest) ∙ take_at header (records entries ++ rest) first long

  behind_header : (rest : List ℕ) → drop first (front ++ rest) ≡ records entries ++ rest
  behind_header rest = ap (drop first) (append_assoc header (records entries) rest) ∙ drop_at header (records entries ++ rest) first long

  pub closed_header : (image : List ℕ) → IsClosed front image → take first image ≡ header
  closed_header image closed = ap (take first) closed.text ∙ header_of (closed.gate ∷ closed.rest)

  pub closed_entries : (image : List ℕ) → length entries ≤ most_entries → IsClosed front image → entries_of first image ≡ Ok entries
  closed_entries image few closed =
      ap (λ (l : List ℕ). entries_from most_entries (drop first l)) closed.text
      ∙ ap (entries_from most_entries) (behind_header (closed.gate ∷ closed.rest))
      ∙ entries-closed entries most_entries closed.gate closed.rest sizes few closed.shut

  -- the entries that the bytes give
  pub told_entries : (place : ℕ) (rest bytes : List ℕ) → length front ≡ place → length entries ≤ most_entries → bytes ≡ front ++ rest → result_unwrap_or (entries_of first (take place bytes ++ 0 ∷ [])) [] ≡ entries
  told_entries place rest bytes reach few text =
      let start : take place bytes ≡ front = ap (take place) text ∙ take_at front rest place reach in
      ap (λ r. result_unwrap_or r []) (ap (λ (l : List ℕ). entries_of first (l ++ 0 ∷ [])) start ∙ closed_entries (front ++ 0 ∷ []) few (record { gate = 0; rest = []; text = refl; shut = is_shut }))

  -- a record whose gate is open belongs to the front
  pub open_record : (entry image : List ℕ) → IsRecord 1 entry front image → IsClosed (header ++ records (entries ++ entry ∷ [])) image
  open_record entry image is = record {
    gate = is.next;
    rest = is.rest;
    text = is.text ∙ sym (append_assoc front (1 ∷ with_length entry) (is.next ∷ is.rest)) ∙ ap (λ (l : List ℕ). l ++ is.next ∷ is.rest) (sym (front-push entry));
    shut = is.shut;
  }

  -- the entry at a gate that may be open
  pub told_risk : (place : ℕ) (entry bytes : List ℕ) → length front ≡ place → IsEntry entry → IsWhole entry front bytes → record_entry place bytes ≡ Some entry
  told_risk place entry bytes reach size whole =
      let is = whole.1 in
      let behind = with_length entry ++ is.next ∷ is.rest in
      let text : bytes ≡ (front ++ whole.0 ∷ []) ++ behind = is.text ∙ sym (append_assoc front (whole.0 ∷ []) behind) in
      let end : drop (place + 1) bytes ≡ behind = ap (drop (place + 1)) text ∙ drop_at (front ++ whole.0 ∷ []) behind (place + 1) (omega (arith, reach, length_push front whole.0)) in
      ap (λ (l : List ℕ). option_map (λ found. found.0) (behind_gate l)) end ∙ ap (option_map (λ found. found.0)) (behind_gate-sized entry is.next is.rest size)

-- an image has the header, and these entries, or these and one more at risk
abbrev pub HasEntries : ℕ → List ℕ → List (List ℕ) → (List ℕ → Type 0) → List ℕ → Type 0
HasEntries first header entries AtRisk image =
    (take first image ≡ header) × ((entries_of first image ≡ Ok entries) ⊎ ((entry : List ℕ) × AtRisk entry × (entries_of first image ≡ Ok (entries ++ entry ∷ []))))

module _ (first : ℕ) (header : List ℕ) (entries : List (List ℕ)) (long : length header ≡ first) (sizes : Every IsEntry entries) (AtRisk : List ℕ → Type 0) (image : List ℕ) where
  pub closed_stands : length entries ≤ most_entries → IsClosed (header ++ records entries) image → HasEntries first header entries AtRisk image
  closed_stands few closed = (closed_header first header entries long sizes image closed, inl (closed_entries first header entries long sizes image few closed))

  pub whole_stands : (entry : List ℕ) → AtRisk entry → IsEntry entry → length entries < most_entries → IsWhole entry (header ++ records entries) image → HasEntries first header entries AtRisk image
  whole_stands entry risk size few whole =
      elim (cases_eq whole.0 1) [
        | inl is_open ↦
            let is = subst (λ g. IsRecord g entry (header ++ records entries) image) is_open whole.1 in
            let all = every-push entries entry sizes size in
            let closed = open_record first header entries long sizes entry image is in (
              closed_header first header (entries ++ entry ∷ []) long all image closed,
              inr (entry, risk, closed_entries first header (entries ++ entry ∷ []) long all image (omega (arith, length_push entries entry, few)) closed),
            )
        | inr shut ↦ closed_stands (omega (arith, few)) (shut_record (header ++ records entries) whole.0 entry image shut whole.1)
      ]

  pub gate_stands : (unclean : Bool) (entry : List ℕ) → length entries ≤ most_entries → (unclean ≡ true → AtRisk entry) → (unclean ≡ true → IsEntry entry × (length entries < most_entries)) → GateIs unclean entry (header ++ records entries) image → HasEntries first header entries AtRisk image
  gate_stands false entry few risk fits gate = closed_stands few gate
  gate_stands true entry few risk fits gate = whole_stands entry (risk refl) (fits refl).0 (fits refl).1 gate

-- what a disk exposes of a settled journal on it
module _ (extent : Extent) (disk : DiskState) (few : extent.number ≤ most_entries) (s : IsSettled extent disk) (bytes : List ℕ) (reads : disk.images disk.moment bytes) where
  text : (rest : List ℕ) × (bytes ≡ (s.front ++ records s.entries) ++ rest)
  text = gate_text extent.unclean s.risk (s.front ++ records s.entries) bytes (s.gate bytes reads)

  pub list_told : entries_within extent bytes ≡ s.entries
  list_told = told_entries extent.first s.front s.entries s.first s.sizes extent.place text.0 bytes s.at (omega (arith, s.count, few)) text.1

  pub header_told : take extent.first bytes ≡ s.front
  header_told = ap (take extent.first) text.1 ∙ header_of extent.first s.front s.entries s.first s.sizes text.0

  pub place_inside : extent.place ≤ length bytes
  place_inside = omega (arith, s.at, ap length text.1, length-append (s.front ++ records s.entries) text.0)

-- what an image opens to
module _ (extent : Extent) (disk : DiskState) (few : extent.number ≤ most_entries) (s : IsSettled extent disk) (bytes : List ℕ) (reads : disk.images disk.moment bytes) where
  same_digests : digests_in bytes ≡ digests_in s.begins.header
  same_digests =
      let go = text extent disk few s bytes reads in
      digests_are true s.front s.begins bytes (records s.entries ++ go.0) (go.1 ∙ append_assoc s.front (records s.entries) go.0)

  opens_to : (image : List ℕ) (found : List (List ℕ)) → take extent.first image ≡ s.front → entries_of extent.first image ≡ Ok found → opening_of (digests_in bytes) image ≡ Ok found
  opens_to image found header entries =
      let goes : image ≡ s.front ++ drop extent.first image = sym (take-append-drop extent.first image) ∙ ap (λ (l : List ℕ). l ++ drop extent.first image) header in
      opens_new s.front s.begins image (drop extent.first image) (digests_in bytes) found goes same_digests entries

  -- what holds of an image by its front holds by the exposed bytes
  pub stands_as : (AtRisk : List ℕ → Type 0) (image : List ℕ) → HasEntries extent.first s.front s.entries AtRisk image → StandsFor extent bytes AtRisk image
  stands_as AtRisk image has =
      let Opens : List (List ℕ) → Type 0 = λ found. opening_of (digests_in bytes) image ≡ Ok found in
      let opened : Opens s.entries ⊎ ((entry : List ℕ) × AtRisk entry × Opens (s.entries ++ entry ∷ [])) = elim (has.1) [
        | inl is ↦ inl (opens_to image s.entries has.0 is)
        | inr more ↦ inr (more.0, more.1, opens_to image (s.entries ++ more.0 ∷ []) has.0 more.2)
      ] in
      rw (header_told extent disk few s bytes reads, list_told extent disk few s bytes reads) (has.0, opened)

-- the entry at risk
if_told : (unclean : Bool) (place : ℕ) (contents : Option (List ℕ)) (bytes risk : List ℕ) → contents ≡ Some bytes → unclean ≡ true → (unclean ≡ true → record_entry place bytes ≡ Some risk) → entry_if unclean place contents ≡ Some risk
if_told true place contents bytes risk is u told = rw is (told refl)
if_told false place contents bytes risk is u told = absurd (cc u)

whole_at : (unclean : Bool) (risk front bytes : List ℕ) → unclean ≡ true → GateIs unclean risk front bytes → IsWhole risk front bytes
whole_at true risk front bytes u gate = gate
whole_at false risk front bytes u gate = absurd (cc u)

pub risk_told : (extent : Extent) (disk : DiskState) (s : IsSettled extent disk) (bytes : List ℕ) → disk.contents ≡ Some bytes → disk.images disk.moment bytes → extent.unclean ≡ true → entry_at_risk extent disk.contents ≡ Some s.risk
risk_told extent disk s bytes is reads u =
    if_told extent.unclean extent.place disk.contents bytes s.risk is u (λ v. told_risk extent.first s.front s.entries s.first s.sizes extent.place s.risk bytes s.at (s.fits v).0 (whole_at extent.unclean s.risk (s.front ++ records s.entries) bytes v (s.gate bytes reads)))

-- a journal that is kept is safe from a crash
pub kept_safe : (extent : Extent) (disk : DiskState) → IsExtentOf extent disk → IfExposed disk (disk.images disk.moment) → IsCrashSafe extent disk
kept_safe extent disk kept reads bytes is image left =
    let s = kept.settled bytes is in
    let here = reads bytes is in
    let AtRisk : List ℕ → Type 0 = λ entry. entry_at_risk extent disk.contents ≡ Some entry in
    stands_as extent disk kept.few s bytes here AtRisk image (gate_stands extent.first s.front s.entries s.first s.sizes AtRisk image extent.unclean s.risk (omega (arith, s.count, kept.few)) (risk_told extent disk s bytes is here) (λ u. ((s.fits u).0, omega (arith, s.count, (s.fits u).1))) (s.gate image left))
