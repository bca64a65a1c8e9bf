-- This many edits, one after the other, as a loop reads and writes them.
use Rattle.std.proofs.Common.{◌≡◌, ℕ, suc, ◌-◌, ◌+◌, ◌≤◌, ◌<◌, List, [], ◌∷◌, ◌++◌, length, get_or, take, subst, Result, Ok, Err, refl, sym, ap, ◌∙◌, append_assoc, arith}
use Rattle.std.specs.List.{flat_map}
use Rattle.std.proofs.lemmas.List.{append-nil, take_more}
use Rattle.std.proofs.lemmas.List.Concat.{flat_map-append}
use Rattle.visit_book.specs.declared.edits.Edit.{Edit}
use Rattle.apron_base.specs.Histories.{Every}
use Rattle.entry_bytes.specs.Commits.{edit_fields}
use Rattle.entry_bytes.specs.Fields.{Fits, field_bytes}
use Rattle.entry_bytes.specs.declared.faults.EntryFault.{EntryFault}
use Rattle.entry_bytes.specs.declared.faults.ReadFault.{ReadFault}
use Rattle.entry_bytes.specs.declared.faults.ReadFault.TheVariants as faults
use Rattle.entry_bytes.specs.Gives.{FailsReading}
use Rattle.entry_bytes.specs.Readings.{RestOfEntry, Reading, ◌>>=◌, going_on, give, parse_many}
use Rattle.entry_bytes.proofs.Spells.{every-append}

-- what was read before, and what is still read
abbrev pub with_front : {A : Type 0} → List A → Result (List A × RestOfEntry) EntryFault → Result (List A × RestOfEntry) EntryFault
with_front front read = going_on read (λ others. give (front ++ others))

regrouped : {A : Type 0} (front : List A) (x : A) (read : Result (List A × RestOfEntry) EntryFault)
    → with_front front (going_on read (λ others. give (x ∷ others))) ≡ with_front (front ++ x ∷ []) read
regrouped front x (Ok read) = ap (λ xs. Ok (xs, read.1)) (sym (append_assoc front (x ∷ []) read.0))
regrouped front x (Err fault) = refl

abbrev behind_first : {A : Type 0} → Reading A → ℕ → A → Reading (List A)
behind_first field count first = parse_many count field >>= λ others. give (first ∷ others)

pub goes_on : {A : Type 0} (field : Reading A) (front : List A) (count i : ℕ) (left after : RestOfEntry) (x : A) (total : Result (List A × RestOfEntry) EntryFault) → i < count → field left ≡ Ok (x, after)
    → with_front front (parse_many (count - i) field left) ≡ total → with_front (front ++ x ∷ []) (parse_many (count - (i + 1)) field after) ≡ total
unfolding parse_many
goes_on field front count i left after x total lt h so_far =
    let k : count - i ≡ suc (count - (i + 1)) = omega arith in
    sym (regrouped front x (parse_many (count - (i + 1)) field after))
    ∙ ap (λ r. with_front front (going_on r (behind_first field (count - (i + 1))))) (sym h)
    ∙ ap (λ n. with_front front (parse_many n field left)) (sym k)
    ∙ so_far

pub ends : {A : Type 0} (fault : ReadFault) (field : Reading A) (front : List A) (count i : ℕ) (left : RestOfEntry) (total : Result (List A × RestOfEntry) EntryFault) → i < count → FailsReading fault (field left)
    → with_front front (parse_many (count - i) field left) ≡ total → FailsReading fault total
unfolding parse_many
ends faults.Memory field front count i left total lt h so_far = tt
ends faults.BadKind field front count i left total lt h so_far =
    let k : count - i ≡ suc (count - (i + 1)) = omega arith in
    sym so_far ∙ ap (λ n. with_front front (parse_many n field left)) k ∙ ap (λ r. with_front front (going_on r (behind_first field (count - (i + 1))))) h
ends (faults.BadField at) field front count i left total lt h so_far =
    let k : count - i ≡ suc (count - (i + 1)) = omega arith in
    sym so_far ∙ ap (λ n. with_front front (parse_many n field left)) k ∙ ap (λ r. with_front front (going_on r (behind_first field (count - (i + 1))))) h
ends (faults.TrailingBytes at) field front count i left total lt h so_far =
    let k : count - i ≡ suc (count - (i + 1)) = omega arith in
    sym so_far ∙ ap (λ n. with_front front (parse_many n field left)) k ∙ ap (λ r. with_front front (going_on r (behind_first field (count - (i + 1))))) h

pub is_done : {A : Type 0} (field : Reading A) (front : List A) (count i : ℕ) (left : RestOfEntry) (total : Result (List A × RestOfEntry) EntryFault) → count ≤ i
    → with_front front (parse_many (count - i) field left) ≡ total → total ≡ Ok (front, left)
unfolding parse_many
is_done field front count i left total le so_far =
    let k : count - i ≡ 0 = omega arith in
    sym so_far ∙ ap (λ n. with_front front (parse_many n field left)) k ∙ ap (λ xs. Ok (xs, left)) (append-nil front)

-- the fields of one more edit
fields_more : (edits : List Edit) (i : ℕ) (d : Edit) → i < length edits → flat_map edit_fields (take (i + 1) edits) ≡ flat_map edit_fields (take i edits) ++ edit_fields (get_or edits i d)
fields_more edits i d lt =
    let edit = get_or edits i d in
    ap (flat_map edit_fields) (take_more edits i d lt) ∙ flat_map-append edit_fields (take i edits) (edit ∷ [])
    ∙ ap (λ fs. flat_map edit_fields (take i edits) ++ fs) (append-nil (edit_fields edit))

-- one more edit is written after those before it
pub written_more : (edits : List Edit) (i : ℕ) (d : Edit) (start out new : List ℕ) → i < length edits → out ≡ start ++ flat_map field_bytes (flat_map edit_fields (take i edits))
    → new ≡ out ++ flat_map field_bytes (edit_fields (get_or edits i d)) → new ≡ start ++ flat_map field_bytes (flat_map edit_fields (take (i + 1) edits))
written_more edits i d start out new lt so_far e =
    let edit = edit_fields (get_or edits i d) in
    let before = flat_map edit_fields (take i edits) in
    e ∙ ap (λ (t : List ℕ). t ++ flat_map field_bytes edit) so_far ∙ append_assoc start (flat_map field_bytes before) (flat_map field_bytes edit)
    ∙ ap (λ (t : List ℕ). start ++ t) (sym (flat_map-append field_bytes before edit))
    ∙ ap (λ fs. start ++ flat_map field_bytes fs) (sym (fields_more edits i d lt))

pub fits_more : (edits : List Edit) (i : ℕ) (d : Edit) → i < length edits → Every Fits (flat_map edit_fields (take i edits)) → Every Fits (edit_fields (get_or edits i d))
    → Every Fits (flat_map edit_fields (take (i + 1) edits))
fits_more edits i d lt so_far fits =
    subst (Every Fits) (sym (fields_more edits i d lt)) (every-append Fits (flat_map edit_fields (take i edits)) (edit_fields (get_or edits i d)) so_far fits)
