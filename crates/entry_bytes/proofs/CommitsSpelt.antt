-- Commits are read exactly from their fields.
use Rattle.std.proofs.Common.{◌≡◌, ℕ, cond, subst, ◌<◌, ◌≤◌, true, List, [], ◌∷◌, ◌++◌, length, Option, Some, None, refl, sym, ap, ◌∙◌, arith}
use Rattle.std.specs.List.{flat_map}
use Rattle.std.specs.Prelude.{Bool, ◌&&◌, ◌==◌, IsSome, nat_le, nat_lt}
use Rattle.std.specs.Int.{w8, w16, w32}
use Rattle.std.proofs.lemmas.Bool.{eqb-true, and_parts, and_from, leb-true, le-leb}
use Rattle.std.proofs.lemmas.List.{append-nil}
use Rattle.apron_base.specs.Histories.{Every}
use Rattle.apron_base.specs.declared.numbers.VisitNo.{VisitNo}
use Rattle.apron_rules.specs.declared.parts.AirportParts.{AirportParts}
use Rattle.visit_book.specs.Edits.{most_edits, part_of, visit_of}
use Rattle.visit_book.specs.declared.drafts.Draft.{Draft}
use Rattle.visit_book.specs.declared.edits.Edit.{Edit}
use Rattle.visit_book.specs.declared.edits.Edit.TheVariants.{Put, Lift, Cut, Join}
use Rattle.entry_bytes.specs.declared.faults.EntryFault.TheVariants.{BadField}
use Rattle.entry_bytes.specs.Commits.{commit_fields, edit_fields, stand_field}
use Rattle.entry_bytes.specs.Fields.{Field, limited_field, name_field, number_field}
use Rattle.entry_bytes.specs.Parsing.{parse_commit, parse_cut, parse_edit, parse_edit_of_tag, parse_edits, parse_join, parse_lift, parse_put}
use Rattle.entry_bytes.specs.Readings.{Reading, byte, number, such_that}
use Rattle.entry_bytes.proofs.Fields.{reads_byte, reads_limited, reads_name, reads_number, reads_number-in, wide16, wide32}
use Rattle.entry_bytes.proofs.Spells.{Announces, Announces-or, Anywhere, ReadsOne, Spells, Spells-as, Spells-from, Spells-give, Spells-one, Spells-repeated, Spells-tagged, Spells-then}

-- anything
abbrev pub IsAny : {A : Type 0} → A → Type 0
IsAny x = Unit {0}

pub reads_stand : (airport : AirportParts) → ReadsOne airport (such_that (λ n. nat_lt n (length airport.stands)) (number w16)) (λ n. limited_field w16 n (λ airport. nat_lt n (length airport.stands))) (λ n. Unit {0})
reads_stand airport = reads_limited (λ n airport. nat_lt n (length airport.stands)) (reads_number airport w16 wide16) wide16.zero

abbrev tag_of : Edit → ℕ
tag_of (Put visit part stand) = 1
tag_of (Lift visit part) = 2
tag_of (Cut visit part at) = 3
tag_of (Join visit part) = 4

abbrev part_back : VisitNo → ℕ → List Field
part_back visit part = number_field w32 visit.0 ∷ number_field w8 part ∷ []

abbrev back_of : Edit → List Field
back_of (Put visit part stand) = part_back visit part ++ stand_field stand ∷ []
back_of (Lift visit part) = part_back visit part
back_of (Cut visit part at) = part_back visit part ++ number_field w32 at ∷ []
back_of (Join visit part) = part_back visit part

abbrev stand_in : Edit → ℕ
stand_in (Put visit part stand) = stand.0
stand_in edit = 0

abbrev minute_in : Edit → ℕ
minute_in (Cut visit part at) = at
minute_in edit = 0

abbrev number_in : Edit → ℕ
number_in edit = (visit_of edit).0

abbrev HasTag : ℕ → Edit → Type 0
HasTag tag edit = (tag_of edit ≡ tag) × IsAny edit

abbrev OfVisit : ℕ → ℕ → Edit → Type 0
OfVisit tag visit edit = (number_in edit ≡ visit) × HasTag tag edit

abbrev OfPart : ℕ → ℕ → ℕ → Edit → Type 0
OfPart tag visit part edit = (part_of edit ≡ part) × OfVisit tag visit edit

abbrev visit_no : ℕ → VisitNo
visit_no number = record { 0 = number }

-- the fields of an edit that has no more than a visit and a part
abbrev plain : Edit → List Field
plain edit = number_field w32 (number_in edit) ∷ number_field w8 (part_of edit) ∷ []

-- ---- put

only_put : (visit part stand : ℕ) (edit : Edit) → (stand_in edit ≡ stand) × OfPart 1 visit part edit → edit ≡ Put (visit_no visit) part (record { 0 = stand })
only_put visit part stand (Put v p s) h =
    ap (λ n. Put (visit_no n) p s) h.1.1.0 ∙ ap (λ n. Put (visit_no visit) n s) h.1.0 ∙ ap (λ n. Put (visit_no visit) part (record { 0 = n })) h.0
only_put visit part stand (Lift v p) h = absurd (omega (arith, h.1.1.1.0))
only_put visit part stand (Cut v p at) h = absurd (omega (arith, h.1.1.1.0))
only_put visit part stand (Join v p) h = absurd (omega (arith, h.1.1.1.0))

put_fields : (edit : Edit) → HasTag 1 edit → back_of edit ≡ plain edit ++ limited_field w16 (stand_in edit) (λ airport. nat_lt (stand_in edit) (length airport.stands)) ∷ []
put_fields (Put v p s) h = refl
put_fields (Lift v p) h = absurd (omega (arith, h.0))
put_fields (Cut v p at) h = absurd (omega (arith, h.0))
put_fields (Join v p) h = absurd (omega (arith, h.0))

put-spells : (airport : AirportParts) → Spells Anywhere airport (parse_put airport) back_of (HasTag 1)
unfolding parse_put
put-spells airport = Spells-as back_of (HasTag 1)
    (Spells-then number_in (HasTag 1) (Spells-one (reads_number airport w32 wide32))
    (λ v a. Spells-then part_of (OfVisit 1 v) (Spells-one (reads_byte airport))
    (λ p b. Spells-then stand_in (OfPart 1 v p) (Spells-one (reads_stand airport))
    (λ s c. Spells-give (Put (visit_no v) p (record { 0 = s })) (λ edit. (stand_in edit ≡ s) × OfPart 1 v p edit) (refl, (refl, (refl, (refl, tt)))) (only_put v p s))
    (λ edit h. tt))
    (λ edit h. tt))
    (λ edit h. tt))
    (λ edit h. h) (λ edit h. h) put_fields

-- ---- lift

only_lift : (visit part : ℕ) (edit : Edit) → OfPart 2 visit part edit → edit ≡ Lift (visit_no visit) part
only_lift visit part (Lift v p) h = ap (λ n. Lift (visit_no n) p) h.1.0 ∙ ap (λ n. Lift (visit_no visit) n) h.0
only_lift visit part (Put v p s) h = absurd (omega (arith, h.1.1.0))
only_lift visit part (Cut v p at) h = absurd (omega (arith, h.1.1.0))
only_lift visit part (Join v p) h = absurd (omega (arith, h.1.1.0))

lift_fields : (edit : Edit) → HasTag 2 edit → back_of edit ≡ plain edit
lift_fields (Lift v p) h = refl
lift_fields (Put v p s) h = absurd (omega (arith, h.0))
lift_fields (Cut v p at) h = absurd (omega (arith, h.0))
lift_fields (Join v p) h = absurd (omega (arith, h.0))

lift-spells : (airport : AirportParts) → Spells Anywhere airport parse_lift back_of (HasTag 2)
unfolding parse_lift
lift-spells airport = Spells-as back_of (HasTag 2)
    (Spells-then number_in (HasTag 2) (Spells-one (reads_number airport w32 wide32))
    (λ v a. Spells-then part_of (OfVisit 2 v) (Spells-one (reads_byte airport))
    (λ p b. Spells-give (Lift (visit_no v) p) (OfPart 2 v p) (refl, (refl, (refl, tt))) (only_lift v p))
    (λ edit h. tt))
    (λ edit h. tt))
    (λ edit h. h) (λ edit h. h) lift_fields

-- ---- cut

only_cut : (visit part at : ℕ) (edit : Edit) → (minute_in edit ≡ at) × OfPart 3 visit part edit → edit ≡ Cut (visit_no visit) part at
only_cut visit part at (Cut v p m) h =
    ap (λ n. Cut (visit_no n) p m) h.1.1.0 ∙ ap (λ n. Cut (visit_no visit) n m) h.1.0 ∙ ap (λ n. Cut (visit_no visit) part n) h.0
only_cut visit part at (Put v p s) h = absurd (omega (arith, h.1.1.1.0))
only_cut visit part at (Lift v p) h = absurd (omega (arith, h.1.1.1.0))
only_cut visit part at (Join v p) h = absurd (omega (arith, h.1.1.1.0))

cut_fields : (edit : Edit) → HasTag 3 edit → back_of edit ≡ plain edit ++ number_field w32 (minute_in edit) ∷ []
cut_fields (Cut v p m) h = refl
cut_fields (Put v p s) h = absurd (omega (arith, h.0))
cut_fields (Lift v p) h = absurd (omega (arith, h.0))
cut_fields (Join v p) h = absurd (omega (arith, h.0))

cut-spells : (airport : AirportParts) → Spells Anywhere airport parse_cut back_of (HasTag 3)
unfolding parse_cut
cut-spells airport = Spells-as back_of (HasTag 3)
    (Spells-then number_in (HasTag 3) (Spells-one (reads_number airport w32 wide32))
    (λ v a. Spells-then part_of (OfVisit 3 v) (Spells-one (reads_byte airport))
    (λ p b. Spells-then minute_in (OfPart 3 v p) (Spells-one (reads_number airport w32 wide32))
    (λ m c. Spells-give (Cut (visit_no v) p m) (λ edit. (minute_in edit ≡ m) × OfPart 3 v p edit) (refl, (refl, (refl, (refl, tt)))) (only_cut v p m))
    (λ edit h. tt))
    (λ edit h. tt))
    (λ edit h. tt))
    (λ edit h. h) (λ edit h. h) cut_fields

-- ---- join

only_join : (visit part : ℕ) (edit : Edit) → OfPart 4 visit part edit → edit ≡ Join (visit_no visit) part
only_join visit part (Join v p) h = ap (λ n. Join (visit_no n) p) h.1.0 ∙ ap (λ n. Join (visit_no visit) n) h.0
only_join visit part (Put v p s) h = absurd (omega (arith, h.1.1.0))
only_join visit part (Lift v p) h = absurd (omega (arith, h.1.1.0))
only_join visit part (Cut v p at) h = absurd (omega (arith, h.1.1.0))

join_fields : (edit : Edit) → HasTag 4 edit → back_of edit ≡ plain edit
join_fields (Join v p) h = refl
join_fields (Put v p s) h = absurd (omega (arith, h.0))
join_fields (Lift v p) h = absurd (omega (arith, h.0))
join_fields (Cut v p at) h = absurd (omega (arith, h.0))

join-spells : (airport : AirportParts) → Spells Anywhere airport parse_join back_of (HasTag 4)
unfolding parse_join
join-spells airport = Spells-as back_of (HasTag 4)
    (Spells-then number_in (HasTag 4) (Spells-one (reads_number airport w32 wide32))
    (λ v a. Spells-then part_of (OfVisit 4 v) (Spells-one (reads_byte airport))
    (λ p b. Spells-give (Join (visit_no v) p) (OfPart 4 v p) (refl, (refl, (refl, tt))) (only_join v p))
    (λ edit h. tt))
    (λ edit h. tt))
    (λ edit h. h) (λ edit h. h) join_fields

-- ---- any edit

tagged_with : (airport : AirportParts) (tag known : ℕ) (field : Reading Edit) → Spells Anywhere airport field back_of (HasTag known) → (tag == known) ≡ true → Spells Anywhere airport field back_of (HasTag tag)
tagged_with airport tag known field s e = subst (λ t. Spells Anywhere airport field back_of (HasTag t)) (sym (eqb-true tag known e)) s

at_tag : (airport : AirportParts) (tag : ℕ) → Announces airport (parse_edit_of_tag airport tag) back_of (HasTag tag)
at_tag airport tag =
    let fourth : Option (Reading Edit) = cond (tag == 4) (Some parse_join) None in
    let third : Option (Reading Edit) = cond (tag == 3) (Some parse_cut) fourth in
    let second : Option (Reading Edit) = cond (tag == 2) (Some parse_lift) third in
    Announces-or second (tagged_with airport tag 1 (parse_put airport) (put-spells airport))
    (Announces-or third (tagged_with airport tag 2 parse_lift (lift-spells airport))
    (Announces-or fourth (tagged_with airport tag 3 parse_cut (cut-spells airport))
    (Announces-or None (tagged_with airport tag 4 parse_join (join-spells airport)) tt)))

has_field : (airport : AirportParts) (edit : Edit) → IsAny edit → IsSome (parse_edit_of_tag airport (tag_of edit))
has_field airport (Put visit part stand) h = refl
has_field airport (Lift visit part) h = refl
has_field airport (Cut visit part at) h = refl
has_field airport (Join visit part) h = refl

same_fields : (edit : Edit) → edit_fields edit ≡ number_field w8 (tag_of edit) ∷ back_of edit
same_fields (Put visit part stand) = refl
same_fields (Lift visit part) = refl
same_fields (Cut visit part at) = refl
same_fields (Join visit part) = refl

edit-spells : (airport : AirportParts) → Spells Anywhere airport (parse_edit airport) edit_fields IsAny
unfolding parse_edit
edit-spells airport =
    let small : 4 < 256 = omega arith in
    let zero : 0 < 256 = omega arith in
    Spells-as edit_fields IsAny
    (Spells-from Anywhere (λ at h. refl) (Spells-tagged airport BadField (parse_edit_of_tag airport) tag_of back_of IsAny (reads_byte airport) (at_tag airport) (has_field airport)
    (Join (visit_no 0) 0, (tt, (small, (wide32.zero, (zero, tt)))))))
    (λ edit h. h) (λ edit h. h) (λ edit h. same_fields edit)

-- ---- 1 to 64 edits

abbrev is_count : ℕ → Bool
is_count count = nat_le 1 count && nat_le count most_edits

abbrev AreSome : List Edit → Type 0
AreSome edits = is_count (length edits) ≡ true

reads_count : (airport : AirportParts) → ReadsOne airport (such_that is_count byte) (number_field w8) (λ count. is_count count ≡ true)
reads_count airport = let small : 1 < 256 = omega arith in reads_number-in is_count (reads_byte airport) (1, refl, small)

every_any : (edits : List Edit) → Every IsAny edits
every_any [] = tt
every_any (edit ∷ edits) = (tt, every_any edits)

edits-spells : (airport : AirportParts) → Spells Anywhere airport (parse_edits airport) (λ edits. number_field w8 (length edits) ∷ flat_map edit_fields edits) AreSome
unfolding parse_edits
edits-spells airport = Spells-as (λ edits. number_field w8 (length edits) ∷ flat_map edit_fields edits) AreSome
    (Spells-then length AreSome (Spells-one (reads_count airport))
    (λ count c. Spells-as (flat_map edit_fields) (λ edits. (length edits ≡ count) × AreSome edits) (Spells-repeated airport (parse_edit airport) edit_fields IsAny (edit-spells airport) count)
    (λ edits h. (h.0, ap is_count h.0 ∙ c)) (λ edits h. (h.0, every_any edits)) (λ edits h. refl))
    (λ edits h. h))
    (λ edits h. h) (λ edits h. h) (λ edits h. refl)

-- ---- the whole

abbrev draft_of : List ℕ → ℕ → ℕ → List Edit → Draft
draft_of desk number base edits = record { desk = desk; number = number; base = base; edits = edits }

same_draft : (d d' : List ℕ) (n n' b b' : ℕ) (e e' : List Edit) → d ≡ d' → n ≡ n' → b ≡ b' → e ≡ e' → draft_of d n b e ≡ draft_of d' n' b' e'
same_draft d d' n n' b b' e e' ed en eb ee = cc

-- a draft has some edits, but not too many
abbrev pub HasEdits : Draft → Type 0
HasEdits draft = (1 ≤ length draft.edits) × (length draft.edits ≤ most_edits)

abbrev OfDesk : List ℕ → Draft → Type 0
OfDesk desk draft = (draft.desk ≡ desk) × HasEdits draft

abbrev OfNumber : List ℕ → ℕ → Draft → Type 0
OfNumber desk number draft = (draft.number ≡ number) × OfDesk desk draft

abbrev OfBase : List ℕ → ℕ → ℕ → Draft → Type 0
OfBase desk number base draft = (draft.base ≡ base) × OfNumber desk number draft

has_edits : (edits : List Edit) → AreSome edits → (1 ≤ length edits) × (length edits ≤ most_edits)
has_edits edits h = let parts = and_parts (nat_le 1 (length edits)) (nat_le (length edits) most_edits) h in (leb-true 1 (length edits) parts.0, leb-true (length edits) most_edits parts.1)

are_some : (draft : Draft) → HasEdits draft → AreSome draft.edits
are_some draft h = and_from (nat_le 1 (length draft.edits)) (nat_le (length draft.edits) most_edits) (le-leb 1 (length draft.edits) h.0) (le-leb (length draft.edits) most_edits h.1)

abbrev first_fields : Draft → List Field → List Field
first_fields draft edits = name_field draft.desk ∷ number_field w32 draft.number ∷ number_field w32 draft.base ∷ number_field w8 (length draft.edits) ∷ edits

pub commit-spells : (airport : AirportParts) → Spells Anywhere airport (parse_commit airport) commit_fields HasEdits
unfolding parse_commit
commit-spells airport = Spells-as commit_fields HasEdits
    (Spells-then (λ draft. draft.desk) HasEdits (Spells-one (reads_name airport))
    (λ d a. Spells-then (λ draft. draft.number) (OfDesk d) (Spells-one (reads_number airport w32 wide32))
    (λ n b. Spells-then (λ draft. draft.base) (OfNumber d n) (Spells-one (reads_number airport w32 wide32))
    (λ k c. Spells-then (λ draft. draft.edits) (OfBase d n k) (edits-spells airport)
    (λ e f. Spells-give (draft_of d n k e) (λ draft. (draft.edits ≡ e) × OfBase d n k draft) (refl, (refl, (refl, (refl, has_edits e f))))
    (λ draft h. same_draft draft.desk d draft.number n draft.base k draft.edits e h.1.1.1.0 h.1.1.0 h.1.0 h.0))
    (λ draft h. are_some draft h.1.1.1))
    (λ draft h. tt))
    (λ draft h. tt))
    (λ draft h. tt))
    (λ draft h. h) (λ draft h. h) (λ draft h. ap (first_fields draft) (sym (append-nil (flat_map edit_fields draft.edits))))
