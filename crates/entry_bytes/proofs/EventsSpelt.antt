-- What happened to a visit is read exactly from its fields.
use Rattle.std.proofs.Common.{◌≡◌, ℕ, cond, subst, ◌<◌, List, [], ◌∷◌, Some, None, refl, sym, ap, ◌∙◌, arith}
use Rattle.std.specs.Prelude.{◌==◌, IsSome}
use Rattle.std.specs.Int.{w8, w32}
use Rattle.std.proofs.lemmas.Bool.{eqb-true}
use Rattle.apron_base.specs.declared.numbers.StandNo.{StandNo}
use Rattle.apron_rules.specs.declared.parts.AirportParts.{AirportParts}
use Rattle.visit_book.specs.declared.reports.Event.{Event}
use Rattle.visit_book.specs.declared.reports.Event.TheVariants.{On, Off}
use Rattle.entry_bytes.specs.declared.faults.EntryFault.TheVariants.{BadField}
use Rattle.entry_bytes.specs.Commits.{stand_field}
use Rattle.entry_bytes.specs.Fields.{Field, number_field}
use Rattle.entry_bytes.specs.Parsing.{event_of, parse_event, parse_off, parse_on}
use Rattle.entry_bytes.specs.Reports.{event_fields}
use Rattle.entry_bytes.proofs.CommitsSpelt.{IsAny, reads_stand}
use Rattle.entry_bytes.proofs.Fields.{reads_byte, reads_number, wide32}
use Rattle.entry_bytes.proofs.Spells.{Announces, Announces-or, Anywhere, Spells, Spells-as, Spells-from, Spells-give, Spells-one, Spells-tagged, Spells-then}

abbrev tag_of : Event → ℕ
tag_of (On part stand minute) = 1
tag_of (Off minute) = 2

abbrev back_of : Event → List Field
back_of (On part stand minute) = number_field w8 part ∷ stand_field stand ∷ number_field w32 minute ∷ []
back_of (Off minute) = number_field w32 minute ∷ []

abbrev part_in : Event → ℕ
part_in (On part stand minute) = part
part_in (Off minute) = 0

abbrev stand_in : Event → ℕ
stand_in (On part stand minute) = stand.0
stand_in (Off minute) = 0

abbrev minute_in : Event → ℕ
minute_in (On part stand minute) = minute
minute_in (Off minute) = minute

abbrev stand_no : ℕ → StandNo
stand_no number = record { 0 = number }

abbrev HasTag : ℕ → Event → Type 0
HasTag tag event = (tag_of event ≡ tag) × IsAny event

abbrev OfPart : ℕ → Event → Type 0
OfPart part event = (part_in event ≡ part) × HasTag 1 event

abbrev OfStand : ℕ → ℕ → Event → Type 0
OfStand part stand event = (stand_in event ≡ stand) × OfPart part event

-- ---- on block

only_on : (part stand minute : ℕ) (event : Event) → (minute_in event ≡ minute) × OfStand part stand event → event ≡ On part (stand_no stand) minute
only_on part stand minute (On p s m) h = ap (λ n. On n s m) h.1.1.0 ∙ ap (λ n. On part (stand_no n) m) h.1.0 ∙ ap (λ n. On part (stand_no stand) n) h.0
only_on part stand minute (Off m) h = absurd (omega (arith, h.1.1.1.0))

on_fields : (event : Event) → HasTag 1 event → back_of event ≡ number_field w8 (part_in event) ∷ stand_field (stand_no (stand_in event)) ∷ number_field w32 (minute_in event) ∷ []
on_fields (On p s m) h = refl
on_fields (Off m) h = absurd (omega (arith, h.0))

on-spells : (airport : AirportParts) → Spells Anywhere airport (parse_on airport) back_of (HasTag 1)
unfolding parse_on
on-spells airport = Spells-as back_of (HasTag 1)
    (Spells-then part_in (HasTag 1) (Spells-one (reads_byte airport))
    (λ p a. Spells-then stand_in (OfPart p) (Spells-one (reads_stand airport))
    (λ s b. Spells-then minute_in (OfStand p s) (Spells-one (reads_number airport w32 wide32))
    (λ m c. Spells-give (On p (stand_no s) m) (λ event. (minute_in event ≡ m) × OfStand p s event) (refl, (refl, (refl, (refl, tt)))) (only_on p s m))
    (λ event h. tt))
    (λ event h. tt))
    (λ event h. tt))
    (λ event h. h) (λ event h. h) on_fields

-- ---- off block

only_off : (minute : ℕ) (event : Event) → (minute_in event ≡ minute) × HasTag 2 event → event ≡ Off minute
only_off minute (On p s m) h = absurd (omega (arith, h.1.0))
only_off minute (Off m) h = ap Off h.0

off_fields : (event : Event) → HasTag 2 event → back_of event ≡ number_field w32 (minute_in event) ∷ []
off_fields (On p s m) h = absurd (omega (arith, h.0))
off_fields (Off m) h = refl

off-spells : (airport : AirportParts) → Spells Anywhere airport parse_off back_of (HasTag 2)
unfolding parse_off
off-spells airport = Spells-as back_of (HasTag 2)
    (Spells-then minute_in (HasTag 2) (Spells-one (reads_number airport w32 wide32))
    (λ m c. Spells-give (Off m) (λ event. (minute_in event ≡ m) × HasTag 2 event) (refl, (refl, tt)) (only_off m))
    (λ event h. tt))
    (λ event h. h) (λ event h. h) off_fields

-- ---- any event

at_tag : (airport : AirportParts) (tag : ℕ) → Announces airport (event_of airport tag) back_of (HasTag tag)
at_tag airport tag =
    Announces-or (cond (tag == 2) (Some parse_off) None)
    (λ e. subst (λ t. Spells Anywhere airport (parse_on airport) back_of (HasTag t)) (sym (eqb-true tag 1 e)) (on-spells airport))
    (Announces-or None
    (λ e. subst (λ t. Spells Anywhere airport parse_off back_of (HasTag t)) (sym (eqb-true tag 2 e)) (off-spells airport))
    tt)

has_field : (airport : AirportParts) (event : Event) → IsAny event → IsSome (event_of airport (tag_of event))
has_field airport (On p s m) h = refl
has_field airport (Off m) h = refl

same_fields : (event : Event) → event_fields event ≡ number_field w8 (tag_of event) ∷ back_of event
same_fields (On p s m) = refl
same_fields (Off m) = refl

pub event-spells : (airport : AirportParts) → Spells Anywhere airport (parse_event airport) event_fields IsAny
unfolding parse_event
event-spells airport =
    let small : 2 < 256 = omega arith in
    Spells-as event_fields IsAny
    (Spells-from Anywhere (λ at h. refl) (Spells-tagged airport BadField (event_of airport) tag_of back_of IsAny (reads_byte airport) (at_tag airport) (has_field airport)
    (Off 0, (tt, (small, (wide32.zero, tt))))))
    (λ event h. h) (λ event h. h) (λ event h. same_fields event)
