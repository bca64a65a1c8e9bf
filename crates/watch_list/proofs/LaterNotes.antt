-- Notes in order of entry, and those after an entry.
use Rattle.std.proofs.Common.{◌≡◌, ◌<◌, ◌≤◌, ◌∷◌, ◌&&◌, [], ℕ, zero, suc, Bool, true, false, List, drop, length, refl, ap, arith, if◌then◌else◌}
use Rattle.std.specs.Prelude.{filter, slice_index_or}
use Rattle.std.specs.List.Sorted.{IsNonDecreasingBy}
use Rattle.std.proofs.lemmas.Bool.Decides.{nat_tests}
use Rattle.watch_list.specs.declared.note.Note.{Note}
use Rattle.watch_list.specs.Watches.{feed, is_later}

-- the notes are in order of entry, and the first is of this one or a later one
abbrev pub IsOrdered : ℕ → List Note → Type 0
IsOrdered low [] = Unit {0}
IsOrdered low (note ∷ notes) = (low ≤ note.entry) × IsOrdered note.entry notes

pub ordered_from : (low first : ℕ) (notes : List Note) → low ≤ first → IsOrdered first notes → IsOrdered low notes
ordered_from low first [] below ordered = tt
ordered_from low first (note ∷ notes) below ordered = let least = ordered.0 in (omega arith, ordered.1)

ordered_at : (low : ℕ) (notes : List Note) (place : ℕ) (d : Note) → IsOrdered low notes → place < length notes → low ≤ (slice_index_or notes place d).entry
ordered_at low [] place d ordered within = absurd (omega arith)
ordered_at low (note ∷ notes) zero d ordered within = ordered.0
ordered_at low (note ∷ notes) (suc place) d ordered within =
    ordered_at low notes place d (ordered_from low note.entry notes ordered.0 ordered.1) (omega arith)

pub ordered_rises : (low : ℕ) (notes : List Note) → IsOrdered low notes → IsNonDecreasingBy (λ note. note.entry) notes
ordered_rises low [] ordered i j d order within = absurd (omega arith)
ordered_rises low (note ∷ notes) ordered zero zero d order within = omega arith
ordered_rises low (note ∷ notes) ordered zero (suc j) d order within = ordered_at note.entry notes j d ordered.1 (omega arith)
ordered_rises low (note ∷ notes) ordered (suc i) zero d order within = absurd (omega arith)
ordered_rises low (note ∷ notes) ordered (suc i) (suc j) d order within = ordered_rises note.entry notes ordered.1 i j d (omega arith) (omega arith)

-- those from the place on before which there are none
pub later_from : (after : ℕ) (notes : List Note) (place : ℕ)
    → ((k : ℕ) (d : Note) → k < place → k < length notes → (slice_index_or notes k d).entry ≤ after)
    → ((k : ℕ) (d : Note) → place ≤ k → k < length notes → after < (slice_index_or notes k d).entry)
    → drop place notes ≡ filter (is_later after) notes
later_from after [] zero early late = refl
later_from after [] (suc place) early late = refl
later_from after (note ∷ notes) zero early late =
    let here : after < note.entry = late 0 note (omega arith) (omega arith) in
    let passes : is_later after note ≡ true = grind (arith, nat_tests, here) in
    let rest = later_from after notes zero (λ k d below within. absurd (omega arith)) (λ k d from within. late (suc k) d (omega arith) (omega arith)) in
    rw passes (ap (λ (l : List Note). note ∷ l) rest)
later_from after (note ∷ notes) (suc place) early late =
    let here : note.entry ≤ after = early 0 note (omega arith) (omega arith) in
    let fails : is_later after note ≡ false = grind (arith, nat_tests, here) in
    rw fails
    (later_from after notes place (λ k d below within. early (suc k) d (omega arith) (omega arith)) (λ k d from within. late (suc k) d (omega arith) (omega arith)))

-- two tests at once, of what passes the first
both_if : (later told : Bool) (note : Note) (notes kept : List Note)
    → (if later then (if later && told then note ∷ kept else kept) else kept) ≡ (if later && told then note ∷ kept else kept)
both_if true told note notes kept = refl
both_if false told note notes kept = refl

feed_if : (tells : Note → Bool) (after : ℕ) (later : Bool) (note : Note) (notes : List Note)
    → feed tells after (if later then note ∷ notes else notes) ≡ (if later then feed tells after (note ∷ notes) else feed tells after notes)
feed_if tells after true note notes = refl
feed_if tells after false note notes = refl

-- a feed of the later ones is one of all
pub feed_later : (tells : Note → Bool) (after : ℕ) (notes : List Note) → feed tells after (filter (is_later after) notes) ≡ feed tells after notes
feed_later tells after [] = refl
feed_later tells after (note ∷ notes) =
    let rest = feed_later tells after notes in
    rw (feed_if tells after (is_later after note) note (filter (is_later after) notes), rest)
    (both_if (is_later after note) (tells note) note notes (feed tells after notes))
