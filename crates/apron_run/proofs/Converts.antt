-- Entries that are converted one after another.
use Rattle.std.proofs.Common.{◌≡◌, ◌∙◌, ◌+◌, ℕ, List, [], ◌∷◌, ◌++◌, length, map, refl, sym, ap, ap₂, subst}
use Rattle.std.proofs.lemmas.List.{map-append, length-map}
use Rattle.apron_base.specs.Histories.{Every}
use Rattle.apron_rules.specs.declared.parts.AirportParts.{AirportParts}
use Rattle.desk_asks.specs.declared.asks.Entry.{Entry}
use Rattle.entry_bytes.specs.Entries.{IsEntryOf, entry_text}
use Rattle.entry_bytes.specs.Former.{SpeltNone, WasEntryOf, former_text}
use Rattle.entry_bytes.proofs.FormerSpelt.{former_entries_are_different}
use Rattle.history_core.specs.Board.{entry_texts}
use Rattle.history_core.specs.declared.opening.OpenFault.{OpenFault}
use Rattle.history_core.specs.declared.opening.OpenFault.TheVariants as entries
use Rattle.history_core.proofs.Keepers.{every_push, texts_push}
use Rattle.journal_disk.specs.Entries.{IsEntry}
use Rattle.apron_run.specs.Converting.{CannotConvert, Converts, Spelt}
use Rattle.apron_run.specs.Converted.{HasConverted, ConvertsNext, NotConverted}

-- none was converted yet
pub none_converted : (airport : AirportParts) → HasConverted airport [] []
none_converted airport = record { converts = ([], (refl, tt), refl); sizes = tt }

-- one more was converted
pub next_converted : (airport : AirportParts) (front : List (List ℕ)) (bytes : List ℕ) (before after : List (List ℕ)) → HasConverted airport front before
    → ConvertsNext airport bytes before after → HasConverted airport (front ++ bytes ∷ []) after
next_converted airport front bytes before after has next =
    let (history, spelt, texts) = has.converts in
    let (entry, was, old, new) = next.converts in
    subst (HasConverted airport (front ++ bytes ∷ [])) (sym next.after_is) (record {
      converts = (
        history ++ entry ∷ [],
        (ap₂ (λ bs b. bs ++ b ∷ []) spelt.0 old ∙ sym (map-append former_text history (entry ∷ [])), every_push (WasEntryOf airport) history entry spelt.1 was),
        ap₂ (λ bs b. bs ++ b ∷ []) texts new ∙ sym (texts_push history entry),
      );
      sizes = every_push IsEntry before next.new has.sizes next.size;
    })

-- as many were converted as there were
pub converted_count : (airport : AirportParts) (old new : List (List ℕ)) → Converts airport old new → length new ≡ length old
converted_count airport old new (history, spelt, texts) =
    ap length texts ∙ length-map history entry_text ∙ sym (length-map history former_text) ∙ sym (ap length spelt.0)

-- an entry that is not converted stops the others
pub stops_converting : (airport : AirportParts) (old front : List (List ℕ)) (bytes : List ℕ) (back new : List (List ℕ)) (fault : OpenFault) → old ≡ front ++ bytes ∷ back
    → Converts airport front new → NotConverted airport (length new + 1) bytes fault → CannotConvert airport old fault
stops_converting airport old front bytes back new (entries.BadEntry number) are converts (is, none) =
    (front, new, back, bytes, are, is ∙ ap (λ (n : ℕ). n + 1) (converted_count airport front new converts), converts, none)
stops_converting airport old front bytes back new (entries.WrongEntry number) are converts why = absurd why
stops_converting airport old front bytes back new entries.Memory are converts why = tt

-- none of the entries of a history stops its conversion
pub none_stops : (airport : AirportParts) (front : List (List ℕ)) (bytes : List ℕ) (back : List (List ℕ)) (history : List Entry) → Spelt airport (front ++ bytes ∷ back) history
    → SpeltNone airport bytes → ⊥
none_stops airport [] bytes back [] spelt none = absurd cc
none_stops airport [] bytes back (entry ∷ history) spelt none =
    let both : bytes ∷ back ≡ former_text entry ∷ map former_text history = spelt.0 in
    let is : bytes ≡ former_text entry = cc in
    none entry spelt.1.0 is
none_stops airport (f ∷ front) bytes back [] spelt none = absurd cc
none_stops airport (f ∷ front) bytes back (entry ∷ history) spelt none =
    let both : f ∷ (front ++ bytes ∷ back) ≡ former_text entry ∷ map former_text history = spelt.0 in
    let rest : front ++ bytes ∷ back ≡ map former_text history = cc in
    none_stops airport front bytes back history (rest, spelt.1.1) none

-- entries of format 1 are those of one history
pub spelt_once : (airport : AirportParts) (old : List (List ℕ)) (one other : List Entry) → Spelt airport old one → Spelt airport old other → one ≡ other
spelt_once airport old [] [] a b = refl
spelt_once airport old [] (y ∷ ys) a b = let both : [] ≡ former_text y ∷ map former_text ys = sym a.0 ∙ b.0 in absurd cc
spelt_once airport old (x ∷ xs) [] a b = let both : former_text x ∷ map former_text xs ≡ [] = sym a.0 ∙ b.0 in absurd cc
spelt_once airport old (x ∷ xs) (y ∷ ys) a b =
    let both : former_text x ∷ map former_text xs ≡ former_text y ∷ map former_text ys = sym a.0 ∙ b.0 in
    let first : former_text x ≡ former_text y = cc in
    let others : map former_text xs ≡ map former_text ys = cc in
    ap₂ (λ e es. e ∷ es) (former_entries_are_different airport x y a.1.0 b.1.0 first) (spelt_once airport (map former_text xs) xs ys (refl, a.1.1) (others, b.1.1))

-- entries that existed then are entries
pub each_was : (airport : AirportParts) (history : List Entry) → Every (WasEntryOf airport) history → Every (IsEntryOf airport) history
each_was airport [] each = tt
each_was airport (entry ∷ history) each = (each.0.0, each_was airport history each.1)

-- the bytes to which the entries of a history are converted are theirs
pub texts_are : (airport : AirportParts) (old new : List (List ℕ)) (history : List Entry) → Converts airport old new → Spelt airport old history → new ≡ entry_texts history
texts_are airport old new history (found, spelt, texts) is = texts ∙ ap entry_texts (spelt_once airport old found history spelt is)
