-- What a keeper keeps of a history over its calls.
use Rattle.std.proofs.Common.{◌≡◌, ◌∙◌, ◌+◌, ◌∷◌, ◌++◌, [], ℕ, List, Option, None, Some, IfSome, true, length, refl, ap, sym, subst, ⊎_elim, arith, length-append}
use Rattle.std.proofs.lemmas.List.{length-map, map-append}
use Rattle.std.specs.Option.{option_map}
use Rattle.std.specs.Result.{result_ok}
use Rattle.apron_base.specs.Counts.{Counts}
use Rattle.apron_base.specs.Histories.{Every}
use Rattle.apron_base.specs.Keeper.{AddsEntry, FailsToAdd, IsRiskOf, KeeperState, with_last}
use Rattle.apron_rules.specs.declared.parts.AirportParts.{AirportParts}
use Rattle.desk_asks.specs.declared.asks.Entry.{Entry}
use Rattle.entry_bytes.specs.Entries.{IsEntryOf, entry_text}
use Rattle.entry_bytes.proofs.EntriesSpelt.{entry_is_read}
use Rattle.history_core.specs.AtRisk.{entry_read}
use Rattle.history_core.specs.Board.{CanFollow, IsKeeperOf, Spells, entry_texts}
use Rattle.history_core.specs.History.{IsLegal}

-- the texts of the entries and one more
pub texts_push : (history : List Entry) (entry : Entry) → entry_texts (with_last entry history) ≡ with_last (entry_text entry) (entry_texts history)
texts_push history entry = map-append entry_text history (entry ∷ [])

-- each of these, and one more
pub every_push : {E : Type 0} (P : E → Type 0) (es : List E) (e : E) → Every P es → P e → Every P (es ++ e ∷ [])
every_push P [] e all one = (one, tt)
every_push P (first ∷ es) e all one = (all.0, every_push P es e all.1 one)

-- the bytes of a history and one more entry
pub spells_push : (airport : AirportParts) (front : List (List ℕ)) (before : List Entry) (bytes : List ℕ) (entry : Entry) → Spells airport front before
    → IsEntryOf airport entry → bytes ≡ entry_text entry → Spells airport (front ++ bytes ∷ []) (with_last entry before)
spells_push airport front before bytes entry spells is text = (
  ap (λ (b : List ℕ). front ++ b ∷ []) text ∙ ap (with_last (entry_text entry)) spells.0 ∙ sym (texts_push before entry),
  every_push (IsEntryOf airport) before entry spells.1 is,
)

told_push : (history : List Entry) (entry : Entry) (before : Option (List (List ℕ))) → IfSome before (λ es. es ≡ entry_texts history)
    → IfSome (option_map (with_last (entry_text entry)) before) (λ es. es ≡ entry_texts (with_last entry history))
told_push history entry None same = tt
told_push history entry (Some es) same = ap (with_last (entry_text entry)) same ∙ sym (texts_push history entry)

-- the entry of the bytes at risk
pub risk_read : (airport : AirportParts) (history : List Entry) (risk : Option Entry) (bytes : Option (List ℕ)) → IfSome risk (CanFollow airport history) → bytes ≡ option_map entry_text risk
    → entry_read airport bytes ≡ risk
risk_read airport history None bytes follows is = ap (entry_read airport) is
risk_read airport history (Some entry) bytes follows is = ap (entry_read airport) is ∙ ap result_ok (entry_is_read airport (entry_text entry) entry (follows.is, refl))

-- a keeper of an entry at risk is one of that of its bytes
pub kept_read : (airport : AirportParts) (history : List Entry) (risk : Option Entry) (keeper : KeeperState) → IsKeeperOf airport history risk keeper
    → IsKeeperOf airport history (entry_read airport keeper.at_risk) keeper
kept_read airport history risk keeper kept =
    subst (λ (o : Option Entry). IsKeeperOf airport history o keeper) (sym (risk_read airport history risk keeper.at_risk kept.follows kept.at_risk_is)) kept

-- after an append the keeper keeps the history with that entry
pub kept_added : (airport : AirportParts) (history : List Entry) (risk : Option Entry) (before after : KeeperState) (entry : Entry) → IsKeeperOf airport history risk before
    → IsEntryOf airport entry → AddsEntry before after (entry_text entry) → IsKeeperOf airport (with_last entry history) None after
kept_added airport history risk before after entry kept is adds = record {
  entries = subst (λ o. IfSome o (λ es. es ≡ entry_texts (with_last entry history))) (sym adds.entries) (told_push history entry before.entries kept.entries);
  each = every_push (IsEntryOf airport) history entry kept.each is;
  number = adds.number ∙ (ap (λ n. n + 1) kept.number ∙ sym (length-append history (entry ∷ [])));
  at_risk_is = adds.at_risk;
  follows = tt;
  safe = λ none. refl;
}

-- what is at risk after an append that failed
record IsRisk (airport : AirportParts) (history : List Entry) (bytes : Option (List ℕ)) : Type 0 where
  risk : Option Entry
  is : bytes ≡ option_map entry_text risk
  follows : IfSome risk (CanFollow airport history)

failed_risk : (airport : AirportParts) (history : List Entry) (risk : Option Entry) (before after : Option (List ℕ)) (entry : Entry) → CanFollow airport history entry
    → before ≡ option_map entry_text risk → IfSome risk (CanFollow airport history) → IsRiskOf after before (entry_text entry) → IsRisk airport history after
failed_risk airport history risk before after entry next is follows = ⊎_elim
    (λ (none : after ≡ None). record { risk = None; is = none; follows = tt })
    (⊎_elim
    (λ (same : after ≡ before). record { risk = risk; is = same ∙ is; follows = follows })
    (λ (this : after ≡ Some (entry_text entry)). record { risk = Some entry; is = this; follows = next }))

-- after an append that failed the keeper keeps the history as it was, and the entry may be at risk
pub kept_failed : (airport : AirportParts) (history : List Entry) (risk : Option Entry) (before after : KeeperState) (entry : Entry) → IsKeeperOf airport history risk before
    → IsEntryOf airport entry → IsLegal airport (with_last entry history) → FailsToAdd before after (entry_text entry) → IsKeeperOf airport history (entry_read airport after.at_risk) after
kept_failed airport history risk before after entry kept is legal fails =
    let left = failed_risk airport history risk before.at_risk after.at_risk entry (record { is = is; legal = legal }) kept.at_risk_is kept.follows fails.at_risk in
    kept_read airport history left.risk after (record {
      entries = subst (λ o. IfSome o (λ es. es ≡ entry_texts history)) (sym fails.entries) kept.entries;
      each = kept.each;
      number = fails.number ∙ kept.number;
      at_risk_is = left.is;
      follows = left.follows;
      safe = λ none. let counts : Counts true before.faults after.faults = fails.faults in absurd (omega (arith, counts.1));
    })

-- after making room, whether that succeeded or not
pub kept_ready : (airport : AirportParts) (history : List Entry) (risk : Option Entry) (before after : KeeperState) → IsKeeperOf airport history risk before
    → after ≡ record before { room = after.room } → IsKeeperOf airport history risk after
kept_ready airport history risk before after kept is = subst (IsKeeperOf airport history risk) (sym is)
    (record { entries = kept.entries; each = kept.each; number = kept.number; at_risk_is = kept.at_risk_is; follows = kept.follows; safe = kept.safe })

-- a keeper that has the texts of a history, and none at risk, keeps it
pub kept_opened : (airport : AirportParts) (history : List Entry) (keeper : KeeperState) → IfSome keeper.entries (λ es. es ≡ entry_texts history)
    → keeper.number ≡ length (entry_texts history) → keeper.at_risk ≡ None → Every (IsEntryOf airport) history → IsKeeperOf airport history None keeper
kept_opened airport history keeper entries number none each = record {
  entries = entries;
  each = each;
  number = number ∙ length-map history entry_text;
  at_risk_is = none;
  follows = tt;
  safe = λ unfailed. refl;
}
