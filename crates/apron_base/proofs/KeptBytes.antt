-- Known bytes that stay as they are before a call.
use Rattle.std.proofs.Common.{◌∙◌, ◌≡◌, ◌++◌, ℕ, List, [], sym, ap, subst, append-nil}
use Rattle.std.specs.Prelude.{Option, None, Some, Result, Ok, Err}
use Rattle.std.specs.Io.KnownBytes.{Appends, Consumes, Keeps, ReadConsumes, WriteAppends}
use Rattle.std.proofs.KnownBytes.{Keeps-trans}

-- what is consumed after bytes that stay
pub kept_consumes : (a b c : Option (List ℕ)) (xs : List ℕ) → Keeps a b → Consumes b c xs → Consumes a c xs
kept_consumes None b c xs k h = tt
kept_consumes (Some a) None c xs k h = absurd k
kept_consumes (Some a) (Some b) None xs k h = absurd h
kept_consumes (Some a) (Some b) (Some c) xs k h = sym k ∙ h

-- what is appended after bytes that stay
pub kept_appends : (a b c : Option (List ℕ)) (xs : List ℕ) → Keeps a b → Appends b c xs → Appends a c xs
kept_appends None b c xs k h = tt
kept_appends (Some a) None c xs k h = absurd k
kept_appends (Some a) (Some b) None xs k h = absurd h
kept_appends (Some a) (Some b) (Some c) xs k h = h ∙ ap (λ l. l ++ xs) k

-- a read after bytes that stay
pub kept_reads : {E : Type 0} (a b c : Option (List ℕ)) (result : Result ℕ E) (into : List ℕ) → Keeps a b → ReadConsumes b c result into → ReadConsumes a c result into
kept_reads a b c (Ok n) into k h = (kept_consumes a b c _ k h.0, h.1)
kept_reads a b c (Err e) into k h = Keeps-trans a b c k h

-- if bytes stay, none was taken
pub kept_takes_none : (a b : Option (List ℕ)) → Keeps a b → Consumes a b []
kept_takes_none None b k = tt
kept_takes_none (Some a) None k = absurd k
kept_takes_none (Some a) (Some b) k = sym k

-- bytes that nothing was appended to stay
appended_none : (a b : Option (List ℕ)) → Appends a b [] → Keeps a b
appended_none None b h = tt
appended_none (Some a) None h = absurd h
appended_none (Some a) (Some b) h = h ∙ append-nil a

-- a write that takes nothing after bytes that stay
pub kept_writes_none : {E : Type 0} (a b c : Option (List ℕ)) (result : Result ℕ E) (count : ℕ) (piece : List ℕ)
    → result ≡ Ok count → count ≡ 0 → Keeps a b → WriteAppends b c result piece → Keeps a c
kept_writes_none a b c result count piece is none k h =
    Keeps-trans a b c k (appended_none b c (subst (λ r. WriteAppends b c r piece) (is ∙ ap Ok none) h))
