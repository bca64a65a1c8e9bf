-- The place that a text names.
use Rattle.std.proofs.Common.{◌≡◌, ◌∙◌, ℕ, List, Option, None, Some, sym, ap}
use Rattle.std.specs.Option.{option_map, option_and_then}
use Rattle.apron_rules.specs.Names.{place_of}
use Rattle.desk_bodies.specs.Commits.{if_name}
use Rattle.desk_http.specs.Names.{place_named}

-- the place of a name, if it is one
abbrev place_if : List (List ℕ) → Option (List ℕ) → Option ℕ
place_if names name = option_and_then (λ text. place_of text names) name

at_place : {N : Type 0} (number : ℕ → N) (place_in : N → ℕ) → ((n : N) → number (place_in n) ≡ n) → (found : Option N) (place : Option ℕ)
    → option_map place_in found ≡ place → found ≡ option_map number place
at_place number place_in same None place e = ap (option_map number) e
at_place number place_in same (Some n) place e = ap Some (sym (same n)) ∙ ap (option_map number) e

module _ {N : Type 0} (number : ℕ → N) (names : List (List ℕ)) (text : List ℕ) where
  -- a text that is no name names none
  pub none_named : (let name : Option (List ℕ) = None in name ≡ if_name text) → None ≡ option_map number (place_named names text)
  none_named e = ap (λ name. option_map number (place_if names name)) e

  -- a name names what is at its place
  pub some_named : (place_in : N → ℕ) → ((n : N) → number (place_in n) ≡ n) → (name : List ℕ) (found : Option N)
      → Some name ≡ if_name text → option_map place_in found ≡ place_of name names → found ≡ option_map number (place_named names text)
  some_named place_in same name found e is = at_place number place_in same found (place_of name names) is ∙ ap (λ name. option_map number (place_if names name)) e
