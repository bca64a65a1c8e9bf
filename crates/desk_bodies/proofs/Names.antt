-- The test of a name against the property.
use Rattle.std.proofs.Common.{◌≡◌, ℕ, List, true, false, cond, Option, Some, None, SomeIff, refl}
use Rattle.apron_base.specs.Name.{IsName, is_name}
use Rattle.apron_base.proofs.NameTests.{name_decides}
use Rattle.desk_bodies.specs.Commits.{if_name}

-- a text that has the property of a name passes the test of one
pub named : (text : List ℕ) (o : Option (List ℕ)) → SomeIff o (IsName text) text → o ≡ if_name text
named text None h =
    elim (is_name text) as (λ b. is_name text ≡ b → None ≡ cond b (Some text) None)
    [ true ↦ λ e. absurd (h ((name_decides text).0 e)) | false ↦ λ e. refl ] refl
named text (Some name) h = rw ((name_decides text).1 h.0, h.1) refl
