-- What comes of converting entries of format 1, one after the other.
use Rattle.std.specs.Prelude.{◌≡◌, ℕ, List, [], ◌∷◌, ◌++◌}
use Rattle.apron_base.specs.Histories.{Every}
use Rattle.apron_rules.specs.declared.parts.AirportParts.{AirportParts}
use Rattle.entry_bytes.specs.Former.{ConvertsEntry, SpeltNone}
use Rattle.history_core.specs.declared.opening.OpenFault.{OpenFault}
use Rattle.history_core.specs.declared.opening.OpenFault.TheVariants as entries
use Rattle.journal_disk.specs.Entries.{IsEntry}
use Rattle.apron_run.specs.Converting.{Converts}

-- What is known of converted entries: they are as long as an entry can be.
pub record HasConverted (airport : AirportParts) (old new : List (List ℕ)) : Type 0 where
  pub converts : Converts airport old new
  pub sizes : Every IsEntry new

-- one entry more was converted, and put after the others
pub record ConvertsNext (airport : AirportParts) (bytes : List ℕ)
    (before after : List (List ℕ)) : Type 0 where
  pub new : List ℕ
  pub after_is : after ≡ before ++ new ∷ []
  pub converts : ConvertsEntry airport bytes new
  pub size : IsEntry new

-- why the entry of this number was not converted: it can't be, or there is no memory
abbrev pub NotConverted : AirportParts → ℕ → List ℕ → OpenFault → Type 0
NotConverted airport number bytes (entries.BadEntry told) =
    (told ≡ number) × SpeltNone airport bytes
NotConverted airport number bytes (entries.WrongEntry told) = ⊥
NotConverted airport number bytes entries.Memory = Unit {0}
