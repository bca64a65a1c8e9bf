-- The first clash of one slot.
use Rattle.std.specs.Prelude.{◌⊎◌, List, Option, Contains}
use Rattle.apron_base.specs.declared.slot.Slot.{Slot}
use Rattle.apron_rules.specs.declared.parts.AirportParts.{AirportParts}
use Rattle.apron_rules.specs.declared.rules.Clash.{Clash}
use Rattle.apron_rules.specs.Clash.{IsClashOf, IsLeast}

-- the two slots have this clash, whichever part is the smaller
abbrev pub IsClashOfBoth : AirportParts → Slot → Slot → Clash → Type 0
IsClashOfBoth airport slot other clash = IsClashOf airport slot other clash
    ⊎ IsClashOf airport other slot clash

-- the first clash of a slot with any of these, or none if all its clashes are between two actual
-- slots
abbrev pub IsFirstWith : AirportParts → Slot → List Slot → Option Clash → Type 0
IsFirstWith airport slot others found =
    IsLeast
    (λ clash. (other : Slot) × Contains others other × IsClashOfBoth airport slot other clash) found
