-- The lines of a part that no stand takes.
use Rattle.std.specs.Prelude.{◌++◌, ◌==◌, ℕ, List, codes, decimal, option_map, if◌then◌else◌}
use Rattle.std.specs.List.{enumerate_from, flat_map}
use Rattle.apron_base.specs.declared.numbers.PartId.{PartId}
use Rattle.apron_rules.specs.declared.parts.AirportParts.{AirportParts}
use Rattle.apron_rules.specs.declared.rules.Clash.{Clash}
use Rattle.apron_rules.specs.declared.rules.UnfitBy.{UnfitBy}
use Rattle.apron_rules.specs.declared.rules.UnfitBy.TheVariants.{Letter, Object}
use Rattle.apron_rules.specs.Rules.{stand_at}
use Rattle.apron_rules.specs.RuleWords.{rule_word}
use Rattle.wall_chart.specs.Rows.{name_or_none, part_text}
use Rattle.wall_chart.specs.Times.{time_text}
use Rattle.stand_proposer.specs.declared.proposals.Left.{Left}
use Rattle.stand_proposer.specs.declared.proposals.Why.{Why}
use Rattle.stand_proposer.specs.declared.proposals.Why.TheVariants as why

-- the name of the stand with this place in the airport file, counted from 0
abbrev pub stand_name : AirportParts → ℕ → List ℕ
stand_name airport place =
    name_or_none (option_map (λ row. row.name) (stand_at airport (record { 0 = place })))

-- the part of the clash that is of another visit than this one
abbrev pub other_part : PartId → Clash → PartId
other_part part clash = if clash.a.visit.0 == part.visit.0 then clash.b else clash.a

-- why the type of the part does not fit: its letter, or an object, counted from 1
abbrev pub unfit_text : UnfitBy → List ℕ
unfit_text Letter = codes "letter"
unfit_text (Object place) = codes "object " ++ decimal place

-- the other part of the clash, its minute and its rule
abbrev pub clash_text : PartId → Clash → List ℕ
clash_text part clash =
    codes "clash " ++ part_text (other_part part clash)
    ++ codes " at " ++ time_text clash.minute ++ codes " " ++ rule_word clash.rule

-- why a stand does not take the part
abbrev pub reason_text : PartId → Why → List ℕ
reason_text part (why.Unfit by) = unfit_text by
reason_text part (why.Clash clash) = clash_text part clash

-- left PART STAND, and why the stand does not take the part
abbrev pub reason_line : AirportParts → PartId → ℕ × Why → List ℕ
reason_line airport part (place, why) =
    codes "left " ++ part_text part ++ codes " " ++ stand_name airport place
    ++ codes " " ++ reason_text part why ++ codes "\n"

-- a line for each stand, in order
abbrev pub reason_lines : AirportParts → Left → List ℕ
reason_lines airport left = flat_map (reason_line airport left.part) (enumerate_from 0 left.why)
