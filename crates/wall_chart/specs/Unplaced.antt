-- The lines of the parts that wait for a stand on a day.
use Rattle.std.specs.Prelude.{◌++◌, ◌&&◌, [], ℕ, Bool, nat_le, nat_lt, List, Some, codes, decimal, filter}
use Rattle.std.specs.List.{list_any}
use Rattle.apron_rules.specs.declared.parts.AirportParts.{AirportParts}
use Rattle.visit_book.specs.declared.visits.Bump.{Bump}
use Rattle.visit_book.specs.declared.visits.Part.{Part}
use Rattle.visit_book.specs.declared.visits.Place.{Place}
use Rattle.visit_book.specs.declared.visits.Place.TheVariants.{Unplaced}
use Rattle.visit_book.specs.declared.visits.Visit.{Visit}
use Rattle.plan_core.specs.PlanState.{PlanState}
use Rattle.apron_rules.specs.RuleWords.{rule_word}
use Rattle.visit_book.specs.declared.visits.PartRow.{PartRow}
use Rattle.plan_lists.specs.OfDay.{is_of_day}
use Rattle.plan_lists.specs.Unplaced.{unplaced_parts}
use Rattle.wall_chart.specs.Rows.{part_text, row_text}
use Rattle.wall_chart.specs.Times.{time_text}

-- the parts of live visits that wait for a stand and have a minute of the day, by rank
abbrev pub unplaced_on : PlanState → ℕ → List PartRow
unplaced_on plan day = filter (is_of_day day) (unplaced_parts plan)

-- what took the stand, and in which entry
abbrev pub blocker_text : Bump → List ℕ
blocker_text bump =
    codes " bumped by " ++ part_text bump.blocker ++ codes " in entry " ++ decimal bump.entry

-- the same, with the minute and the rule of the clash
abbrev pub bump_text : Bump → List ℕ
bump_text bump =
    blocker_text bump ++ codes " at " ++ time_text bump.minute ++ codes " " ++ rule_word bump.rule

-- what took the stand of a part, if something did
abbrev pub place_bump_text : Place → List ℕ
place_bump_text (Unplaced (Some bump)) = bump_text bump
place_bump_text place = []

-- PART TYPE FROM-TO, and what took its stand
abbrev pub unplaced_line : AirportParts → List Visit → PartRow → List ℕ
unplaced_line airport visits row =
    row_text airport visits row ++ place_bump_text row.part.place ++ codes "\n"
