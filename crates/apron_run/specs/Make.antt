-- What the word `make` does.
use Rattle.std.specs.Prelude.{◌≡◌, ℕ}
use Rattle.generated_day.specs.Days.{MakesDay}
use Rattle.generated_day.specs.Summaries.{summary_text}
use Rattle.generated_day.specs.declared.summary.Summary.{Summary}
use Rattle.apron_run.specs.World.{Untouched, RunWorld}
use Rattle.apron_run.specs.declared.end.End.{End}
use Rattle.apron_run.specs.declared.end.End.TheVariants as ended

-- what the word does: the summary of a generated day of this many visits is printed
abbrev pub AtMake : ℕ → RunWorld → RunWorld → End → Type 0
AtMake visits before after (ended.Printed line) =
    ((summary : Summary) × MakesDay visits summary × (line ≡ summary_text summary))
    × Untouched before after
AtMake visits before after ended.Memory = Untouched before after
AtMake visits before after end = ⊥
