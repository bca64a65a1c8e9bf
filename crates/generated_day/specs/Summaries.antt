-- The line of a summary.
use Rattle.std.specs.Prelude.{ℕ, List, ◌++◌, codes, decimal}
use Rattle.generated_day.specs.declared.summary.Summary.{Summary}

-- visits V placed P unplaced U refused R bumped B version N
abbrev pub summary_text : Summary → List ℕ
summary_text summary =
    codes "visits " ++ (decimal summary.visits ++ (codes " placed " ++ (decimal summary.placed
    ++ (codes " unplaced " ++ (decimal summary.unplaced ++ (codes " refused "
    ++ (decimal summary.refused ++ (codes " bumped " ++ (decimal summary.bumped
    ++ (codes " version " ++ (decimal summary.version ++ codes "\n")))))))))))
