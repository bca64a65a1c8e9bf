-- What tells how an import ended.
use Rattle.std.specs.Prelude.{ℕ, List, [], ◌++◌, codes, decimal}
use Rattle.apron_check.specs.Lines.{memory_text}
use Rattle.apron_run.specs.declared.imported.Imported.{Imported}
use Rattle.apron_run.specs.declared.imported.Imported.TheVariants as imported

-- the text that says how an import ended: nothing if the call numbers have run out
abbrev pub imported_text : Imported → List ℕ
imported_text (imported.Whole added present) =
    (codes "added " ++ decimal added) ++ (codes " present " ++ decimal present)
imported_text imported.ShelfFault = codes "shelf fault"
imported_text imported.TooLong = codes "season: too long"
imported_text (imported.Refused number) = codes "season: record " ++ decimal number
imported_text (imported.Full number) = codes "full at record " ++ decimal number
imported_text imported.DiskFault = codes "disk fault"
imported_text imported.Spent = []
imported_text imported.Memory = memory_text
