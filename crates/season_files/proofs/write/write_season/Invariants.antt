use Rattle.std.proofs.Common.{◌≡◌, Some, take}
use Rattle.season_files.specs.CsvWriting.{IsWriting, written_bytes}
use Rattle.season_files.specs.Texts.{season_of, season_text}
use Rattle.season_files.proofs.write.write_season.Given as goal

abbrev pub invariant-loop-visit : goal.invariant-loop-visit
invariant-loop-visit l = IsWriting l.wtr × (written_bytes l.wtr ≡ Some (season_text l.airport (season_of (take l.visit-index l.visits))))
