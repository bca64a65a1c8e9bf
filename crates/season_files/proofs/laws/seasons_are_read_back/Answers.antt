use Rattle.season_files.proofs.ReadBack.{season-back}
use Rattle.season_files.proofs.laws.seasons_are_read_back.Goals as goal

pub returns : goal.returns
returns c = record { read = season-back }
