use Rattle.season_files.proofs.Numbers.{named}
use Rattle.season_files.proofs.records.if_name.Goals as goal

pub returns : goal.returns
returns c = record { value = named c.args.text.now _ c.new.ensures.form }
