use Rattle.toml.proofs.Views.{table_get}
use Rattle.airport_files.proofs.forms.find.Goals as goal

pub returns : goal.returns
returns c = record { value = table_get c.get.result c.args.word.now c.args.table.now.entries c.get.ensures.value }
