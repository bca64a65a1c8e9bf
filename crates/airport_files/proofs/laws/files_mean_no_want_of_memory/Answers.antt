use Rattle.airport_files.proofs.Memories.{meaning-said}
use Rattle.airport_files.proofs.laws.files_mean_no_want_of_memory.Goals as goal

pub returns-clause-files : goal.returns-clause-files
returns-clause-files c airport types = (meaning-said airport types).0

pub returns-clause-made : goal.returns-clause-made
returns-clause-made c airport types = (meaning-said airport types).1
