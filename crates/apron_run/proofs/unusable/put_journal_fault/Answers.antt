use Rattle.apron_run.proofs.unusable.put_journal_fault.Goals as goal

pub returns-in-NotEmpty : goal.returns-in-NotEmpty
returns-in-NotEmpty g c = record { puts = rw c.in-NotEmpty.is c.put-in-NotEmpty.ensures.puts }
