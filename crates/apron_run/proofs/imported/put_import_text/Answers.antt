use Rattle.apron_run.proofs.imported.put_import_text.Goals as goal

pub returns-in-ShelfFault : goal.returns-in-ShelfFault
returns-in-ShelfFault g c = record { puts = rw c.in-ShelfFault.is c.put.ensures.puts }

pub returns-in-Refused : goal.returns-in-Refused
returns-in-Refused g c = record { puts = rw c.in-Refused.is c.put_number.ensures.puts }

pub returns-in-Full : goal.returns-in-Full
returns-in-Full g c = record { puts = rw c.in-Full.is c.put_number-in-Full.ensures.puts }
