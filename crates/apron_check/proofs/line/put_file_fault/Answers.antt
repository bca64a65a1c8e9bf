use Rattle.apron_check.proofs.line.put_file_fault.Goals as goal

pub returns-in-NotToml : goal.returns-in-NotToml
returns-in-NotToml g c = record { puts = rw c.in-NotToml.is c.put.ensures.puts }

pub returns-in-MissingKey : goal.returns-in-MissingKey
returns-in-MissingKey g c = record { puts = rw (c.in-MissingKey.is, ← c.as_slice.ensures.items) c.put_both.ensures.puts }

pub returns-in-WrongKind : goal.returns-in-WrongKind
returns-in-WrongKind g c = record { puts = rw (c.in-WrongKind.is, ← c.as_slice-in-WrongKind.ensures.items) c.put_both-in-WrongKind.ensures.puts }

pub returns-in-BadRow : goal.returns-in-BadRow
returns-in-BadRow g c = record { puts = rw c.in-BadRow.is c.put_number.ensures.puts }

pub returns-in-Airport : goal.returns-in-Airport
returns-in-Airport g c = record { puts = rw c.in-Airport.is c.put_airport_fault.ensures.puts }

pub returns-in-Memory : goal.returns-in-Memory
returns-in-Memory g c = record { puts = rw c.in-Memory.is c.put-in-Memory.ensures.puts }
