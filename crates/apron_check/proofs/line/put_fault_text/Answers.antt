use Rattle.apron_check.proofs.line.put_fault_text.Goals as goal

pub returns-in-Faulty : goal.returns-in-Faulty
returns-in-Faulty g c = record { puts = rw c.in-Faulty.is c.put_file_fault.ensures.puts }

pub returns-in-AirportTooLong : goal.returns-in-AirportTooLong
returns-in-AirportTooLong g c = record { puts = rw c.in-AirportTooLong.is c.put.ensures.puts }

pub returns-in-TypesTooLong : goal.returns-in-TypesTooLong
returns-in-TypesTooLong g c = record { puts = rw c.in-TypesTooLong.is c.put-in-TypesTooLong.ensures.puts }

pub returns-in-ShelfFault : goal.returns-in-ShelfFault
returns-in-ShelfFault g c = record { puts = rw c.in-ShelfFault.is c.put-in-ShelfFault.ensures.puts }

pub returns-in-Memory : goal.returns-in-Memory
returns-in-Memory g c = record { puts = rw c.in-Memory.is c.put-in-Memory.ensures.puts }
