use Rattle.apron_check.proofs.line.put_airport_fault.Goals as goal

pub returns-in-DuplicateName : goal.returns-in-DuplicateName
returns-in-DuplicateName g c = record { puts = rw (c.in-DuplicateName.is, ← c.bytes.ensures.value) c.put_both.ensures.puts }

pub returns-in-UnknownName : goal.returns-in-UnknownName
returns-in-UnknownName g c = record { puts = rw (c.in-UnknownName.is, ← c.bytes-in-UnknownName.ensures.value) c.put_both-in-UnknownName.ensures.puts }

pub returns-in-BadHalf : goal.returns-in-BadHalf
returns-in-BadHalf g c = record { puts = rw (c.in-BadHalf.is, ← c.bytes-in-BadHalf.ensures.value) c.put_both-in-BadHalf.ensures.puts }

pub returns-in-LimitPassed : goal.returns-in-LimitPassed
returns-in-LimitPassed g c = record { puts = rw (c.in-LimitPassed.is, ← c.limit_word.ensures.text, ← c.as_bytes.ensures.value) c.put_both-in-LimitPassed.ensures.puts }

pub returns-in-BadSpan : goal.returns-in-BadSpan
returns-in-BadSpan g c = record { puts = rw (c.in-BadSpan.is, ← c.bytes-in-BadSpan.ensures.value) c.put_both-in-BadSpan.ensures.puts }

pub returns-in-BadFold : goal.returns-in-BadFold
returns-in-BadFold g c = record { puts = rw (c.in-BadFold.is, ← c.bytes-in-BadFold.ensures.value) c.put_both-in-BadFold.ensures.puts }

pub returns-in-Memory : goal.returns-in-Memory
returns-in-Memory g c = record { puts = rw c.in-Memory.is c.put.ensures.puts }
