use Rattle.bench.proofs.airports.measure_slots.Given as goal

abbrev pub ghosts-looks_at_slots : goal.ghosts-looks_at_slots
ghosts-looks_at_slots a = record { name = a.blank.name; parts = a.blank.parts }
