use Rattle.history_core.proofs.taking.settling.settle_uncounted.Given as goal

abbrev pub ghosts-settle_from : goal.ghosts-settle_from
ghosts-settle_from a = record { name = a.blank.name; parts = a.blank.parts }
