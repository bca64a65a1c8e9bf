use Rattle.history_core.proofs.taking.commit.rebase_uncounted.Given as goal

abbrev pub ghosts-rebase_from : goal.ghosts-rebase_from
ghosts-rebase_from a = record { name = a.blank.name; parts = a.blank.parts }
