use Rattle.apron_run.proofs.upgrade.upgrade_journal.Given as goal

abbrev pub ghosts-upgrade_on : goal.ghosts-upgrade_on
ghosts-upgrade_on g a = record { name = a.disk.ghost_name }
