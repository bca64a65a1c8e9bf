use Rattle.apron_run.proofs.plan_text.text_of_journal.Given as goal

abbrev pub ghosts-text_on-N-Named : goal.ghosts-text_on-N-Named
ghosts-text_on-N-Named g a = record { name = a.disk.ghost_name }

abbrev pub ghosts-text_on-N-OfFiles : goal.ghosts-text_on-N-OfFiles
ghosts-text_on-N-OfFiles g a = record { digests = a.files.now.digests; begun = g.D.Disk.state a.disk.now }
