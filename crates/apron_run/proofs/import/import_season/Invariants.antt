use Rattle.apron_run.proofs.import.import_season.Given as goal

abbrev pub ghosts-import_on-N-Named : goal.ghosts-import_on-N-Named
ghosts-import_on-N-Named g a = record { name = a.disk.ghost_name }

abbrev pub ghosts-import_on-N-OfFiles : goal.ghosts-import_on-N-OfFiles
ghosts-import_on-N-OfFiles g a = record { digests = a.files.now.digests; begun = g.D.Disk.state a.disk.now }
