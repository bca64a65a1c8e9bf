use Rattle.apron_run.proofs.desk.serve_desk.Given as goal

abbrev pub ghosts-serve_on-N-Named : goal.ghosts-serve_on-N-Named
ghosts-serve_on-N-Named g a = record { name = a.disk.ghost_name }

abbrev pub ghosts-serve_on-N-OfFiles : goal.ghosts-serve_on-N-OfFiles
ghosts-serve_on-N-OfFiles g a = record { digests = a.files.now.digests; begun = g.D.Disk.state a.disk.now }
