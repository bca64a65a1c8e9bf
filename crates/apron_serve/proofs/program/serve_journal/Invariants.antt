use Rattle.apron_serve.proofs.program.serve_journal.Given as goal

abbrev pub ghosts-serve_desks : goal.ghosts-serve_desks
ghosts-serve_desks g a = record { digests = a.files.now.digests; begun = g.D.Disk.state a.disk }
