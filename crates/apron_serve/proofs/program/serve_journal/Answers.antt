use Rattle.apron_serve.proofs.program.serve_journal.Goals as goal

pub returns-clause-serves : goal.returns-clause-serves
returns-clause-serves g c = λ shelf source sink. let noted = c.serve_desks-end.ensures.meets shelf source sink in noted.meets
