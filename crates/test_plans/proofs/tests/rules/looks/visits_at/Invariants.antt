use Rattle.test_plans.proofs.tests.rules.looks.visits_at.Given as goal

abbrev pub ghosts-hits : goal.ghosts-hits
ghosts-hits a = record { name = a.blank.name; parts = a.blank.parts }
