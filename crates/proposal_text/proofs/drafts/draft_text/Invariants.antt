use Rattle.proposal_text.proofs.drafts.draft_text.Given as goal

abbrev pub ghosts-proposal_over : goal.ghosts-proposal_over
ghosts-proposal_over a = record { name = a.blank.name; parts = a.blank.parts }
