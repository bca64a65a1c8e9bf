use Rattle.std.proofs.Common.{◌≡◌, ◌<◌, ◌≤◌, ℕ, length, map, take}
use Rattle.std.specs.Prelude.{slice_index_or}
use Rattle.visit_book.specs.declared.visits.PartRow.{PartRow}
use Rattle.stand_proposer.specs.Proposals.{AreDecided, nothing_proposed}
use Rattle.stand_proposer.specs.SoFar.{AreTold, IsProposedSoFar, IsUnput}
use Rattle.stand_proposer.proofs.proposals.propose.Given as goal

abbrev pub invariant-loop-row : goal.invariant-loop-row
invariant-loop-row g l = record {
  decided : AreDecided l.plan.plan (nothing_proposed l.plan.plan) (map (λ (row : PartRow). row.id) (take l.row-index l.rows)) l.proposing.proposal;
  base : l.proposing.proposal.base ≡ l.plan.plan.version;
  made : IsProposedSoFar l.plan.plan l.proposing.proposal.edits l.proposing.slots;
  unasked : (k : ℕ) (d : PartRow) → l.row-index ≤ k → k < length l.rows → IsUnput l.proposing.proposal.edits (slice_index_or l.rows k d).id;
  told : AreTold l.plan.plan l.proposing.slots l.proposing.proposal.left;
}
