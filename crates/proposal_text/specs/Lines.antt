-- What is printed for a draft of a desk: that its number is used, or the lines of a proposal.
use Rattle.std.specs.Prelude.{◌≡◌, ◌++◌, [], ℕ, List, Option, None, Some, codes, decimal}
use Rattle.std.specs.List.{flat_map}
use Rattle.apron_base.specs.declared.numbers.PartId.{PartId}
use Rattle.apron_base.specs.declared.numbers.StandNo.{StandNo}
use Rattle.apron_rules.specs.declared.parts.AirportParts.{AirportParts}
use Rattle.visit_book.specs.declared.edits.Edit.{Edit}
use Rattle.visit_book.specs.declared.edits.Edit.TheVariants.{Put}
use Rattle.plan_core.specs.PlanState.{PlanState}
use Rattle.wall_chart.specs.Rows.{part_text}
use Rattle.stand_proposer.specs.declared.proposals.Left.{Left}
use Rattle.stand_proposer.specs.declared.proposals.Proposal.{Proposal}
use Rattle.stand_proposer.specs.Proposals.{IsProposal}
use Rattle.proposal_text.specs.Reasons.{reason_lines, stand_name}

-- propose on version N
abbrev pub proposal_first_line : ℕ → List ℕ
proposal_first_line version = codes "propose on version " ++ decimal version ++ codes "\n"

-- put PART STAND
abbrev pub put_line : AirportParts → PartId → StandNo → List ℕ
put_line airport part stand =
    codes "put " ++ part_text part ++ codes " " ++ stand_name airport stand.0 ++ codes "\n"

-- the line of an edit that puts a part on a stand: a proposal has no other edits
abbrev pub edit_line : AirportParts → Edit → List ℕ
edit_line airport (Put visit part stand) =
    put_line airport (record { visit = visit; part = part }) stand
edit_line airport edit = []

-- a line for each edit
abbrev pub edit_lines : AirportParts → List Edit → List ℕ
edit_lines airport edits = flat_map (edit_line airport) edits

-- the lines of each part that no stand takes
abbrev pub left_lines : AirportParts → List Left → List ℕ
left_lines airport lefts = flat_map (reason_lines airport) lefts

-- over PART
abbrev pub over_line : PartId → List ℕ
over_line part = codes "over " ++ part_text part ++ codes "\n"

-- a line for each part that was not tried
abbrev pub over_lines : List PartId → List ℕ
over_lines parts = flat_map over_line parts

-- the text of a proposal
unfoldable pub proposal_text : AirportParts → Proposal → List ℕ
proposal_text airport proposal =
    proposal_first_line proposal.base
    ++ edit_lines airport proposal.edits
    ++ left_lines airport proposal.left
    ++ over_lines proposal.over
    ++ codes "end\n"

-- the text is that of a proposal over the plan
abbrev pub IsProposalText : PlanState → List ℕ → Type 0
IsProposalText plan text =
    (proposal : Proposal) × IsProposal plan proposal × (text ≡ proposal_text plan.airport proposal)

-- the line that says that a commit is of the draft
abbrev pub used_text : List ℕ
used_text = codes "draft used\n"

-- what is printed for a draft that made this version, or none
abbrev pub IsDraftText : PlanState → Option ℕ → List ℕ → Type 0
IsDraftText plan (Some version) text = text ≡ used_text
IsDraftText plan None text = IsProposalText plan text
