use Rattle.std.proofs.Common.{◌∙◌, ◌++◌, ℕ, List, ap}
use Rattle.apron_rules.specs.declared.parts.AirportParts.{AirportParts}
use Rattle.proposal_text.specs.Lines.{proposal_text}
use Rattle.proposal_text.proofs.drafts.proposal_over.Goals as goal

pub returns : goal.returns
returns g c =
    let proposal = c.in_ok-proposal.proposal in
    let parts = c.parts.result.now in
    record {
      text = (
        proposal,
        c.in_ok-proposal.ensures.proposal,
        c.from_vec.ensures.items
            ∙ (c.in_ok-push_proposal.ensures.text
            ∙ (ap (λ (text : List ℕ). text ++ proposal_text parts proposal) c.new-text.ensures.items
            ∙ ap (λ (a : AirportParts). proposal_text a proposal) (c.parts.ensures.value ∙ c.requires.airport))),
      );
    }
