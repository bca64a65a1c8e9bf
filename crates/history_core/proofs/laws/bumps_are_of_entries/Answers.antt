use Rattle.history_core.proofs.Bumps.{bumps_of_entries}
use Rattle.history_core.proofs.Legal.{version_entry}
use Rattle.history_core.proofs.laws.bumps_are_of_entries.Goals as goal

pub returns : goal.returns
returns c = record {
  numbered = bumps_of_entries;
  made = λ airport history visit bump legal found has.
      let of = bumps_of_entries airport history visit bump legal found has in version_entry airport history bump.entry legal of.0 of.1;
}
