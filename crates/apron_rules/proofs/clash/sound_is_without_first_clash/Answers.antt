use Rattle.apron_rules.proofs.Symmetry.{none_from_sound, sound_from_none}
use Rattle.apron_rules.proofs.clash.sound_is_without_first_clash.Goals as goal

pub returns-clause-sound : goal.returns-clause-sound
returns-clause-sound c = sound_from_none

pub returns-clause-none : goal.returns-clause-none
returns-clause-none c = none_from_sound
