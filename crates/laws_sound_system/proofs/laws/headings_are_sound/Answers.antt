use Rattle.laws_sound_system.proofs.HeadingLemmas.{headings-are-sound}
use Rattle.laws_sound_system.proofs.laws.headings_are_sound.Goals as goal

pub returns : goal.returns
returns c = headings-are-sound
