use Rattle.qe_node.proofs.Sound.{expansion_sound}
use Rattle.qe_node.proofs.laws.expansion_is_sound.Goals as goal

pub returns : goal.returns
returns c = expansion_sound
