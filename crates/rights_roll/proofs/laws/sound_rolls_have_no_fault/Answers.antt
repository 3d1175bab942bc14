use Rattle.rights_roll.proofs.Soundness.{roll_fault-sound, sound-from_faultless}
use Rattle.rights_roll.proofs.laws.sound_rolls_have_no_fault.Goals as goal

pub returns : goal.returns
returns c = λ rights returns. (roll_fault-sound rights returns, sound-from_faultless rights returns)
