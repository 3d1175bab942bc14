use Rattle.river_net.proofs.NoFault.{faultless_sound, sound_faultless}
use Rattle.river_net.proofs.laws.sound_networks_have_no_fault.Goals as goal

pub returns : goal.returns
returns c = λ nodes links ends. (sound_faultless nodes links ends, faultless_sound nodes links)
