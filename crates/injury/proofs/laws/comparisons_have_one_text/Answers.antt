use Rattle.injury.proofs.OneText.{comparisons_have_one_text}
use Rattle.injury.proofs.laws.comparisons_have_one_text.Goals as goal

pub returns : goal.returns
returns c = comparisons_have_one_text
