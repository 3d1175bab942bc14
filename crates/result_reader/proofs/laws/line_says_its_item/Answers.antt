use Rattle.result_reader.proofs.Accepting.{line_says_its_item}
use Rattle.result_reader.proofs.laws.line_says_its_item.Goals as goal

pub returns : goal.returns
returns c = line_says_its_item
