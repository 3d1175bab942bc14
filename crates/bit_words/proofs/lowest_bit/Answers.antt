use Rattle.std.proofs.Common.{arith}
use Rattle.bit_words.proofs.LowestBit.{lowest_found, none_found}
use Rattle.bit_words.proofs.lowest_bit.Goals as goal

pub returns-then-rest-eq0-clause-none : goal.returns-then-rest-eq0-clause-none
returns-then-rest-eq0-clause-none c = λ i after below. none_found c.args.word c.args.from (omega arith) i after

pub returns-else-rest-eq0-clause-some : goal.returns-else-rest-eq0-clause-some
returns-else-rest-eq0-clause-some c = lowest_found c.args.word c.args.from (omega arith) (omega arith)
