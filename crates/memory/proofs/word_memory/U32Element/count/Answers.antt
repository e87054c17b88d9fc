use Rattle.std.proofs.Common.{rules}
use Rattle.memory.proofs.Lists.{words_length}
use Rattle.memory.proofs.word_memory.U32Element.count.Goals as goal

pub returns : goal.returns
returns c = let w = words_length c.args.words.now in search rules
