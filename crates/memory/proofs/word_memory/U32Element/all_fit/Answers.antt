use Rattle.memory.proofs.Lists.{words_plain}
use Rattle.memory.proofs.word_memory.U32Element.all_fit.Goals as goal

pub returns : goal.returns
returns c = words_plain _ (λ k. (c.type_inv._words k).fits)
