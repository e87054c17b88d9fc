use Rattle.std.proofs.Common.{rules}
use Rattle.memory.specs.Memory.{loan_of}
use Rattle.memory.proofs.Lists.{words_plain}
use Rattle.memory_tests.proofs.piles.copy_in_words.Goals as goal

pub returns : goal.returns
unfolding loan_of
returns c = let p = words_plain _ (λ k. (c.type_inv.words k).fits) in search rules
