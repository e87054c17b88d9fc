use Rattle.memory.proofs.Lists.{words_plain}
use Rattle.memory.proofs.Packed.{packed_fits}
use Rattle.memory.proofs.byte_memory.U8Element.all_fit.Goals as goal

pub returns : goal.returns
returns c = words_plain _ (packed_fits _ (λ k. (c.type_inv._bytes k).fits))
