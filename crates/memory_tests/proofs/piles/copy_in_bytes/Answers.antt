use Rattle.std.proofs.Common.{rules}
use Rattle.memory.specs.Memory.{loan_of}
use Rattle.memory.proofs.Lists.{words_plain}
use Rattle.memory.proofs.Packed.{packed_fits}
use Rattle.memory_tests.proofs.piles.copy_in_bytes.Goals as goal

pub returns : goal.returns
unfolding loan_of
returns c = let p = words_plain _ (packed_fits _ (λ k. (c.type_inv.bytes k).fits)) in search rules
