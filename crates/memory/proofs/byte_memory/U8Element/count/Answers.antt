use Rattle.std.proofs.Common.{rules}
use Rattle.memory.specs.ByteMemory.{packed}
use Rattle.memory.proofs.Lists.{words_length}
use Rattle.memory.proofs.Packed.{packed_length}
use Rattle.memory.proofs.byte_memory.U8Element.count.Goals as goal

pub returns : goal.returns
returns c = let w = words_length (packed c.args.bytes.now) in let p = packed_length c.args.bytes.now in search rules
