use Rattle.std.proofs.Common.{arith, rules}
use Rattle.memory.specs.ByteMemory.{packed}
use Rattle.memory.proofs.Lists.{words_length}
use Rattle.memory.proofs.Packed.{packed_length, chunk_word}
use Rattle.memory.proofs.byte_memory.U8Element.word.Goals as goal

pub bounds-words-number : goal.bounds-words-number
bounds-words-number c = omega (arith, words_length (packed c.args.bytes.now), packed_length c.args.bytes.now)

pub returns : goal.returns
returns c = search (rules, chunk_word c.args.bytes.now c.args.number c.as_chunks.result.0.now c.as_chunks.ensures.front)
