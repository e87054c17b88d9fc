use Rattle.std.proofs.Common.{refl, arith}
use Rattle.memory.proofs.Lists.{words_length, words_read}
use Rattle.memory.proofs.word_memory.U32Element.word.Goals as goal

pub bounds-words-number : goal.bounds-words-number
bounds-words-number c = omega (arith, words_length c.args.words.now)

pub returns : goal.returns
returns c = words_read c.args.words.now _ _ c.requires (omega arith) refl
