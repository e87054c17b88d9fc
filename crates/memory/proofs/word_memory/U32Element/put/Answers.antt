use Rattle.std.proofs.Common.{arith}
use Rattle.std.proofs.lemmas.List.{drop-set-lt}
use Rattle.memory.proofs.Lists.{words_length, words_set}
use Rattle.memory.proofs.word_memory.U32Element.put.Goals as goal

pub bounds-words-number : goal.bounds-words-number
bounds-words-number c = omega (arith, words_length c.args.words.now)

pub returns : goal.returns
returns c =
    let ws = c.args.words.now in
    let h = words_length ws in
    record { words = words_set ws _ c.args.value (omega arith); rest = drop-set-lt 8192 ws _ _ (omega (arith, c.requires)) }
