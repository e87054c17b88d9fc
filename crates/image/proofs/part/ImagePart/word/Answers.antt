use Rattle.std.proofs.Common.{sym, ◌∙◌, ap, get_or, arith}
use Rattle.image.proofs.Numbers.{words_past, word_of_chunk}
use Rattle.image.proofs.part.ImagePart.word.Goals as goal

pub returns-in_err-word : goal.returns-in_err-word
returns-in_err-word c =
    let past = c.in_err-word.ensures.lookup.3 in
    c.from_residual.ensures ∙ sym (words_past c.args.self.now.words.now c.args.k (omega (arith, past, c.as_chunks.ensures.front_len)))

pub returns : goal.returns
returns c =
    let found = c.in_ok-word.ensures.lookup in
    let chunk = c.in_ok-word.word.now in
    word_of_chunk c.args.self.now.words.now c.args.k c.from_be_bytes.result chunk chunk (omega (arith, found.3.0, c.as_chunks.ensures.front_len))
    (found.1 ∙ ap (λ xs. get_or xs c.args.k chunk) c.as_chunks.ensures.front) c.from_be_bytes.ensures c.from_be_bytes.type_inv
