use Rattle.std.proofs.Common.{◌∷◌, Some, ◌∙◌, sym, ap, arith}
use Rattle.image.specs.Numbers.{words_of}
use Rattle.image.specs.Views.{words_left}
use Rattle.image.proofs.Iterators.{progress}
use Rattle.image.proofs.Numbers.{words_first}
use Rattle.image.proofs.words.WordsIterator.next.Goals as goal

pub returns-clause-goes : goal.returns-clause-goes
returns-clause-goes c =
    let bytes = c.args.self.now.rest.now in
    let word = c.from_be_bytes.result in
    let cut = c.in_ok-word.ensures.cases in
    let first = words_first bytes word (omega (arith, cut.2)) (rw (← cut.0) c.from_be_bytes.ensures) c.from_be_bytes.type_inv in
    progress _ (λ x. x) words_left c.args.self.now _ (Some word) tt (first ∙ ap (λ xs. word ∷ words_of xs) (sym cut.1))
