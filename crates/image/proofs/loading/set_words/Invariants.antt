use Rattle.std.proofs.Common.{◌≡◌, ◌+◌, ◌≤◌, length}
use Rattle.image.specs.Loading.{stored}
use Rattle.image.specs.Views.{segment_of, words_left}
use Rattle.image.proofs.loading.set_words.Given as goal

-- storing the words that are left ends in what storing them all does
abbrev pub invariant-loop-number : goal.invariant-loop-number
invariant-loop-number g l =
    let m = g.M.Memory in
    let s = segment_of l.part in
    let left = words_left l.number-iterator.b in
    let number = l.number-iterator.a.start in
    (stored (m.words l.memory) number left ≡ stored (m.words l.initial.memory) s.first s.values)
    × (number + length left ≤ length (m.words l.memory))
    × (m.frame l.memory ≡ m.frame l.initial.memory)
