use Rattle.std.proofs.Common.{◌≡◌, ◌++◌, length, drop, replicate}
use Rattle.memory.proofs.edits.fill.Given as goal

abbrev pub invariant-loop-number : goal.invariant-loop-number
invariant-loop-number g l =
    let m = g.M.Memory in
    let ws = m.words l.initial.memory in
    (m.words l.memory ≡ replicate l.number l.value ++ drop l.number ws)
    × (length ws ≡ 0 → m.delay l.memory ≡ m.delay l.initial.memory)
    × (m.frame l.memory ≡ m.frame l.initial.memory)
