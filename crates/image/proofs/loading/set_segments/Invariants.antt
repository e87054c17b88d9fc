use Rattle.std.proofs.Common.{◌≡◌, length}
use Rattle.image.specs.Loading.{loaded}
use Rattle.image.specs.Segments.{Ascending}
use Rattle.image.specs.Views.{segments_of, segments_left}
use Rattle.image.proofs.loading.set_segments.Given as goal

-- loading the segments that are left ends in what loading them all does
abbrev pub invariant-loop-part : goal.invariant-loop-part
invariant-loop-part g l =
    let m = g.M.Memory in
    let left = segments_left l.part-iterator in
    (loaded (m.words l.memory) left ≡ loaded (m.words l.initial.memory) (segments_of l.image))
    × Ascending 0 (length (m.words l.memory)) left
    × (m.frame l.memory ≡ m.frame l.initial.memory)
