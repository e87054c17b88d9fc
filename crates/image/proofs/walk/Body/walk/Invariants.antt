use Rattle.std.proofs.Common.{◌≡◌, ◌≤◌, true, is_some}
use Rattle.std.specs.Option.{option_map}
use Rattle.image.specs.Reading.{walk}
use Rattle.image.specs.Views.{picked, walked, segment_of}
use Rattle.image.proofs.Walks.{merged}
use Rattle.image.proofs.walk.Body.walk.Given as goal

-- what is found so far, beside what the rest of the walk finds, is what the whole walk finds
abbrev pub invariant-loop-segment : goal.invariant-loop-segment
invariant-loop-segment l =
    (picked l.wanted (walked l.self) ≡ merged (option_map segment_of l.found) l.wanted (walk l.segment l.limit l.rest))
    × (is_some (option_map segment_of l.found) ≡ true → l.segment ≤ l.wanted)
