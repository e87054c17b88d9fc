-- Writing an image: the bytes of its segments and its trailer. Assumes nothing.
use Rattle.std.specs.Prelude.{ℕ, List, ◌++◌, length}
use Rattle.std.specs.List.{flat_map}
use Rattle.image.specs.Numbers.{number_bytes}
use Rattle.image.specs.Reading.{mark}
use Rattle.image.specs.Segments.{Segment}

-- a segment is its words, its first word number and its count
unfoldable pub segment_bytes : Segment → List ℕ
segment_bytes s = flat_map number_bytes s.values ++ (number_bytes s.first ++ number_bytes (length s.values))

-- the segments, then the mark, their number, and how many bytes they are
unfoldable pub written : List Segment → List ℕ
written segments =
    let body = flat_map segment_bytes segments in
    body ++ (number_bytes mark ++ (number_bytes (length segments) ++ number_bytes (length body)))
