-- What the values of the code stand for: an image for its segments, a part of it for one segment. Assumes nothing.
use Rattle.std.specs.Prelude.{ℕ, List, [], take, drop, Ok, Err, Option, Result}
use Rattle.std.specs.Borrow.{Bor}
use Rattle.std.specs.Option.{option_map}
use Rattle.std.specs.List.{slice_get}
use Rattle.image.specs.declared.refusal.ImageRefusal.{ImageRefusal}
use Rattle.image.specs.declared.image.Image.{Image}
use Rattle.image.specs.declared.walk.Body.{Body}
use Rattle.image.specs.declared.part.ImagePart.{ImagePart}
use Rattle.image.specs.declared.words.Words.{Words}
use Rattle.image.specs.declared.segments.Segments.{Segments}
use Rattle.image.specs.Numbers.{words_of}
use Rattle.image.specs.Segments.{Segment}
use Rattle.image.specs.Reading.{Split, walk}

-- the segment that a part of an image holds
abbrev pub segment_of : ImagePart → Segment
segment_of p = record { first = p.first; values = words_of p.words.now }

-- the words that are left of a segment
abbrev pub words_left : Words → List ℕ
words_left w = words_of w.rest.now

-- what the code tells of the segment at the end of bytes
abbrev pub split_of : Result (Bor (List ℕ) × ImagePart) ImageRefusal → Result Split ImageRefusal
split_of (Ok t) = Ok (record { before = t.0.now; segment = segment_of t.1 })
split_of (Err e) = Err e

-- the segment number i of those that were read
abbrev pub picked : ℕ → Result (List Segment) ImageRefusal → Result (Option Segment) ImageRefusal
picked i (Ok segments) = Ok (slice_get segments i)
picked i (Err e) = Err e

-- what the code tells of a segment that it looked for
abbrev pub part_of : Result (Option ImagePart) ImageRefusal → Result (Option Segment) ImageRefusal
part_of (Ok o) = Ok (option_map segment_of o)
part_of (Err e) = Err e

-- what a walk over the bytes of segments gives
abbrev pub walked : Body → Result (List Segment) ImageRefusal
walked b = walk b.count b.size b.bytes.now

-- what was read, and nothing where it was refused
abbrev pub accepted : Result (List Segment) ImageRefusal → List Segment
accepted (Ok segments) = segments
accepted (Err e) = []

-- the segments of an image
abbrev pub segments_of : Image → List Segment
segments_of i = accepted (walked i.body)

-- the segments that are left of an image: those with the numbers that are left
abbrev pub segments_left : Segments → List Segment
segments_left s = drop s.numbers.start (take s.numbers.end (segments_of s.image))

-- what the code tells of bytes that it read
abbrev pub told : Result Image ImageRefusal → Result (List Segment) ImageRefusal
told (Ok i) = Ok (segments_of i)
told (Err e) = Err e
