-- Reading an image for a memory of a given size: its segments in ascending order, or why it is refused. Assumes nothing.
use Rattle.std.specs.Prelude.{ℕ, zero, suc, ◌+◌, ◌-◌, ◌*◌, cond, not, ◌||◌, List, [], ◌∷◌, ◌++◌, length, take, drop, Ok, Err, Result, ◌==◌, nat_lt}
use Rattle.image.specs.declared.refusal.ImageRefusal.{ImageRefusal}
use Rattle.image.specs.declared.refusal.ImageRefusal.TheVariants.{Length, Mark, Trailer, Cut, Empty, Beyond, Overlap, LeftOver}
use Rattle.image.specs.Numbers.{number_at, words_of}
use Rattle.image.specs.Segments.{Segment}

-- 53h 52h 43h 49h, with which the trailer begins
abbrev pub mark : ℕ
mark = 0x53524349

-- the last 8 bytes of a segment are its first word number and its count; its words stand before them
abbrev pub first_of : List ℕ → ℕ
first_of bytes = number_at bytes (length bytes - 8)

abbrev pub count_of : List ℕ → ℕ
count_of bytes = number_at bytes (length bytes - 4)

-- how many bytes stand before the words of the segment at the end
abbrev pub before_of : List ℕ → ℕ
before_of bytes = length bytes - 8 - 4 * count_of bytes

-- bytes, with the segment at their end taken off
pub record Split : Type 0 where
  pub before : List ℕ
  pub segment : Segment

-- the bytes so split
abbrev pub split_off : List ℕ → Split
split_off bytes = record {
  before = take (before_of bytes) bytes;
  segment = record { first = first_of bytes; values = words_of (take (4 * count_of bytes) (drop (before_of bytes) bytes)) };
}

-- the segment number i, which stands at the end of the bytes and may not pass the limit
abbrev pub last_segment : ℕ → ℕ → List ℕ → Result Split ImageRefusal
last_segment i limit bytes =
    cond (nat_lt (length bytes) 8) (Err (Cut i (length bytes)))
    (cond (count_of bytes == 0) (Err (Empty i))
    (cond (nat_lt (length bytes - 8) (4 * count_of bytes)) (Err (Beyond i (count_of bytes) (length bytes - 8)))
    (cond (nat_lt limit (first_of bytes + count_of bytes)) (Err (Overlap i (first_of bytes) (count_of bytes) limit))
    (Ok (split_off bytes)))))

-- one segment more after those that were read
abbrev pub followed : Result (List Segment) ImageRefusal → Segment → Result (List Segment) ImageRefusal
followed (Ok before) s = Ok (before ++ (s ∷ []))
followed (Err e) s = Err e

-- what is read before a segment that was taken off, or why that segment is refused
abbrev pub before_it : (ℕ → List ℕ → Result (List Segment) ImageRefusal) → Result Split ImageRefusal → Result (List Segment) ImageRefusal
before_it read (Ok s) = followed (read s.segment.first s.before) s.segment
before_it read (Err e) = Err e

-- no byte may be left over
abbrev pub nothing_left : List ℕ → Result (Unit {0}) ImageRefusal
nothing_left bytes = cond (length bytes == 0) (Ok tt) (Err (LeftOver (length bytes)))

-- where no segment is to be read: none, if nothing is left
abbrev pub none_read : Result (Unit {0}) ImageRefusal → Result (List Segment) ImageRefusal
none_read (Ok u) = Ok []
none_read (Err e) = Err e

-- so many segments from the last to the first, each limited by the first number of the next one; then nothing may be left
abbrev pub walk : ℕ → ℕ → List ℕ → Result (List Segment) ImageRefusal
walk zero limit bytes = none_read (nothing_left bytes)
walk (suc i) limit bytes = before_it (λ next rest. walk i next rest) (last_segment i limit bytes)

-- the trailer is the last 12 bytes: the mark, the number of segments, and back, the number of bytes of all segments
abbrev pub mark_of : List ℕ → ℕ
mark_of bytes = number_at bytes (length bytes - 12)

abbrev pub number_of_segments : List ℕ → ℕ
number_of_segments bytes = number_at bytes (length bytes - 8)

abbrev pub back_of : List ℕ → ℕ
back_of bytes = number_at bytes (length bytes - 4)

-- the bytes of all segments, which stand before the trailer
abbrev pub body_of : List ℕ → List ℕ
body_of bytes = take (back_of bytes) (drop (length bytes - 12 - back_of bytes) bytes)

-- the segments of the image at the end of the bytes, for a memory of the size
abbrev pub reading : ℕ → List ℕ → Result (List Segment) ImageRefusal
reading size bytes =
    cond (nat_lt (length bytes) 12 || nat_lt 65536 (length bytes)) (Err (Length (length bytes)))
    (cond (not (mark_of bytes == mark)) (Err (Mark (mark_of bytes)))
    (cond (nat_lt 64 (number_of_segments bytes) || nat_lt (length bytes - 12) (back_of bytes)) (Err (Trailer (number_of_segments bytes) (back_of bytes) (length bytes - 12)))
    (walk (number_of_segments bytes) size (body_of bytes))))
