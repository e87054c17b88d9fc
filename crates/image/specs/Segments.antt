-- The segments of an image: words of a memory that stand one after another. Assumes nothing.
use Rattle.std.specs.Prelude.{ℕ, ◌+◌, ◌^◌, ◌<◌, ◌≤◌, List, [], ◌∷◌, length}
use Rattle.std.specs.List.{AllByRecursion}

-- the number of its first word, and the values of its words
pub record Segment : Type 0 where
  pub first : ℕ
  pub values : List ℕ

-- the number after that of its last word
abbrev pub end_of : Segment → ℕ
end_of s = s.first + length s.values

-- has the segment words, all of 32 bits?
pub record Filled (s : Segment) : Type 0 where
  pub some : 0 < length s.values
  pub words : AllByRecursion (λ v. v < 2 ^ 32) s.values

-- filled segments, each of which begins where the one before it ends, or later; the first not below low, and the last ends within the size
abbrev pub Ascending : ℕ → ℕ → List Segment → Type 0
Ascending low size [] = low ≤ size
Ascending low size (s ∷ rest) = (low ≤ s.first) × Filled s × Ascending (end_of s) size rest

-- filled segments that are in order, do not overlap and fit a memory of the size
abbrev pub InOrder : ℕ → List Segment → Type 0
InOrder size segments = Ascending 0 size segments
