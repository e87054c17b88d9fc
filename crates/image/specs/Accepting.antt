-- Which bytes are read as an image, in terms of what is written. Assumes nothing.
use Rattle.std.specs.Prelude.{◌≡◌, ℕ, ◌≤◌, List, ◌++◌, length, Ok, Result}
use Rattle.image.specs.declared.refusal.ImageRefusal.{ImageRefusal}
use Rattle.image.specs.Segments.{Segment, InOrder}
use Rattle.image.specs.Writing.{written}

-- the bytes end in the written image of these segments, which suit a memory of the size; what stands before it is ignored
pub record EndsInImage (size : ℕ) (bytes : List ℕ) (segments : List Segment) : Type 0 where
  pub ignored : List ℕ
  pub image : bytes ≡ ignored ++ written segments
  pub ordered : InOrder size segments
  pub few : length segments ≤ 64
  pub short : length bytes ≤ 65536

-- the answer gives these segments exactly where the bytes end in their written image
pub record AcceptsExactly (answer : Result (List Segment) ImageRefusal) (size : ℕ) (bytes : List ℕ) (segments : List Segment) : Type 0 where
  pub only : answer ≡ Ok segments → EndsInImage size bytes segments
  pub all : EndsInImage size bytes segments → answer ≡ Ok segments
