-- What loading an image does to the words of a memory. Assumes nothing.
use Rattle.std.specs.Prelude.{◌≡◌, ℕ, ◌+◌, ◌^◌, ◌<◌, true, ◌⊎◌, List, [], ◌∷◌, length, is_err, Ok, Err, Result, slice_index, slice_set}
use Rattle.std.specs.List.{AllByRecursion}
use Rattle.memory.specs.Memory.{Loan}
use Rattle.image.specs.declared.refusal.ImageRefusal.{ImageRefusal}
use Rattle.image.specs.Reading.{reading}
use Rattle.image.specs.Segments.{Segment}

-- the words from number n on are set to the values
abbrev pub stored : List ℕ → ℕ → List ℕ → List ℕ
stored words n [] = words
stored words n (v ∷ values) = stored (slice_set words n v) (n + 1) values

-- each segment's words are set
abbrev pub loaded : List ℕ → List Segment → List ℕ
loaded words [] = words
loaded words (s ∷ rest) = loaded (stored words s.first s.values) rest

-- one of the segments has the value v for the word number n
abbrev pub Listed : List Segment → ℕ → ℕ → Type 0
Listed [] n v = ⊥
Listed (s ∷ rest) n v = ((k : ℕ) × (k < length s.values) × (n ≡ s.first + k) × (v ≡ slice_index s.values k)) ⊎ Listed rest n v

-- loading sets exactly the words that the segments list
pub record SetsWhatIsListed (words : List ℕ) (segments : List Segment) : Type 0 where
  pub size : length (loaded words segments) ≡ length words
  pub listed : (n v : ℕ) → Listed segments n v → slice_index (loaded words segments) n ≡ v
  pub others : (n : ℕ) → ((v : ℕ) → Listed segments n v → ⊥) → slice_index (loaded words segments) n ≡ slice_index words n
  pub words32 : AllByRecursion (λ w. w < 2 ^ 32) words → AllByRecursion (λ w. w < 2 ^ 32) (loaded words segments)

-- what loading answers where reading answers so
abbrev pub verdict : Result (List Segment) ImageRefusal → Result (Unit {0}) ImageRefusal
verdict (Ok segments) = Ok tt
verdict (Err e) = Err e

-- what loading bytes into a memory of the size answers
abbrev pub load_of : ℕ → List ℕ → Result (Unit {0}) ImageRefusal
load_of size bytes = verdict (reading size bytes)

-- the words with what was read: a refusal changes none
abbrev pub words_with : List ℕ → Result (List Segment) ImageRefusal → List ℕ
words_with words (Ok segments) = loaded words segments
words_with words (Err e) = words

-- the words after loading bytes
abbrev pub words_loaded : List ℕ → List ℕ → List ℕ
words_loaded words bytes = words_with words (reading (length words) bytes)

-- what loading promises: s is the memory as it begins, t as it ends, and r the answer
module _ {S : Type 0} (words : S → List ℕ) (delay : S → ℕ → ℕ) (frame : S → List Loan) where
  -- the words are set, and only those that are listed; a refusal changes no delay either
  pub record Loads (s : S) (bytes : List ℕ) (r : Result (Unit {0}) ImageRefusal) (t : S) : Type 0 where
    pub answer : r ≡ load_of (length (words s)) bytes
    pub words_set : words t ≡ words_loaded (words s) bytes
    pub exactly : (segments : List Segment) → reading (length (words s)) bytes ≡ Ok segments → SetsWhatIsListed (words s) segments
    pub refused_kept : is_err r ≡ true → delay t ≡ delay s
    pub frame_kept : frame t ≡ frame s
