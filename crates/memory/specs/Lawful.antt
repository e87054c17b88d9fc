-- Proofs that what each memory means keeps the laws: a reader need not believe anything here. Assumes nothing.
-- Kept: a rule of the toolchain needs them in specs/, since a ghost member may cite nothing of proofs/.
use Rattle.std.specs.Prelude.{ℕ, zero, suc, ◌^◌, ◌<◌, ◌≤◌, List, [], ◌∷◌, ◌++◌, map, length, take, nat_lt, slice_index, refl}
use Rattle.std.proofs.Common.{arith, length-take}
use Rattle.std.proofs.lemmas.Bool.{le-ltb, cond-false, cond_both}
use Rattle.memory.specs.Memory.{cut, wrap, word_list, Laws}
use Rattle.memory.specs.SliceMemory.{slice_words, slice_delay}
use Rattle.memory.specs.Delays.{slowed_words, slowed_delay}
use Rattle.memory.specs.Pair.{joined, pair_words, pair_delay}
use Rattle.memory.specs.declared.memory.Memory.{Ghosts}
use Rattle.memory.specs.declared.element.Element

cut_few : (ws : List ℕ) → length (cut ws) ≤ 8192
cut_few ws = omega (arith, length-take 8192 ws)

wrap_fits : (w : ℕ) → wrap w < 2 ^ 32
wrap_fits w = omega arith

map_fits : {X : Type 0} (f : X → ℕ) → ((x : X) → f x < 2 ^ 32) → (xs : List X) (n : ℕ) → slice_index (map f xs) n < 2 ^ 32
map_fits f h [] n = omega arith
map_fits f h (x ∷ xs) zero = h x
map_fits f h (x ∷ xs) (suc n) = map_fits f h xs n

take_fits : (m : ℕ) (ws : List ℕ) → ((n : ℕ) → slice_index ws n < 2 ^ 32) → (n : ℕ) → slice_index (take m ws) n < 2 ^ 32
take_fits zero ws h n = omega arith
take_fits (suc m) [] h n = omega arith
take_fits (suc m) (w ∷ ws) h zero = h 0
take_fits (suc m) (w ∷ ws) h (suc n) = take_fits m ws (λ k. h (suc k)) n

append_fits : (xs ys : List ℕ) → ((n : ℕ) → slice_index xs n < 2 ^ 32) → ((n : ℕ) → slice_index ys n < 2 ^ 32) → (n : ℕ) → slice_index (xs ++ ys) n < 2 ^ 32
append_fits [] ys g h n = h n
append_fits (x ∷ xs) ys g h zero = g 0
append_fits (x ∷ xs) ys g h (suc n) = append_fits xs ys (λ k. g (suc k)) h n

-- the laws of words that are cut and wrapped, with no delays
-- of a memory over a slice, whatever its elements
pub slice_laws : {T : Type 0} (element : Element.Ghosts T) → Laws (slice_words element) (slice_delay element)
unfolding word_list
slice_laws element = record {
  few = λ s. cut_few (map wrap (element.held s.elements.now));
  fits = λ s. take_fits 8192 _ (map_fits wrap wrap_fits (element.held s.elements.now));
  short = λ s n. omega arith;
  past = λ s n h. refl;
}

-- of a memory with some delays added, whatever the rule
pub slowed_laws : {M R : Type 0} (below : Ghosts M) (extra : R → ℕ → ℕ) → Laws (slowed_words below) (slowed_delay below extra)
slowed_laws below extra = record {
  few = λ s. below.laws.few s.below;
  fits = λ s. below.laws.fits s.below;
  short = λ s n. cond_both (nat_lt n (length (below.words s.below))) _ 0 (λ x. x ≤ 255) (λ e. omega arith) (λ e. omega arith);
  past = λ s n h. cond-false (nat_lt n (length (below.words s.below))) _ _ (le-ltb n _ h);
}

-- of two memories, one after the other
pub pair_laws : {A B : Type 0} (first : Ghosts A) (second : Ghosts B) → Laws (pair_words first second) (pair_delay first second)
unfolding joined
pair_laws first second = record {
  few = λ s. cut_few (first.words s.first ++ second.words s.second);
  fits = λ s. take_fits 8192 _ (append_fits _ _ (first.laws.fits s.first) (second.laws.fits s.second));
  short = λ s n. cond_both (nat_lt n (length (pair_words first second s))) _ 0 (λ x. x ≤ 255)
      (λ e. cond_both (nat_lt n (length (first.words s.first))) _ _ (λ x. x ≤ 255) (λ f. first.laws.short s.first n) (λ f. second.laws.short s.second _))
      (λ e. omega arith);
  past = λ s n h. cond-false (nat_lt n (length (pair_words first second s))) _ _ (le-ltb n _ h);
}
