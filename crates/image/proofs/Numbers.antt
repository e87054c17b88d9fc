-- The numbers of bytes: which one stands where, and that writing and reading a number are inverse. Assumes nothing.
use Rattle.std.proofs.Common.{◌≡◌, ℕ, zero, suc, ◌+◌, ◌-◌, ◌*◌, ◌/◌, ◌%◌, ◌^◌, ◌<◌, ◌≤◌, List, [], ◌∷◌, ◌++◌, length, get_or, take, drop, Some, None, sym, refl, ap, ◌∙◌, add_assoc, arith}
use Rattle.std.proofs.lemmas.List.{get_or-drop, drop_at, drop-drop, length-drop}
use Rattle.std.proofs.ByRecursion.{All-drop}
use Rattle.std.proofs.lemmas.Option.{slice_get_past}
use Rattle.std.specs.Int.{w32, from_be_bytes}
use Rattle.std.specs.Simd.{first_chunks}
use Rattle.std.specs.List.{slice_get, flat_map, AllByRecursion}
use Rattle.memory.proofs.Packed.{chunk_byte}
use Rattle.image.specs.Numbers.{number, number_at, words_of, number_bytes}

-- the number at i of what is left past n
pub number_at_drop : (n i : ℕ) (bs : List ℕ) → number_at (drop n bs) i ≡ number_at bs (n + i)
number_at_drop n i bs =
    let at : (j : ℕ) → get_or (drop n bs) (i + j) 0 ≡ get_or bs (n + i + j) 0 = λ j. get_or-drop n bs (i + j) 0 ∙ ap (λ k. get_or bs k 0) (sym (add_assoc n i j)) in
    let a = get_or-drop n bs i 0 in
    let b = at 1 in
    let c = at 2 in
    let d = at 3 in
    cc

-- the number at i of what is left past n, which stands at j
pub number_past : (bs tail : List ℕ) (n i j : ℕ) → tail ≡ drop n bs → n + i ≡ j → number_at tail i ≡ number_at bs j
number_past bs tail n i j t e = ap (λ xs. number_at xs i) t ∙ number_at_drop n i bs ∙ ap (number_at bs) e

pub number_at_append : (xs ys : List ℕ) (n i : ℕ) → length xs ≡ n → number_at (xs ++ ys) (n + i) ≡ number_at ys i
number_at_append xs ys n i e = sym (number_at_drop n i (xs ++ ys)) ∙ ap (λ zs. number_at zs i) (drop_at xs ys n e)

-- Kept: the lemmas that go by four bytes split lists alike, as `words_of` does; each is an induction of its own.
pub length_words : (bs : List ℕ) → length (words_of bs) ≡ length bs / 4
length_words [] = refl
length_words (a ∷ []) = refl
length_words (a ∷ (b ∷ [])) = refl
length_words (a ∷ (b ∷ (c ∷ []))) = refl
length_words (a ∷ (b ∷ (c ∷ (d ∷ rest)))) = omega (arith, length_words rest)

-- past the chunks there is no word
pub words_past : (bs : List ℕ) (k : ℕ) → length bs / 4 ≤ k → slice_get (words_of bs) k ≡ None
words_past bs k h = slice_get_past (words_of bs) k (omega (arith, length_words bs))

-- the word that the first four bytes are, and the words after it
pub words_first : (bs : List ℕ) (n : ℕ) → 4 ≤ length bs → n ≡ from_be_bytes w32 (take 4 bs) → n < 2 ^ 32 → words_of bs ≡ n ∷ words_of (drop 4 bs)
words_first [] n h e small = absurd (omega arith)
words_first (a ∷ []) n h e small = absurd (omega arith)
words_first (a ∷ (b ∷ [])) n h e small = absurd (omega arith)
words_first (a ∷ (b ∷ (c ∷ []))) n h e small = absurd (omega arith)
words_first (a ∷ (b ∷ (c ∷ (d ∷ rest)))) n h e small =
    let same : number a b c d ≡ n = omega (arith, e, small) in
    ap (λ x. x ∷ words_of rest) same

-- the word k is the number at its first byte
word_at : (bs : List ℕ) (k : ℕ) → k < length bs / 4 → slice_get (words_of bs) k ≡ Some (number_at bs (4 * k))
word_at [] k h = absurd (omega arith)
word_at (a ∷ []) k h = absurd (omega arith)
word_at (a ∷ (b ∷ [])) k h = absurd (omega arith)
word_at (a ∷ (b ∷ (c ∷ []))) k h = absurd (omega arith)
word_at (a ∷ (b ∷ (c ∷ (d ∷ rest)))) zero h = refl
word_at (a ∷ (b ∷ (c ∷ (d ∷ rest)))) (suc j) h =
    let bs = a ∷ (b ∷ (c ∷ (d ∷ rest))) in
    let e : 4 + 4 * j ≡ 4 * suc j = omega arith in
    word_at rest j (omega arith) ∙ ap Some (number_at_drop 4 (4 * j) bs ∙ ap (number_at bs) e)

-- the number that the chunk k of four bytes is
pub number_of_chunk : (bs : List ℕ) (k n : ℕ) (chunk none : List ℕ) → 4 * k + 4 ≤ length bs → chunk ≡ get_or (first_chunks 4 (length bs / 4) bs) k none → n ≡ from_be_bytes w32 chunk → n < 2 ^ 32 → n ≡ number_at bs (4 * k)
number_of_chunk bs k n chunk none h c e small =
    let there : k < length bs / 4 = omega arith in
    let at : (i j : ℕ) → i < 4 → 4 * k + i ≡ j → get_or chunk i 0 ≡ get_or bs j 0 =
    λ i j h d. ap (λ (l : List ℕ). get_or l i 0) c ∙ chunk_byte (length bs / 4) k i j bs none there h d in
    omega (arith, e, small, at 0 (4 * k) (omega arith) (omega arith), at 1 (4 * k + 1) (omega arith) refl, at 2 (4 * k + 2) (omega arith) refl, at 3 (4 * k + 3) (omega arith) refl)

-- the word that it is
pub word_of_chunk : (bs : List ℕ) (k n : ℕ) (chunk none : List ℕ) → k < length bs / 4 → chunk ≡ get_or (first_chunks 4 (length bs / 4) bs) k none → n ≡ from_be_bytes w32 chunk → n < 2 ^ 32 → Some n ≡ slice_get (words_of bs) k
word_of_chunk bs k n chunk none h c e small = ap Some (number_of_chunk bs k n chunk none (omega arith) c e small) ∙ sym (word_at bs k h)

-- words are of 32 bits
pub words_below : (bs : List ℕ) → AllByRecursion (λ v. v < 2 ^ 32) (words_of bs)
words_below [] = tt
words_below (a ∷ []) = tt
words_below (a ∷ (b ∷ [])) = tt
words_below (a ∷ (b ∷ (c ∷ []))) = tt
words_below (a ∷ (b ∷ (c ∷ (d ∷ rest)))) = (omega arith, words_below rest)

-- a number that is written is read back
pub number_back : (n : ℕ) → n < 2 ^ 32 → number (n / 16777216 % 256) (n / 65536 % 256) (n / 256 % 256) (n % 256) ≡ n
number_back n h = omega arith

-- four bytes that are read as a number are what is written of it
pub bytes_back : (a b c d : ℕ) → a < 256 → b < 256 → c < 256 → d < 256 → number_bytes (number a b c d) ≡ a ∷ (b ∷ (c ∷ (d ∷ [])))
bytes_back a b c d ha hb hc hd =
    let n = number a b c d in
    let ea : n / 16777216 % 256 ≡ a = omega arith in
    let eb : n / 65536 % 256 ≡ b = omega arith in
    let ec : n / 256 % 256 ≡ c = omega arith in
    let ed : n % 256 ≡ d = omega arith in
    cc

-- words that are written are read back
pub words_back : (vs : List ℕ) → AllByRecursion (λ v. v < 2 ^ 32) vs → words_of (flat_map number_bytes vs) ≡ vs
words_back [] h = refl
words_back (v ∷ vs) h =
    let e = number_back v h.0 in
    let r = words_back vs h.1 in
    ap (λ x. x ∷ words_of (flat_map number_bytes vs)) e ∙ ap (λ xs. v ∷ xs) r

pub length_written : (vs : List ℕ) → length (flat_map number_bytes vs) ≡ 4 * length vs
length_written [] = refl
length_written (v ∷ vs) = omega (arith, length_written vs)

-- bytes are what is written of the words that are read of them
pub written_words : (bs : List ℕ) (n : ℕ) → length bs ≡ 4 * n → AllByRecursion (λ b. b < 256) bs → flat_map number_bytes (words_of bs) ≡ bs
written_words [] n e h = refl
written_words (a ∷ []) n e h = absurd (omega arith)
written_words (a ∷ (b ∷ [])) n e h = absurd (omega arith)
written_words (a ∷ (b ∷ (c ∷ []))) n e h = absurd (omega arith)
written_words (a ∷ (b ∷ (c ∷ (d ∷ rest)))) n e h =
    let here = bytes_back a b c d h.0 h.1.0 h.1.1.0 h.1.1.1.0 in
    let r = written_words rest (n - 1) (omega arith) h.1.1.1.1 in
    ap (λ xs. xs ++ flat_map number_bytes (words_of rest)) here ∙ ap (λ xs. a ∷ (b ∷ (c ∷ (d ∷ xs)))) r

-- four bytes at the front, and so at any place
number_front : (bs : List ℕ) → 4 ≤ length bs → AllByRecursion (λ b. b < 256) bs → bs ≡ number_bytes (number_at bs 0) ++ drop 4 bs
number_front [] l h = absurd (omega arith)
number_front (a ∷ []) l h = absurd (omega arith)
number_front (a ∷ (b ∷ [])) l h = absurd (omega arith)
number_front (a ∷ (b ∷ (c ∷ []))) l h = absurd (omega arith)
number_front (a ∷ (b ∷ (c ∷ (d ∷ rest)))) l h = sym (ap (λ xs. xs ++ rest) (bytes_back a b c d h.0 h.1.0 h.1.1.0 h.1.1.1.0))

pub number_here : (bs : List ℕ) (i j : ℕ) → i + 4 ≡ j → j ≤ length bs → AllByRecursion (λ b. b < 256) bs → drop i bs ≡ number_bytes (number_at bs i) ++ drop j bs
number_here bs i j e l h =
    let z : i + 0 ≡ i = omega arith in
    number_front (drop i bs) (simp length-drop (omega arith)) (All-drop (λ b. b < 256) i bs h)
    ∙ ap (λ n. number_bytes n ++ drop 4 (drop i bs)) (number_at_drop i 0 bs ∙ ap (number_at bs) z)
    ∙ ap (λ xs. number_bytes (number_at bs i) ++ xs) (drop-drop 4 i bs ∙ ap (λ k. drop k bs) e)
