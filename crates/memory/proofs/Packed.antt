-- Words that are packed in bytes. Assumes nothing.
use Rattle.std.proofs.Common.{◌≡◌, ℕ, zero, suc, ◌+◌, ◌-◌, ◌*◌, ◌/◌, ◌^◌, ◌<◌, ◌≤◌, min, ◌≢◌, List, [], length, get_or, take, drop, set, sym, refl, ap, ◌∙◌, ⊎_elim, arith, rules}
use borrow.Rule.Slice.PartMut.{put_mid}
use Rattle.std.specs.Simd.{first_chunks}
use Rattle.std.specs.Int.{w32, from_be_bytes, to_be_bytes}
use Rattle.std.proofs.lemmas.List.{drop-drop, get_or-drop, get_or-take, places, get_or_past, length-set, get_or-set_same, get_or-set_other}
use Rattle.std.proofs.lemmas.Slice.{overwrites}
use Rattle.std.proofs.lemmas.List.FromFn.{length-map-range_with_len, get_or-map-range_with_len, fill_by_all}
use Rattle.std.proofs.lemmas.Nat.{from_be_bytes-to_be_bytes_4}
use Rattle.std.proofs.lemmas.Bool.{cases_eq, cases_lt}
use Rattle.memory.specs.ByteMemory.{packed_word, packed, bytes_used}
use Rattle.memory.specs.Memory.{word_list}
use Rattle.memory.proofs.Lists.{words_length, words_read, words_set}

-- the bytes with word number n replaced
abbrev pub put : List ℕ → ℕ → ℕ → List ℕ
put bs n v = put_mid (4 * n) 4 bs (to_be_bytes w32 v)

-- after a write of ys to the k places from a on
module _ (a k : ℕ) (xs ys : List ℕ) (within : a + k ≤ length xs) (long : length ys ≡ k) where
  mid_length : length (put_mid a k xs ys) ≡ length xs
  mid_length = search (rules, places)

  mid_in : (i j : ℕ) → i < k → a + i ≡ j → get_or (put_mid a k xs ys) j 0 ≡ get_or ys i 0
  mid_in i j h e = search (rules, places)

  mid_before : (j : ℕ) → j < a → get_or (put_mid a k xs ys) j 0 ≡ get_or xs j 0
  mid_before j h = search (rules, places)

  mid_after : (j : ℕ) → a + k ≤ j → get_or (put_mid a k xs ys) j 0 ≡ get_or xs j 0
  mid_after j h = search (rules, places)

  mid_drop : (j : ℕ) → a + k ≤ j → drop j (put_mid a k xs ys) ≡ drop j xs
  mid_drop j h = search (rules, overwrites)

-- two lists with the same four bytes have the same word there
same_word : (xs ys : List ℕ) (k : ℕ) → ((j : ℕ) → 4 * k ≤ j → j < 4 * k + 4 → get_or xs j 0 ≡ get_or ys j 0) → packed_word xs k ≡ packed_word ys k
same_word xs ys k e =
    let at : (i : ℕ) → i < 4 → get_or xs (4 * k + i) 0 ≡ get_or ys (4 * k + i) 0 = λ i h. e (4 * k + i) (omega arith) (omega arith) in
    omega (arith, e (4 * k) (omega arith) (omega arith), at 1 (omega arith), at 2 (omega arith), at 3 (omega arith))

pub packed_length : (bs : List ℕ) → length (packed bs) ≡ length bs / 4
unfolding packed
packed_length bs = length-map-range_with_len (packed_word bs) 0 (length bs / 4)

pub packed_get_or : (bs : List ℕ) (n : ℕ) → n < length bs / 4 → get_or (packed bs) n 0 ≡ packed_word bs n
unfolding packed
packed_get_or bs n h = get_or-map-range_with_len (packed_word bs) 0 _ n n 0 h (omega arith)

pub packed_fits : (bs : List ℕ) → ((k : ℕ) → get_or bs k 0 < 256) → (k : ℕ) → get_or (packed bs) k 0 < 2 ^ 32
packed_fits bs h k = ⊎_elim
    (λ l. omega (arith, packed_get_or bs k l, h (4 * k), h (4 * k + 1), h (4 * k + 2), h (4 * k + 3)))
    (λ l. omega (arith, get_or_past (packed bs) k 0 (omega (arith, packed_length bs))))
    (cases_lt k (length bs / 4))

-- chunk number n of four bytes each, of k
chunk_at : (k n : ℕ) (bs none : List ℕ) → n < k → get_or (first_chunks 4 k bs) n none ≡ take 4 (drop (4 * n) bs)
chunk_at zero n bs none h = absurd (omega arith)
chunk_at (suc k) zero bs none h = refl
chunk_at (suc k) (suc n) bs none h =
    let e : 4 + 4 * n ≡ 4 * suc n = omega arith in
    chunk_at k n (drop 4 bs) none (omega arith) ∙ ap (take 4) (drop-drop (4 * n) 4 bs ∙ ap (λ m. drop m bs) e)

-- byte i of that chunk is byte j of all
pub chunk_byte : (k n i j : ℕ) (bs none : List ℕ) → n < k → i < 4 → 4 * n + i ≡ j → get_or (get_or (first_chunks 4 k bs) n none) i 0 ≡ get_or bs j 0
chunk_byte k n i j bs none here h e =
    ap (λ (l : List ℕ). get_or l i 0) (chunk_at k n bs none here) ∙ get_or-take 4 _ i 0 h ∙ get_or-drop (4 * n) bs i 0 ∙ ap (λ m. get_or bs m 0) e

-- a word as the code reads it, from the bytes in chunks
pub chunk_word : (bs : List ℕ) (n : ℕ) (chunks : List (List ℕ)) → chunks ≡ first_chunks 4 (length bs / 4) bs → (r : ℕ) → n < length (word_list (packed bs)) → r < 2 ^ 32
    → r ≡ from_be_bytes w32 (get_or chunks n []) → r ≡ get_or (word_list (packed bs)) n 0
chunk_word bs n chunks is r there fits e =
    let k = length bs / 4 in
    let here : n < k = omega (arith, words_length (packed bs), packed_length bs) in
    let at : (i j : ℕ) → i < 4 → 4 * n + i ≡ j → get_or (get_or chunks n []) i 0 ≡ get_or bs j 0 =
    λ i j h d. ap (λ (l : List (List ℕ)). get_or (get_or l n []) i 0) is ∙ chunk_byte k n i j bs [] here h d in
    let word : r ≡ packed_word bs n =
    omega (arith, e, at 0 (4 * n) (omega arith) (omega arith), at 1 (4 * n + 1) (omega arith) refl, at 2 (4 * n + 2) (omega arith) refl, at 3 (4 * n + 3) (omega arith) refl) in
    words_read (packed bs) n r there fits (word ∙ sym (packed_get_or bs n here))

module _ (bs : List ℕ) (n v : ℕ) (within : 4 * n + 4 ≤ length bs) where
  put_length : length (put bs n v) ≡ length bs
  put_length = mid_length (4 * n) 4 bs (to_be_bytes w32 v) within refl

  put_here : v < 2 ^ 32 → packed_word (put bs n v) n ≡ v
  put_here fits =
      let e = mid_in (4 * n) 4 bs (to_be_bytes w32 v) within refl in
      omega (arith, from_be_bytes-to_be_bytes_4 v fits, e 0 (4 * n) (omega arith) (omega arith), e 1 (4 * n + 1) (omega arith) refl, e 2 (4 * n + 2) (omega arith) refl, e 3 (4 * n + 3) (omega arith) refl)

  put_there : (k : ℕ) → k ≢ n → packed_word (put bs n v) k ≡ packed_word bs k
  put_there k ne = same_word (put bs n v) bs k (λ j l h.
      ⊎_elim (λ b. mid_before (4 * n) 4 bs (to_be_bytes w32 v) within refl j (omega arith))
      (λ b. mid_after (4 * n) 4 bs (to_be_bytes w32 v) within refl j (omega arith)) (cases_lt k n))

  packed_put : v < 2 ^ 32 → packed (put bs n v) ≡ set (packed bs) n v
  unfolding packed
  packed_put fits =
      let long = packed_length bs in
      let p = put_length in
      sym (fill_by_all (packed_word (put bs n v)) (set (packed bs) n v) _ 0 (length-set (packed bs) n v ∙ long ∙ ap (λ m. m / 4) (sym put_length)) (λ k h.
      ⊎_elim
      (λ e. ap (λ j. get_or (set (packed bs) n v) j 0) e ∙ get_or-set_same (packed bs) n v 0 (omega arith) ∙ sym (put_here fits) ∙ ap (packed_word (put bs n v)) (sym e))
      (λ ne. get_or-set_other (packed bs) n k v 0 ne ∙ packed_get_or bs k (omega arith) ∙ sym (put_there k ne))
      (cases_eq k n)))

  -- the bytes as the code leaves them
  module _ (ys : List ℕ) (is : ys ≡ to_be_bytes w32 v) where
    left : put_mid (4 * n) (4 * n + 4 - 4 * n) bs ys ≡ put bs n v
    left = let e : 4 * n + 4 - 4 * n ≡ 4 = omega arith in ap (λ k. put_mid (4 * n) k bs ys) e ∙ ap (put_mid (4 * n) 4 bs) is

    pub put_words : v < 2 ^ 32 → word_list (packed (put_mid (4 * n) (4 * n + 4 - 4 * n) bs ys)) ≡ set (word_list (packed bs)) n v
    put_words fits = ap (λ (l : List ℕ). word_list (packed l)) left ∙ ap word_list (packed_put fits) ∙ words_set (packed bs) n v fits

    pub put_rest : n < length (word_list (packed bs)) → let bs' = put_mid (4 * n) (4 * n + 4 - 4 * n) bs ys in drop (bytes_used bs') bs' ≡ drop (bytes_used bs) bs
    put_rest h =
        ap (λ (l : List ℕ). drop (bytes_used l) l) left ∙ ap (λ m. drop (4 * min 8192 (m / 4)) (put bs n v)) put_length
        ∙ mid_drop (4 * n) 4 bs (to_be_bytes w32 v) within refl (bytes_used bs) (omega (arith, words_length (packed bs), packed_length bs))
