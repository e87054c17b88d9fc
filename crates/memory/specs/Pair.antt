-- What a pair of memories means. Assumes nothing.
use Rattle.std.specs.Prelude.{ℕ, ◌-◌, ◌<◌, ◌≤◌, if◌then◌else◌, List, ◌++◌, length, nat_lt}
use Rattle.memory.specs.Memory.{cut, Loan, Same}
use Rattle.memory.specs.declared.memory.Memory.{Ghosts}
use Rattle.memory.specs.declared.pair.Pair.{Pair}

-- the words ys after the words xs, cut at 8,192
unfoldable pub joined : List ℕ → List ℕ → List ℕ
joined xs ys = cut (xs ++ ys)

-- the delay of each of them is that of the part that has the word, d of xs and e of ys; from the size on there is none
abbrev pub joined_delay : List ℕ → List ℕ → (ℕ → ℕ) → (ℕ → ℕ) → ℕ → ℕ
joined_delay xs ys d e n = if nat_lt n (length (joined xs ys)) then (if nat_lt n (length xs) then d n else e (n - length xs)) else 0

module _ {A B : Type 0} (first : Ghosts A) (second : Ghosts B) where
  abbrev pub pair_words : Pair A B → List ℕ
  pair_words s = joined (first.words s.first) (second.words s.second)

  abbrev pub pair_delay : Pair A B → ℕ → ℕ
  pair_delay s = joined_delay (first.words s.first) (second.words s.second) (first.delay s.first) (second.delay s.second)

  -- what is lent to the first, then what is lent to the second
  abbrev pub pair_frame : Pair A B → List Loan
  pair_frame s = first.frame s.first ++ second.frame s.second

  -- what is known of the parts after a read or write of word number n, from s to t: the part that has the word gives
  -- the answer (P of the first, Q of the second at its own number), and a part without it means what it meant
  pub record Reached (s t : Pair A B) (n : ℕ) (P : Type 0) (Q : ℕ → Type 0) : Type 0 where
    pub in_first : n < length (first.words s.first) → P
    pub in_second : length (first.words s.first) ≤ n → n < length (pair_words s) → Q (n - length (first.words s.first))
    pub first_kept : length (first.words s.first) ≤ n → Same first.words first.delay first.frame s.first t.first
    pub second_kept : n < length (first.words s.first) → Same second.words second.delay second.frame s.second t.second
    pub refused_kept : length (pair_words s) ≤ n → Same second.words second.delay second.frame s.second t.second
