-- What a memory means, and what each of its calls promises. Assumes nothing.
use Rattle.std.specs.Prelude.{◌≡◌, ℕ, ◌%◌, ◌^◌, ◌<◌, ◌≤◌, cond, List, [], ◌∷◌, map, length, take, Ok, Err, Result, nat_lt, slice_index, slice_set}
use Rattle.std.specs.Borrow.{MutBor}
use Rattle.memory.specs.declared.memory.MemoryFault.{MemoryFault}

-- at most the first 8,192 words
abbrev pub cut : List ℕ → List ℕ
cut ws = take 8192 ws

-- the value of the low 32 bits
abbrev pub wrap : ℕ → ℕ
wrap w = w % 4294967296

-- the refusal of word number n by a memory of the words ws
abbrev pub fault_of : List ℕ → ℕ → MemoryFault
fault_of ws n = record { number = n; size = length ws }

-- what a read of word number n answers: that word, or the refusal
abbrev pub read_of : List ℕ → ℕ → Result ℕ MemoryFault
read_of ws n = cond (nat_lt n (length ws)) (Ok (slice_index ws n)) (Err (fault_of ws n))

-- what a write to word number n answers
abbrev pub write_of : List ℕ → ℕ → Result (Unit {0}) MemoryFault
write_of ws n = cond (nat_lt n (length ws)) (Ok tt) (Err (fault_of ws n))

-- of a lent slice: which loan it is, and what lies past the words that are used
pub record Loan : Type 0 where
  pub loan : ℕ
  pub rest : List ℕ

-- the one loan of a slice, where the function tells what of its elements lies past those that are used
unfoldable pub loan_of : {T : Type 0} → (List T → List ℕ) → MutBor (List T) → List Loan
loan_of past s = record { loan = s.ghost_name; rest = past s.now } ∷ []

-- the words of a memory over a list: at most its first 8,192. A word is taken as one of 32 bits, as every word of the code is
unfoldable pub word_list : List ℕ → List ℕ
word_list ws = cut (map wrap ws)

-- what holds of every memory: at most 8,192 words, each of 32 bits; delays of at most 255, and none from the size on
pub record Laws {S : Type 0} (words : S → List ℕ) (delay : S → ℕ → ℕ) : Type 0 where
  pub few : (s : S) → length (words s) ≤ 8192
  pub fits : (s : S) (n : ℕ) → slice_index (words s) n < 2 ^ 32
  pub short : (s : S) (n : ℕ) → delay s n ≤ 255
  pub past : (s : S) (n : ℕ) → length (words s) ≤ n → delay s n ≡ 0

-- what a call promises: s is the memory as it begins, t as it ends, and r the answer
module _ {S : Type 0} (words : S → List ℕ) (delay : S → ℕ → ℕ) (frame : S → List Loan) where
  -- nothing that the memory means is changed
  pub record Same (s t : S) : Type 0 where
    pub words_kept : words t ≡ words s
    pub delay_kept : delay t ≡ delay s
    pub frame_kept : frame t ≡ frame s

  -- a question, whose right answer is a, changes nothing
  pub record Asked (s : S) (a r : ℕ) (t : S) : Type 0 where
    pub answer : r ≡ a
    pub words_kept : words t ≡ words s
    pub delay_kept : delay t ≡ delay s
    pub frame_kept : frame t ≡ frame s

  -- a read of word number n changes at most later delays, and none where it is refused
  pub record Read (s : S) (n : ℕ) (r : Result ℕ MemoryFault) (t : S) : Type 0 where
    pub answer : r ≡ read_of (words s) n
    pub words_kept : words t ≡ words s
    pub refused_kept : length (words s) ≤ n → delay t ≡ delay s
    pub frame_kept : frame t ≡ frame s

  -- a write of v to word number n replaces that word only (slice_set changes nothing past the end), and later delays only where it is accepted
  pub record Written (s : S) (n v : ℕ) (r : Result (Unit {0}) MemoryFault) (t : S) : Type 0 where
    pub answer : r ≡ write_of (words s) n
    pub word_set : words t ≡ slice_set (words s) n v
    pub refused_kept : length (words s) ≤ n → delay t ≡ delay s
    pub frame_kept : frame t ≡ frame s
