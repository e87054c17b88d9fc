-- Numbers of 32 bits as four bytes, high byte first. Assumes nothing.
use Rattle.std.specs.Prelude.{ℕ, ◌+◌, ◌*◌, ◌/◌, ◌%◌, ◌^◌, List, [], ◌∷◌, slice_index}

-- the number of four bytes; modulo 2 ^ 32, so that it is a number of 32 bits also in a list of numbers that are no bytes
abbrev pub number : ℕ → ℕ → ℕ → ℕ → ℕ
number a b c d = (a * 16777216 + b * 65536 + c * 256 + d) % 2 ^ 32

-- the number that begins at byte i
abbrev pub number_at : List ℕ → ℕ → ℕ
number_at bs i = number (slice_index bs i) (slice_index bs (i + 1)) (slice_index bs (i + 2)) (slice_index bs (i + 3))

-- the numbers of a list of bytes, one after another; fewer than four bytes at its end are none
abbrev pub words_of : List ℕ → List ℕ
words_of [] = []
words_of (a ∷ []) = []
words_of (a ∷ (b ∷ [])) = []
words_of (a ∷ (b ∷ (c ∷ []))) = []
words_of (a ∷ (b ∷ (c ∷ (d ∷ rest)))) = number a b c d ∷ words_of rest

-- the four bytes of a number
abbrev pub number_bytes : ℕ → List ℕ
number_bytes n = n / 16777216 % 256 ∷ (n / 65536 % 256 ∷ (n / 256 % 256 ∷ (n % 256 ∷ [])))
