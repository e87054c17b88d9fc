-- A number as a script writes it. Assumes nothing.
use Rattle.std.specs.Prelude.{ℕ, min, Bool, true, false, cond, ◌&&◌, List, [], ◌∷◌, drop, Some, None, Option, ◌==◌, nat_lt}
use Rattle.std.specs.Str.Parse.{digits_value}
use Rattle.std.specs.Char.{digit_value}

-- the value of a digit of the base: letters follow 9, capital or small
abbrev pub digit_of : ℕ → ℕ → Option ℕ
digit_of base c = cond (nat_lt (digit_value c) base) (Some (digit_value c)) None

-- whether each character is a digit of the base
abbrev pub all_digits : ℕ → List ℕ → Bool
all_digits base [] = true
all_digits base (c ∷ cs) = nat_lt (digit_value c) base && all_digits base cs

-- the largest number of 64 bits
abbrev pub most : ℕ
most = 18446744073709551615

-- the number that the digits write, the largest of 64 bits standing for each that is larger; none without a digit
abbrev pub numeral : ℕ → List ℕ → Option ℕ
numeral base [] = None
numeral base (c ∷ cs) = cond (all_digits base (c ∷ cs)) (Some (min most (digits_value base (c ∷ cs)))) None

-- whether 0x stands first
abbrev pub hexadecimal : List ℕ → Bool
hexadecimal [] = false
hexadecimal (c ∷ []) = false
hexadecimal (c ∷ d ∷ cs) = c == 48 && d == 120

-- a number is hexadecimal after 0x, and else decimal
abbrev pub number_of : List ℕ → Option ℕ
number_of cs = cond (hexadecimal cs) (numeral 16 (drop 2 cs)) (numeral 10 cs)
