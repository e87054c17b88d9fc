-- The operations on words of 32 bits that the book machine and the cores share. Assumes nothing.
use Rattle.std.specs.Prelude.{ℕ, ◌+◌, ◌-◌, ◌*◌, ◌/◌, ◌%◌, ◌^◌, Bool, cond, not, ◌&&◌, ◌||◌, ◌==◌, bit_and, bit_or}
use Rattle.isa.specs.declared.operation.Binary.{Binary}
use Rattle.isa.specs.declared.operation.Binary.TheVariants.{Add, Sub, And, Or}
use Rattle.isa.specs.declared.operation.Unary.{Unary}
use Rattle.isa.specs.declared.operation.Unary.TheVariants.{Neg, Not}
use Rattle.isa.specs.declared.operation.Shift.{Shift}
use Rattle.isa.specs.declared.operation.Shift.TheVariants.{Shr, Shra, Shl, Shc}

-- the sum and the difference, modulo 2 ^ 32
abbrev pub plus : ℕ → ℕ → ℕ
plus a b = (a + b) % 2 ^ 32

abbrev pub minus : ℕ → ℕ → ℕ
minus a b = (a + 2 ^ 32 - b) % 2 ^ 32

-- is the sign bit, bit 31, set?
abbrev pub sign : ℕ → Bool
sign x = x / 2 ^ 31 % 2 == 1

-- the result of an operation on two words
abbrev pub binary_result : Binary → ℕ → ℕ → ℕ
binary_result Add a b = plus a b
binary_result Sub a b = minus a b
binary_result And a b = bit_and a b
binary_result Or a b = bit_or a b

-- the result of an operation on one word: the negation modulo 2 ^ 32, or each bit the other way
abbrev pub unary_result : Unary → ℕ → ℕ
unary_result Neg b = minus 0 b
unary_result Not b = 2 ^ 32 - 1 - b

-- a shift by one place: right, right with the sign kept, left, and left around
abbrev pub shifted_once : Shift → ℕ → ℕ
shifted_once Shr x = x / 2
shifted_once Shra x = cond (sign x) (x / 2 + 2 ^ 31) (x / 2)
shifted_once Shl x = x * 2 % 2 ^ 32
shifted_once Shc x = x * 2 % 2 ^ 32 + x / 2 ^ 31

-- a shift by n places, n below 32
unfoldable pub shifted : Shift → ℕ → ℕ → ℕ
shifted Shr n x = x / 2 ^ n
shifted Shra n x = cond (sign x) (x / 2 ^ n + (2 ^ 32 - 2 ^ (32 - n))) (x / 2 ^ n)
shifted Shl n x = x * 2 ^ n % 2 ^ 32
shifted Shc n x = x % 2 ^ (32 - n) * 2 ^ n + x / 2 ^ (32 - n)

-- a branch's condition, by its code k and the word x that it tests
abbrev pub condition : ℕ → ℕ → Bool
condition k x =
    (k == 1) || ((k == 2 && x == 0) || ((k == 3 && not (x == 0)) || ((k == 4 && not (sign x)) || (k == 5 && sign x))))
