-- The bytes of an image as a script writes them. Assumes nothing.
use Rattle.std.specs.Prelude.{ℕ, ◌+◌, ◌*◌, cond, ◌&&◌, Some, None, Option, nat_lt}
use Rattle.std.specs.Char.{digit_value}

-- the byte that two hexadecimal digits write
abbrev pub byte_of : ℕ → ℕ → Option ℕ
byte_of high low = cond (nat_lt (digit_value high) 16 && nat_lt (digit_value low) 16) (Some (16 * digit_value high + digit_value low)) None
