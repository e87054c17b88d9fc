-- The fields of an instruction word of 32 bits; bit 0 is the lowest. Assumes nothing.
use Rattle.std.specs.Prelude.{ℕ, ◌-◌, ◌/◌, ◌%◌, ◌^◌, cond, ℤ, pos, negsuc, nat_lt}
use Rattle.isa.specs.declared.fields.Field.{Field}
use Rattle.isa.specs.declared.fields.Field.TheVariants.{Op, Ra, Rb, Rc}

-- so many bits of w, from the bit low on
abbrev pub bits : ℕ → ℕ → ℕ → ℕ
bits low width w = w / 2 ^ low % 2 ^ width

-- the low bits of w as a signed number: the highest of them is the sign
abbrev pub extended : ℕ → ℕ → ℤ
extended width w = cond (nat_lt (w % 2 ^ width) (2 ^ (width - 1))) (pos (w % 2 ^ width)) (negsuc (2 ^ width - 1 - w % 2 ^ width))

-- a signed number as a word, in two's complement
abbrev pub word_of : ℤ → ℕ
word_of (pos n) = n
word_of (negsuc n) = 2 ^ 32 - 1 - n

-- the operation's code, bits 31 to 27
abbrev pub op_of : ℕ → ℕ
op_of w = bits 27 5 w

-- the register fields: bits 26 to 22, 21 to 17 and 16 to 12
abbrev pub ra_of : ℕ → ℕ
ra_of w = bits 22 5 w

abbrev pub rb_of : ℕ → ℕ
rb_of w = bits 17 5 w

abbrev pub rc_of : ℕ → ℕ
rc_of w = bits 12 5 w

-- the field of that name
abbrev pub field_of : Field → ℕ → ℕ
field_of Op w = op_of w
field_of Ra w = ra_of w
field_of Rb w = rb_of w
field_of Rc w = rc_of w

-- the constants: bits 21 to 0 and 16 to 0, sign extended
abbrev pub c1_of : ℕ → ℤ
c1_of w = extended 22 w

abbrev pub c2_of : ℕ → ℤ
c2_of w = extended 17 w

-- the low part of c3, bits 11 to 0, that says by how many places a shift goes, and the one that says when a branch is taken
abbrev pub count_of : ℕ → ℕ
count_of w = w % 32

abbrev pub when_of : ℕ → ℕ
when_of w = w % 8
