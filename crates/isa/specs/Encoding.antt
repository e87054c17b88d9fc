-- The word of an instruction, from its fields. Assumes nothing.
use Rattle.std.specs.Prelude.{◌≡◌, ℕ, ◌+◌, ◌-◌, ◌*◌, ◌^◌, ℤ, pos, negsuc, Some}
use Rattle.isa.specs.Lines.{form_of}
use Rattle.isa.specs.declared.operation.Transfer.{Transfer}
use Rattle.isa.specs.declared.operation.Transfer.TheVariants.{Load, Store, Address}
use Rattle.isa.specs.declared.operation.Binary.{Binary}
use Rattle.isa.specs.declared.operation.Binary.TheVariants.{Add, Sub, And, Or}
use Rattle.isa.specs.declared.operation.Immediate.{Immediate}
use Rattle.isa.specs.declared.operation.Immediate.TheVariants.{Addi, Andi, Ori}
use Rattle.isa.specs.declared.operation.Unary.{Unary}
use Rattle.isa.specs.declared.operation.Unary.TheVariants.{Neg, Not}
use Rattle.isa.specs.declared.operation.Shift.{Shift}
use Rattle.isa.specs.declared.operation.Shift.TheVariants.{Shr, Shra, Shl, Shc}
use Rattle.isa.specs.declared.instruction.Instruction.{Instruction}
use Rattle.isa.specs.declared.instruction.Instruction.TheVariants as i

-- the code of each operation
abbrev pub transfer_code : Transfer → ℕ
transfer_code Load = 1
transfer_code Store = 3
transfer_code Address = 5

abbrev pub relative_code : Transfer → ℕ
relative_code t = transfer_code t + 1

abbrev pub binary_code : Binary → ℕ
binary_code Add = 12
binary_code Sub = 14
binary_code And = 20
binary_code Or = 22

abbrev pub immediate_code : Immediate → ℕ
immediate_code Addi = 13
immediate_code Andi = 21
immediate_code Ori = 23

abbrev pub unary_code : Unary → ℕ
unary_code Neg = 15
unary_code Not = 24

abbrev pub shift_code : Shift → ℕ
shift_code Shr = 26
shift_code Shra = 27
shift_code Shl = 28
shift_code Shc = 29

-- a signed number in so many bits, in two's complement
abbrev pub within : ℕ → ℤ → ℕ
within width (pos n) = n
within width (negsuc n) = 2 ^ width - 1 - n

-- a word from its code, its registers and its low bits
abbrev pub packed : ℕ → ℕ → ℕ → ℕ → ℕ → ℕ
packed op a b c low = op * 2 ^ 27 + a * 2 ^ 22 + b * 2 ^ 17 + c * 2 ^ 12 + low

-- the word of an instruction
abbrev pub encoded : Instruction → ℕ
encoded i.Nop = packed 0 0 0 0 0
encoded i.Stop = packed 31 0 0 0 0
encoded (i.Direct t a k) = packed (transfer_code t) a 0 0 (within 17 k)
encoded (i.Indexed t a b k) = packed (transfer_code t) a b 0 (within 17 k)
encoded (i.Relative t a k) = packed (relative_code t) a 0 0 (within 22 k)
encoded (i.Branch b c k) = packed 8 0 b c k
encoded (i.BranchLink a b c k) = packed 9 a b c k
encoded (i.Binary f a b c) = packed (binary_code f) a b c 0
encoded (i.Immediate f a b k) = packed (immediate_code f) a b 0 (within 17 k)
encoded (i.Unary f a c) = packed (unary_code f) a 0 c 0
encoded (i.ShiftBy f a b n) = packed (shift_code f) a b 0 n
encoded (i.ShiftByRegister f a b c) = packed (shift_code f) a b c 0

-- a word whose line is not the `word` form is the word of its instruction
abbrev pub Encodes : ℕ → Type 0
Encodes w = (x : Instruction) → form_of w ≡ Some x → encoded x ≡ w
