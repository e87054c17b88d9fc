-- What a word says: the form of its instruction, with the fields that its line shows. Assumes nothing.
use Rattle.std.specs.Prelude.{ℕ, Bool, false, cond, not, ◌||◌, Some, None, Option, ◌==◌}
use Rattle.isa.specs.Fields.{bits, op_of, ra_of, rb_of, rc_of, c1_of, c2_of, count_of, when_of}
use Rattle.isa.specs.Operations.{Op, operation}
use Rattle.isa.specs.Operations.Mode.{displaced, relative}
use Rattle.isa.specs.Operations.Op.{nop, stop, br, brl, unassigned, transfer, binary, immediate, unary, shift}
use Rattle.isa.specs.declared.operation.Transfer.{Transfer}
use Rattle.isa.specs.declared.operation.Shift.{Shift}
use Rattle.isa.specs.declared.instruction.Instruction.{Instruction}
use Rattle.isa.specs.declared.instruction.Instruction.TheVariants as i

-- with a base register, unless that is register 0
abbrev pub displaced_instruction : Transfer → ℕ → Instruction
displaced_instruction t w = cond (rb_of w == 0) (i.Direct t (ra_of w) (c2_of w)) (i.Indexed t (ra_of w) (rb_of w) (c2_of w))

-- by the constant, unless that is 0
abbrev pub shift_instruction : Shift → ℕ → Instruction
shift_instruction f w = cond (count_of w == 0) (i.ShiftByRegister f (ra_of w) (rb_of w) (rc_of w)) (i.ShiftBy f (ra_of w) (rb_of w) (count_of w))

-- the instruction of the operation and the fields of w
abbrev pub said : Op → ℕ → Option Instruction
said nop w = Some i.Nop
said stop w = Some i.Stop
said br w = Some (i.Branch (rb_of w) (rc_of w) (when_of w))
said brl w = Some (i.BranchLink (ra_of w) (rb_of w) (rc_of w) (when_of w))
said unassigned w = None
said (transfer t displaced) w = Some (displaced_instruction t w)
said (transfer t relative) w = Some (i.Relative t (ra_of w) (c1_of w))
said (binary f) w = Some (i.Binary f (ra_of w) (rb_of w) (rc_of w))
said (immediate f) w = Some (i.Immediate f (ra_of w) (rb_of w) (c2_of w))
said (unary f) w = Some (i.Unary f (ra_of w) (rc_of w))
said (shift f) w = Some (shift_instruction f w)

-- the instruction that the word says; none for an unassigned code
abbrev pub decoded : ℕ → Option Instruction
decoded w = said (operation (op_of w)) w

-- is one of these bits set?
abbrev pub set_in : ℕ → ℕ → ℕ → Bool
set_in low width w = not (bits low width w == 0)

-- is a bit set that no field of the form shows?
abbrev pub stray : Instruction → ℕ → Bool
stray i.Nop w = set_in 0 27 w
stray i.Stop w = set_in 0 27 w
stray (i.Direct t a k) w = false
stray (i.Indexed t a b k) w = false
stray (i.Relative t a k) w = false
stray (i.Branch b c k) w = set_in 22 5 w || set_in 3 9 w
stray (i.BranchLink a b c k) w = set_in 3 9 w
stray (i.Binary f a b c) w = set_in 0 12 w
stray (i.Immediate f a b k) w = false
stray (i.Unary f a c) w = set_in 17 5 w || set_in 0 12 w
stray (i.ShiftBy f a b n) w = set_in 12 5 w || set_in 5 7 w
stray (i.ShiftByRegister f a b c) w = set_in 5 7 w
