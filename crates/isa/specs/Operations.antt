-- The operations, and the code of each. Assumes nothing.
use Rattle.std.specs.Prelude.{ℕ, cond, ◌==◌}
use Rattle.isa.specs.Fields.{op_of}
use Rattle.isa.specs.declared.operation.Transfer.{Transfer}
use Rattle.isa.specs.declared.operation.Transfer.TheVariants.{Load, Store, Address}
use Rattle.isa.specs.declared.operation.Binary.{Binary}
use Rattle.isa.specs.declared.operation.Binary.TheVariants.{Add, Sub, And, Or}
use Rattle.isa.specs.declared.operation.Immediate.{Immediate}
use Rattle.isa.specs.declared.operation.Immediate.TheVariants.{Addi, Andi, Ori}
use Rattle.isa.specs.declared.operation.Unary.{Unary}
use Rattle.isa.specs.declared.operation.Unary.TheVariants.{Neg, Not}
use Rattle.isa.specs.declared.operation.Shift.{Shift}
use Rattle.isa.specs.declared.operation.Shift.TheVariants.{Shr, Shra, Shl, Shc}

-- how an address is made: from a displacement and a base register, or relative to the program counter
pub data Mode : Type 0 where
  displaced relative : Mode

pub data Op : Type 0 where
  nop stop br brl unassigned : Op
  transfer : Transfer → Mode → Op
  binary : Binary → Op
  immediate : Immediate → Op
  unary : Unary → Op
  shift : Shift → Op

-- the operation of each code
abbrev pub operation : ℕ → Op
operation o =
    cond (o == 0) nop
    (cond (o == 1) (transfer Load displaced)
    (cond (o == 2) (transfer Load relative)
    (cond (o == 3) (transfer Store displaced)
    (cond (o == 4) (transfer Store relative)
    (cond (o == 5) (transfer Address displaced)
    (cond (o == 6) (transfer Address relative)
    (cond (o == 8) br
    (cond (o == 9) brl
    (cond (o == 12) (binary Add)
    (cond (o == 13) (immediate Addi)
    (cond (o == 14) (binary Sub)
    (cond (o == 15) (unary Neg)
    (cond (o == 20) (binary And)
    (cond (o == 21) (immediate Andi)
    (cond (o == 22) (binary Or)
    (cond (o == 23) (immediate Ori)
    (cond (o == 24) (unary Not)
    (cond (o == 26) (shift Shr)
    (cond (o == 27) (shift Shra)
    (cond (o == 28) (shift Shl)
    (cond (o == 29) (shift Shc)
    (cond (o == 31) stop unassigned))))))))))))))))))))))

-- the operation of a word
unfoldable pub decoded_op : ℕ → Op
decoded_op w = operation (op_of w)

-- the operation on two words behind one with a constant
abbrev pub binary_of : Immediate → Binary
binary_of Addi = Add
binary_of Andi = And
binary_of Ori = Or
