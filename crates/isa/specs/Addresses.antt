-- The address that a word names, for the operations that name one. Assumes nothing.
use Rattle.std.specs.Prelude.{ℕ, List, [], Some, None, Option}
use Rattle.isa.specs.Fields.{op_of}
use Rattle.isa.specs.Operations.{Op, operation}
use Rattle.isa.specs.Operations.Op.{nop, stop, br, brl, unassigned, transfer, binary, immediate, unary, shift}
use Rattle.isa.specs.Book.{Visible, address}

-- the address of the operation of the word w in v, whose program counter is raised
abbrev pub op_address : Op → ℕ → Visible → Option ℕ
op_address nop w v = None
op_address stop w v = None
op_address br w v = None
op_address brl w v = None
op_address unassigned w v = None
op_address (transfer t m) w v = Some (address m w v)
op_address (binary f) w v = None
op_address (immediate f) w v = None
op_address (unary f) w v = None
op_address (shift f) w v = None

-- the address that the word w names, with the program counter pc and the registers rs
abbrev pub named_address : ℕ → ℕ → List ℕ → Option ℕ
named_address w pc rs = op_address (operation (op_of w)) w (record { pc = pc; regs = rs; words = [] })
