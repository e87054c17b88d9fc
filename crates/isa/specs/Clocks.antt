-- How many clocks an instruction takes on the one-bus core, where no access waits, and which of them access the memory. Assumes nothing.
use Rattle.std.specs.Prelude.{ℕ, ◌+◌, cond, length, nat_lt}
use Rattle.isa.specs.Operations.{Op, decoded_op}
use Rattle.isa.specs.Operations.Op.{nop, stop, br, brl, unassigned, transfer, binary, immediate, unary, shift}
use Rattle.isa.specs.Book.{Visible, Access, access, address, places, fetched, raised}
use Rattle.isa.specs.Book.Access.{fit, unfit}
use Rattle.isa.specs.declared.operation.Transfer.TheVariants.{Load, Store, Address}

-- a load that cannot read its word ends a clock early
abbrev pub load_clocks : Access → ℕ
load_clocks fit = 8
load_clocks (unfit c) = 7

-- the clocks of the operation o of the word w, in v with its program counter raised
unfoldable pub op_clocks : Op → ℕ → Visible → ℕ
op_clocks nop w v = 4
op_clocks stop w v = 4
op_clocks br w v = 5
op_clocks brl w v = 7
op_clocks unassigned w v = 4
op_clocks (transfer Load m) w v = load_clocks (access (address m w v) (length v.words))
op_clocks (transfer Store m) w v = 8
op_clocks (transfer Address m) w v = 6
op_clocks (binary f) w v = 6
op_clocks (immediate f) w v = 6
op_clocks (unary f) w v = 5
op_clocks (shift f) w v = places w v + 8

abbrev pub begun_clocks : Access → Visible → ℕ
begun_clocks fit v = op_clocks (decoded_op (fetched v)) (fetched v) (raised v)
begun_clocks (unfit c) v = 2

-- the clocks of one instruction
unfoldable pub clocks : Visible → ℕ
clocks v = begun_clocks (access v.pc (length v.words)) v

-- the Wait steps of an operation among the first j clocks: a load's is its seventh clock, a store's its eighth
abbrev pub op_accesses : Op → ℕ → ℕ
op_accesses nop j = 0
op_accesses stop j = 0
op_accesses br j = 0
op_accesses brl j = 0
op_accesses unassigned j = 0
op_accesses (transfer Load m) j = cond (nat_lt 6 j) 1 0
op_accesses (transfer Store m) j = cond (nat_lt 7 j) 1 0
op_accesses (transfer Address m) j = 0
op_accesses (binary f) j = 0
op_accesses (immediate f) j = 0
op_accesses (unary f) j = 0
op_accesses (shift f) j = 0

abbrev pub begun_accesses : Access → Visible → ℕ → ℕ
begun_accesses fit v j = op_accesses (decoded_op (fetched v)) j
begun_accesses (unfit c) v j = 0

-- the Wait steps among the first j clocks of an instruction: the fetch is its second clock
abbrev pub accesses : Visible → ℕ → ℕ
accesses v j = cond (nat_lt 1 j) 1 0 + begun_accesses (access v.pc (length v.words)) v j
