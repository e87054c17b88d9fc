-- The control rows: for each operation the signals of each step, and the control store made of them. Assumes nothing.
use Rattle.std.specs.Prelude.{ℕ, suc, List, [], ◌∷◌, slice_index_or}
use Rattle.isa.specs.declared.operation.Transfer.TheVariants.{Load, Store, Address}
use Rattle.isa.specs.declared.operation.Binary.{Binary}
use Rattle.isa.specs.declared.operation.Binary.TheVariants as on_two
use Rattle.isa.specs.declared.operation.Unary.{Unary}
use Rattle.isa.specs.declared.operation.Unary.TheVariants as on_one
use Rattle.isa.specs.declared.operation.Shift.{Shift}
use Rattle.isa.specs.declared.operation.Shift.TheVariants as by_places
use Rattle.isa.specs.Operations.{Mode, Op, operation, binary_of}
use Rattle.isa.specs.Operations.Mode.{displaced, relative}
use Rattle.isa.specs.Operations.Op.{nop, stop, br, brl, unassigned, transfer, binary, immediate, unary, shift}
use Rattle.rows.specs.declared.signal.Signal.{Signal}
use Rattle.rows.specs.declared.signal.Signal.TheVariants.{PcOut, MdOut, COut, ROut, BaOut, C1Out, C2Out, MaIn, MdIn, IrIn, PcIn, ConPcIn, AIn, CIn, RIn, ConIn, Ld, Gra, Grb, Grc, Add, Sub, And, Or, Neg, Not, CIsB, Inc4, Shr, Shra, Shl, Shc, Read, Write, Wait, Decr, Goto6, Stop, End, NIsZero, NIsNotZero}
use Rattle.rows.specs.Signals.{encode}

-- the ALU function of an operation
abbrev pub binary_signal : Binary → Signal
binary_signal on_two.Add = Add
binary_signal on_two.Sub = Sub
binary_signal on_two.And = And
binary_signal on_two.Or = Or

abbrev pub unary_signal : Unary → Signal
unary_signal on_one.Neg = Neg
unary_signal on_one.Not = Not

abbrev pub shift_signal : Shift → Signal
shift_signal by_places.Shr = Shr
shift_signal by_places.Shra = Shra
shift_signal by_places.Shl = Shl
shift_signal by_places.Shc = Shc

-- the two steps that bring an address into C
abbrev pub base : Mode → List Signal
base displaced = Grb ∷ BaOut ∷ AIn ∷ []
base relative = PcOut ∷ AIn ∷ []

abbrev pub offset : Mode → List Signal
offset displaced = C2Out ∷ Add ∷ CIn ∷ []
offset relative = C1Out ∷ Add ∷ CIn ∷ []

-- the last step of most operations: C into R[ra]
abbrev pub into_ra : List Signal
into_ra = COut ∷ Gra ∷ RIn ∷ End ∷ []

-- the steps of each operation, from T3 on
abbrev pub rows : Op → List (List Signal)
rows nop = (End ∷ []) ∷ []
rows stop = (Stop ∷ End ∷ []) ∷ []
rows br = (Grc ∷ ROut ∷ ConIn ∷ []) ∷ (Grb ∷ ROut ∷ ConPcIn ∷ End ∷ []) ∷ []
rows brl = (Grc ∷ ROut ∷ ConIn ∷ []) ∷ (PcOut ∷ CIsB ∷ CIn ∷ []) ∷ (Grb ∷ ROut ∷ ConPcIn ∷ []) ∷ into_ra ∷ []
rows unassigned = []
rows (transfer Load m) = base m ∷ offset m ∷ (COut ∷ MaIn ∷ []) ∷ (Read ∷ Wait ∷ []) ∷ (MdOut ∷ Gra ∷ RIn ∷ End ∷ []) ∷ []
rows (transfer Store m) = base m ∷ offset m ∷ (COut ∷ MaIn ∷ []) ∷ (Gra ∷ ROut ∷ MdIn ∷ []) ∷ (Write ∷ Wait ∷ End ∷ []) ∷ []
rows (transfer Address m) = base m ∷ offset m ∷ into_ra ∷ []
rows (binary f) = (Grb ∷ ROut ∷ AIn ∷ []) ∷ (Grc ∷ ROut ∷ binary_signal f ∷ CIn ∷ []) ∷ into_ra ∷ []
rows (immediate f) = (Grb ∷ ROut ∷ AIn ∷ []) ∷ (C2Out ∷ binary_signal (binary_of f) ∷ CIn ∷ []) ∷ into_ra ∷ []
rows (unary f) = (Grc ∷ ROut ∷ unary_signal f ∷ CIn ∷ []) ∷ into_ra ∷ []
rows (shift f) = (C1Out ∷ Ld ∷ []) ∷ (NIsZero ∷ Grc ∷ ROut ∷ Ld ∷ []) ∷ (Grb ∷ ROut ∷ CIsB ∷ CIn ∷ [])
    ∷ (NIsNotZero ∷ COut ∷ shift_signal f ∷ CIn ∷ Decr ∷ Goto6 ∷ []) ∷ into_ra ∷ []

-- T0, T1 and T2, the same for every operation, before the steps of its own
abbrev pub fetch : List (List Signal) → List (List Signal)
fetch r = (PcOut ∷ MaIn ∷ Inc4 ∷ CIn ∷ []) ∷ (COut ∷ PcIn ∷ Read ∷ Wait ∷ []) ∷ (MdOut ∷ IrIn ∷ []) ∷ r

-- the control word of an operation at a step: empty past the end of its row
abbrev pub control_word : Op → ℕ → ℕ
control_word o t = encode (slice_index_or (fetch (rows o)) t [])

-- the eight control words of an operation, before others
abbrev pub eight : Op → List ℕ → List ℕ
eight o r =
    control_word o 0 ∷ control_word o 1 ∷ control_word o 2 ∷ control_word o 3
    ∷ control_word o 4 ∷ control_word o 5 ∷ control_word o 6 ∷ control_word o 7 ∷ r

-- the control words of so many codes, from the code o on
abbrev pub blocks : ℕ → ℕ → List ℕ
blocks ℕ.zero o = []
blocks (ℕ.suc k) o = eight (operation o) (blocks k (suc o))

-- our control store: 256 control words, by code * 8 + step
unfoldable pub table : List ℕ
table = blocks 32 0
