-- The book machine: what one instruction does, in one statement. Assumes nothing.
use Rattle.std.specs.Prelude.{ℕ, ◌/◌, ◌%◌, Bool, true, false, cond, List, length, ◌==◌, nat_lt, slice_index, slice_set}
use Rattle.isa.specs.Fields.{ra_of, rb_of, rc_of, c1_of, c2_of, count_of, when_of, word_of}
use Rattle.isa.specs.Operations.{Mode, Op, decoded_op, binary_of}
use Rattle.isa.specs.Operations.Mode.{displaced, relative}
use Rattle.isa.specs.Operations.Op.{nop, stop, br, brl, unassigned, transfer, binary, immediate, unary, shift}
use Rattle.isa.specs.Arithmetic.{plus, binary_result, unary_result, shifted, condition}
use Rattle.isa.specs.declared.operation.Transfer.TheVariants.{Load, Store, Address}

-- what a program sees: the program counter, R0 to R31 and the memory's words
pub record Visible : Type 0 where
  pub pc : ℕ
  pub regs : List ℕ
  pub words : List ℕ

-- why an instruction cannot be done: its code is unassigned, an address is no multiple of four, or no word has that number
pub data Cause : Type 0 where
  unassigned_op unaligned no_word : Cause

-- the number that a cause is told by
abbrev pub cause_number : Cause → ℕ
cause_number unassigned_op = 17
cause_number unaligned = 18
cause_number no_word = 19

-- after an instruction: whether it stops the machine, and what the program sees then; or a fault with its cause and address
pub data After : Type 0 where
  next : Bool → Visible → After
  fault : Cause → ℕ → Visible → After

-- may the word at the address be used, in a memory of so many words?
pub data Access : Type 0 where
  fit : Access
  unfit : Cause → Access

abbrev pub access : ℕ → ℕ → Access
access a size = cond (a % 4 == 0) (cond (nat_lt (a / 4) size) fit (unfit no_word)) (unfit unaligned)

-- the register i, and the word at an address
abbrev pub register : Visible → ℕ → ℕ
register v i = slice_index v.regs i

abbrev pub word_at : Visible → ℕ → ℕ
word_at v a = slice_index v.words (a / 4)

-- v with another program counter, another register or another word
abbrev pub with_pc : Visible → ℕ → Visible
with_pc v p = record { pc = p; regs = v.regs; words = v.words }

abbrev pub with_register : Visible → ℕ → ℕ → Visible
with_register v i x = record { pc = v.pc; regs = slice_set v.regs i x; words = v.words }

abbrev pub with_word : Visible → ℕ → ℕ → Visible
with_word v n x = record { pc = v.pc; regs = v.regs; words = slice_set v.words n x }

-- the address that a word's instruction names
unfoldable pub address : Mode → ℕ → Visible → ℕ
address displaced w v = cond (rb_of w == 0) (word_of (c2_of w)) (plus (register v (rb_of w)) (word_of (c2_of w)))
address relative w v = plus v.pc (word_of (c1_of w))

-- by how many places a shift goes: the constant, or the low five bits of R[rc] where that is 0
unfoldable pub places : ℕ → Visible → ℕ
places w v = cond (count_of w == 0) (register v (rc_of w) % 32) (count_of w)

-- is a branch taken?
unfoldable pub taken : ℕ → Visible → Bool
taken w v = condition (when_of w) (register v (rc_of w))

-- where a branch goes
abbrev pub branched : ℕ → Visible → Visible
branched w v = with_pc v (cond (taken w v) (register v (rb_of w)) v.pc)

-- v' where the word at the address a may be used, and a fault where not
abbrev pub checked : Access → ℕ → Visible → Visible → After
checked fit a v v' = next false v'
checked (unfit c) a v v' = fault c a v

abbrev pub at_address : ℕ → Visible → Visible → After
at_address a v v' = checked (access a (length v.words)) a v v'

-- what the instruction w, fetched at the address at, does to v, whose program counter is already raised
unfoldable pub perform : Op → ℕ → ℕ → Visible → After
perform nop w at v = next false v
perform stop w at v = next true v
perform br w at v = next false (branched w v)
perform brl w at v = next false (with_register (branched w v) (ra_of w) v.pc)
perform unassigned w at v = fault unassigned_op at v
perform (transfer Load m) w at v = at_address (address m w v) v (with_register v (ra_of w) (word_at v (address m w v)))
perform (transfer Store m) w at v = at_address (address m w v) v (with_word v (address m w v / 4) (register v (ra_of w)))
perform (transfer Address m) w at v = next false (with_register v (ra_of w) (address m w v))
perform (binary f) w at v = next false (with_register v (ra_of w) (binary_result f (register v (rb_of w)) (register v (rc_of w))))
perform (immediate f) w at v = next false (with_register v (ra_of w) (binary_result (binary_of f) (register v (rb_of w)) (word_of (c2_of w))))
perform (unary f) w at v = next false (with_register v (ra_of w) (unary_result f (register v (rc_of w))))
perform (shift f) w at v = next false (with_register v (ra_of w) (shifted f (places w v) (register v (rb_of w))))

-- the word at the program counter, and v with its program counter raised by four
abbrev pub fetched : Visible → ℕ
fetched v = word_at v v.pc

abbrev pub raised : Visible → Visible
raised v = with_pc v (plus v.pc 4)

abbrev pub begun : Access → Visible → After
begun fit v = perform (decoded_op (fetched v)) (fetched v) v.pc (raised v)
begun (unfit c) v = fault c v.pc v

-- one instruction: the fetch, and what the word fetched says
unfoldable pub instruction : Visible → After
instruction v = begun (access v.pc (length v.words)) v

-- the book machine: Run, the fault mark and what a program sees
pub record Book : Type 0 where
  pub run : Bool
  pub mark : Bool
  pub visible : Visible

abbrev pub landed : After → Book → Book
landed (next stops v) b = record { run = cond stops false b.run; mark = b.mark; visible = v }
landed (fault c a v) b = record { run = false; mark = true; visible = v }

-- one instruction of the book machine
abbrev pub does_one : Book → Book
does_one b = landed (instruction b.visible) b
