-- The line of a word: the form of its instruction as text, or its eight digits. Assumes nothing.
use Rattle.std.specs.Prelude.{ℕ, Bool, true, false, List, [], ◌∷◌, ◌++◌, ℤ, pos, Some, None, codes, decimal, Option}
use Rattle.std.specs.Fmt.{signed_decimal, digit_glyph}
use Rattle.isa.specs.Fields.{bits}
use Rattle.isa.specs.Instructions.{decoded, stray}
use Rattle.isa.specs.declared.operation.Transfer.{Transfer}
use Rattle.isa.specs.declared.operation.Transfer.TheVariants.{Load, Store, Address}
use Rattle.isa.specs.declared.operation.Binary.{Binary}
use Rattle.isa.specs.declared.operation.Binary.TheVariants.{Add, Sub, And, Or}
use Rattle.isa.specs.declared.operation.Immediate.{Immediate}
use Rattle.isa.specs.declared.operation.Immediate.TheVariants.{Addi, Andi, Ori}
use Rattle.isa.specs.declared.operation.Unary.{Unary}
use Rattle.isa.specs.declared.operation.Unary.TheVariants.{Neg, Not}
use Rattle.isa.specs.declared.operation.Shift.{Shift}
use Rattle.isa.specs.declared.operation.Shift.TheVariants.{Shr, Shra, Shl, Shc}
use Rattle.isa.specs.declared.instruction.Instruction.{Instruction}
use Rattle.isa.specs.declared.instruction.Instruction.TheVariants as i

-- the names of the operations
abbrev pub transfer_name : Transfer → List ℕ
transfer_name Load = codes "ld"
transfer_name Store = codes "st"
transfer_name Address = codes "la"

abbrev pub relative_name : Transfer → List ℕ
relative_name Load = codes "ldr"
relative_name Store = codes "str"
relative_name Address = codes "lar"

abbrev pub binary_name : Binary → List ℕ
binary_name Add = codes "add"
binary_name Sub = codes "sub"
binary_name And = codes "and"
binary_name Or = codes "or"

abbrev pub immediate_name : Immediate → List ℕ
immediate_name Addi = codes "addi"
immediate_name Andi = codes "andi"
immediate_name Ori = codes "ori"

abbrev pub unary_name : Unary → List ℕ
unary_name Neg = codes "neg"
unary_name Not = codes "not"

abbrev pub shift_name : Shift → List ℕ
shift_name Shr = codes "shr"
shift_name Shra = codes "shra"
shift_name Shl = codes "shl"
shift_name Shc = codes "shc"

-- what stands after the name: a register, a constant, or a constant and the base register that it is added to
pub data Operand : Type 0 where
  register : ℕ → Operand
  constant : ℤ → Operand
  indexed : ℤ → ℕ → Operand

-- a name and its operands
pub record Statement : Type 0 where
  pub name : List ℕ
  pub operands : List Operand

abbrev pub states : List ℕ → List Operand → Statement
states n xs = record { name = n; operands = xs }

-- the form of an instruction
abbrev pub statement_of : Instruction → Statement
statement_of i.Nop = states (codes "nop") []
statement_of i.Stop = states (codes "stop") []
statement_of (i.Direct t a k) = states (transfer_name t) (register a ∷ constant k ∷ [])
statement_of (i.Indexed t a b k) = states (transfer_name t) (register a ∷ indexed k b ∷ [])
statement_of (i.Relative t a k) = states (relative_name t) (register a ∷ constant k ∷ [])
statement_of (i.Branch b c k) = states (codes "br") (register b ∷ register c ∷ constant (pos k) ∷ [])
statement_of (i.BranchLink a b c k) = states (codes "brl") (register a ∷ register b ∷ register c ∷ constant (pos k) ∷ [])
statement_of (i.Binary f a b c) = states (binary_name f) (register a ∷ register b ∷ register c ∷ [])
statement_of (i.Immediate f a b k) = states (immediate_name f) (register a ∷ register b ∷ constant k ∷ [])
statement_of (i.Unary f a c) = states (unary_name f) (register a ∷ register c ∷ [])
statement_of (i.ShiftBy f a b n) = states (shift_name f) (register a ∷ register b ∷ constant (pos n) ∷ [])
statement_of (i.ShiftByRegister f a b c) = states (shift_name f) (register a ∷ register b ∷ register c ∷ [])

-- registers are r0 to r31, constants signed decimal
abbrev pub operand_text : Operand → List ℕ
operand_text (register n) = codes "r" ++ decimal n
operand_text (constant z) = signed_decimal z
operand_text (indexed z n) = signed_decimal z ++ (codes "(r" ++ (decimal n ++ codes ")"))

-- operands are parted by a comma and one blank
abbrev pub parted : Operand → List Operand → List ℕ
parted x [] = operand_text x
parted x (y ∷ ys) = operand_text x ++ (codes ", " ++ parted y ys)

-- one blank stands after the name
abbrev pub operands_text : List Operand → List ℕ
operands_text [] = []
operands_text (x ∷ xs) = codes " " ++ parted x xs

abbrev pub statement_text : Statement → List ℕ
statement_text s = s.name ++ operands_text s.operands

-- the text of an instruction
abbrev pub text_of : Instruction → List ℕ
text_of x = statement_text (statement_of x)

-- the four bits from the bit low on as a capital hexadecimal digit
abbrev pub hex_digit : ℕ → ℕ → ℕ
hex_digit low w = digit_glyph true (bits low 4 w)

-- a word as eight capital hexadecimal digits
abbrev pub hex_text : ℕ → List ℕ
hex_text w = hex_digit 28 w ∷ hex_digit 24 w ∷ hex_digit 20 w ∷ hex_digit 16 w ∷ hex_digit 12 w ∷ hex_digit 8 w ∷ hex_digit 4 w ∷ hex_digit 0 w ∷ []

-- the form of a word: the instruction that it says with no stray bit, or none
abbrev pub clean : Bool → Instruction → Option Instruction
clean true x = None
clean false x = Some x

abbrev pub formed : Option Instruction → ℕ → Option Instruction
formed None w = None
formed (Some x) w = clean (stray x w) x

abbrev pub form_of : ℕ → Option Instruction
form_of w = formed (decoded w) w

abbrev pub form_text : Option Instruction → ℕ → List ℕ
form_text None w = codes "word " ++ hex_text w
form_text (Some x) w = text_of x

-- the line of a word
abbrev pub line_of : ℕ → List ℕ
line_of w = form_text (form_of w) w
