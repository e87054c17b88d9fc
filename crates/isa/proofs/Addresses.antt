-- The address that a word names is told by its instruction. Assumes nothing.
use Rattle.std.proofs.Common.{◌≡◌, ℕ, eqb, true, false, cond, ℤ, pos, negsuc, List, [], get_or, Some, None, Option, sym, refl, ap, ◌∙◌, arith}
use Rattle.std.proofs.lemmas.Bool.{cond_both}
use Rattle.std.proofs.lemmas.Int.{to_z-of_z}
use mir.Syntax.{w32}
use mir.Val.{SFits, of_z, to_z}
use Rattle.isa.specs.Fields.{op_of, ra_of, rb_of, c2_of, count_of, word_of}
use Rattle.isa.specs.Arithmetic.{plus}
use Rattle.isa.specs.Operations.{Op, operation}
use Rattle.isa.specs.Operations.Mode.{displaced, relative}
use Rattle.isa.specs.Operations.Op.{nop, stop, br, brl, unassigned, transfer, binary, immediate, unary, shift}
use Rattle.isa.specs.Book.{address}
use Rattle.isa.specs.Instructions.{said, decoded}
use Rattle.isa.specs.Addresses.{op_address, named_address}
use Rattle.isa.specs.declared.operation.Transfer.{Transfer}
use Rattle.isa.specs.declared.instruction.Instruction.{Instruction}
use Rattle.isa.specs.declared.instruction.Instruction.TheVariants as i

pub as_word : (z : ℤ) → SFits w32 z → of_z w32 (to_z w32 (of_z w32 z)) ≡ word_of z
as_word (pos n) f = ap (of_z w32) (to_z-of_z w32 (pos n) f)
as_word (negsuc n) f = ap (of_z w32) (to_z-of_z w32 (negsuc n) f) ∙ omega arith

module _ (pc : ℕ) (rs : List ℕ) where
  -- the address that an instruction names
  abbrev pub named_by : Instruction → Option ℕ
  named_by (i.Direct t a k) = Some (word_of k)
  named_by (i.Indexed t a b k) = Some (plus (get_or rs b 0) (word_of k))
  named_by (i.Relative t a k) = Some (plus pc (word_of k))
  named_by i.Nop = None
  named_by i.Stop = None
  named_by (i.Branch b c k) = None
  named_by (i.BranchLink a b c k) = None
  named_by (i.Binary f a b c) = None
  named_by (i.Immediate f a b k) = None
  named_by (i.Unary f a c) = None
  named_by (i.ShiftBy f a b n) = None
  named_by (i.ShiftByRegister f a b c) = None

  abbrev named : Option Instruction → Option ℕ
  named None = None
  named (Some x) = named_by x

  said_names : (w : ℕ) (o : Op) → named (said o w) ≡ op_address o w (record { pc = pc; regs = rs; words = [] })
  unfolding address
  said_names w nop = refl
  said_names w stop = refl
  said_names w br = refl
  said_names w brl = refl
  said_names w unassigned = refl
  said_names w (transfer t displaced) =
      elim (eqb (rb_of w) 0)
      as (λ b. named_by (cond b (i.Direct t (ra_of w) (c2_of w)) (i.Indexed t (ra_of w) (rb_of w) (c2_of w))) ≡ Some (cond b (word_of (c2_of w)) (plus (get_or rs (rb_of w) 0) (word_of (c2_of w)))))
      [ true ↦ refl | false ↦ refl ]
  said_names w (transfer t relative) = refl
  said_names w (binary f) = refl
  said_names w (immediate f) = refl
  said_names w (unary f) = refl
  said_names w (shift f) = cond_both (eqb (count_of w) 0) _ _ (λ x. named_by x ≡ None) (λ e. refl) (λ e. refl)

  pub names : (w : ℕ) (x y : Instruction) → Some x ≡ decoded w → x ≡ y → named_by y ≡ named_address w pc rs
  names w x y e f = ap named_by (sym f) ∙ ap named e ∙ said_names w (operation (op_of w))

  pub names_none : (x : Instruction) → ((t : Transfer) (a : ℕ) (k : ℤ) → x ≡ i.Direct t a k → ⊥) → ((t : Transfer) (a b : ℕ) (k : ℤ) → x ≡ i.Indexed t a b k → ⊥) → ((t : Transfer) (a : ℕ) (k : ℤ) → x ≡ i.Relative t a k → ⊥) → named_by x ≡ None
  names_none (i.Direct t a k) d x r = absurd (d t a k refl)
  names_none (i.Indexed t a b k) d x r = absurd (x t a b k refl)
  names_none (i.Relative t a k) d x r = absurd (r t a k refl)
  names_none i.Nop d x r = refl
  names_none i.Stop d x r = refl
  names_none (i.Branch b c k) d x r = refl
  names_none (i.BranchLink a b c k) d x r = refl
  names_none (i.Binary f a b c) d x r = refl
  names_none (i.Immediate f a b k) d x r = refl
  names_none (i.Unary f a c) d x r = refl
  names_none (i.ShiftBy f a b n) d x r = refl
  names_none (i.ShiftByRegister f a b c) d x r = refl
