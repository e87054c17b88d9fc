-- The whole core after one instruction, hidden registers included. Assumes nothing.
use Rattle.std.specs.Prelude.{ℕ, Bool, cond, List, length, ◌==◌}
use Rattle.isa.specs.declared.operation.Transfer.TheVariants.{Load, Store, Address}
use Rattle.isa.specs.Fields.{ra_of, rb_of, rc_of, c2_of, word_of}
use Rattle.isa.specs.Operations.{Mode, Op, decoded_op, binary_of}
use Rattle.isa.specs.Operations.Mode.{displaced, relative}
use Rattle.isa.specs.Operations.Op.{nop, stop, br, brl, unassigned, transfer, binary, immediate, unary, shift}
use Rattle.isa.specs.Arithmetic.{plus, binary_result, unary_result, shifted}
use Rattle.isa.specs.Book.{Visible, After, Access, access, register, word_at, address, places, taken, fetched, raised, instruction}
use Rattle.isa.specs.Book.After.{next, fault}
use Rattle.isa.specs.Book.Access.{fit, unfit}
use Rattle.rows.specs.Core.{Core, Outcome}
use Rattle.rows.specs.Core.Outcome.{done, failed}

-- the core's registers that no program sees, but for the step
pub record Hidden : Type 0 where
  pub ir : ℕ
  pub ma : ℕ
  pub md : ℕ
  pub a : ℕ
  pub c : ℕ
  pub n : ℕ
  pub con : Bool

-- what a program sees of a core over the memory's words
abbrev pub visible : Core → List ℕ → Visible
visible s ws = record { pc = s.pc; regs = s.regs; words = ws }

-- the core at the start of an instruction, of what a program sees and what it does not
abbrev pub core_of : Visible → Hidden → Core
core_of v h = record {
  pc = v.pc;
  regs = v.regs;
  ir = h.ir;
  ma = h.ma;
  md = h.md;
  a = h.a;
  c = h.c;
  n = h.n;
  con = h.con;
  t = 0;
}

-- h with another value in C, in A and C, or in CON
abbrev pub with_c : Hidden → ℕ → Hidden
with_c h x = record { ir = h.ir; ma = h.ma; md = h.md; a = h.a; c = x; n = h.n; con = h.con }

abbrev pub with_a_c : Hidden → ℕ → ℕ → Hidden
with_a_c h x y = record { ir = h.ir; ma = h.ma; md = h.md; a = x; c = y; n = h.n; con = h.con }

abbrev pub with_con : Hidden → Bool → Hidden
with_con h b = record { ir = h.ir; ma = h.ma; md = h.md; a = h.a; c = h.c; n = h.n; con = b }

-- h after a shift: the count is 0, and the result is in C
abbrev pub counted_out : Hidden → ℕ → Hidden
counted_out h x = record { ir = h.ir; ma = h.ma; md = h.md; a = h.a; c = x; n = 0; con = h.con }

-- h after a load or a store at the address x, made from the base b, with y in MD
abbrev pub transferred : Hidden → ℕ → ℕ → ℕ → Hidden
transferred h b x y = record { ir = h.ir; ma = x; md = y; a = b; c = x; n = h.n; con = h.con }

-- what the address of the word w is made from
abbrev pub based : Mode → ℕ → Visible → ℕ
based displaced w v = cond (rb_of w == 0) 0 (register v (rb_of w))
based relative w v = v.pc

-- what MD has after a load: the word, or where it cannot be read what it had
abbrev pub loaded : Access → ℕ → ℕ → ℕ
loaded fit x old = x
loaded (unfit e) x old = old

-- the hidden registers after the operation of the word w, from what the fetch left in them; the program counter of v is raised
unfoldable pub hidden_by : Op → ℕ → Hidden → Visible → Hidden
hidden_by nop w h v = h
hidden_by stop w h v = h
hidden_by br w h v = with_con h (taken w v)
hidden_by brl w h v = with_con (with_c h v.pc) (taken w v)
hidden_by unassigned w h v = h
hidden_by (transfer Load m) w h v =
    transferred h (based m w v) (address m w v) (loaded (access (address m w v) (length v.words)) (word_at v (address m w v)) h.md)
hidden_by (transfer Store m) w h v = transferred h (based m w v) (address m w v) (register v (ra_of w))
hidden_by (transfer Address m) w h v = with_a_c h (based m w v) (address m w v)
hidden_by (binary f) w h v = with_a_c h (register v (rb_of w)) (binary_result f (register v (rb_of w)) (register v (rc_of w)))
hidden_by (immediate f) w h v = with_a_c h (register v (rb_of w)) (binary_result (binary_of f) (register v (rb_of w)) (word_of (c2_of w)))
hidden_by (unary f) w h v = with_c h (unary_result f (register v (rc_of w)))
hidden_by (shift f) w h v = counted_out h (shifted f (places w v) (register v (rb_of w)))

-- the hidden registers after the fetch of w, and after a fetch that faults
abbrev pub fetched_hidden : ℕ → Core → Hidden
fetched_hidden w s = record { ir = w; ma = s.pc; md = w; a = s.a; c = plus s.pc 4; n = s.n; con = s.con }

abbrev pub unfetched_hidden : Core → Hidden
unfetched_hidden s = record { ir = s.ir; ma = s.pc; md = s.md; a = s.a; c = plus s.pc 4; n = s.n; con = s.con }

abbrev pub hidden_after : Access → Core → Visible → Hidden
hidden_after fit s v = hidden_by (decoded_op (fetched v)) (fetched v) (fetched_hidden (fetched v) s) (raised v)
hidden_after (unfit e) s v = unfetched_hidden s

-- what the book says of an instruction, with the hidden registers that the core has then
abbrev pub joined : After → Hidden → Outcome
joined (next stops v) h = done stops (core_of v h) v.words
joined (fault e a v) h = failed e a (core_of v h) v.words

-- the whole core and the words after one instruction
unfoldable pub after_instruction : Core → List ℕ → Outcome
after_instruction s ws =
    joined (instruction (visible s ws)) (hidden_after (access s.pc (length ws)) s (visible s ws))
