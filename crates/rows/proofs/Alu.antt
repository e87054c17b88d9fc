-- The operations that need no address and no shift: each row does what the book says. Assumes nothing.
use Rattle.std.proofs.Common.{◌≡◌, ℕ, suc, List, [], ◌∷◌, get_or, refl}
use Rattle.isa.specs.declared.operation.Binary.{Binary}
use Rattle.isa.specs.declared.operation.Binary.TheVariants as on_two
use Rattle.isa.specs.declared.operation.Immediate.{Immediate}
use Rattle.isa.specs.declared.operation.Immediate.TheVariants.{Addi, Andi, Ori}
use Rattle.isa.specs.declared.operation.Unary.{Unary}
use Rattle.isa.specs.declared.operation.Unary.TheVariants as on_one
use Rattle.isa.specs.Fields.{rb_of, rc_of, c2_of, word_of}
use Rattle.isa.specs.Operations.{Op, binary_of}
use Rattle.isa.specs.Operations.Op.{nop, stop, br, brl, unassigned, binary, immediate, unary}
use Rattle.isa.specs.Arithmetic.{binary_result, unary_result}
use Rattle.isa.specs.Book.{perform, taken}
use Rattle.isa.specs.Clocks.{op_clocks}
use Rattle.rows.specs.declared.signal.Signal.TheVariants.{Grc, ROut, CIn, C2Out}
use Rattle.rows.specs.Signals.{encode}
use Rattle.rows.specs.Rows.{binary_signal, unary_signal}
use Rattle.rows.specs.Core.{Core, Outcome, up, at_step, execute}
use Rattle.rows.specs.Core.Outcome.{more}
use Rattle.rows.specs.After.{Hidden, visible, hidden_by, joined}
use Rattle.rows.proofs.Runs.{Row}
use Rattle.rows.proofs.Runs.Row.{end, then}

abbrev pub hidden_of : Core → Hidden
hidden_of s = record { ir = s.ir; ma = s.ma; md = s.md; a = s.a; c = s.c; n = s.n; con = s.con }

-- s with the ALU's result in C, at the next step
abbrev pub with_result : Core → ℕ → Core
with_result s x = record {
  pc = s.pc;
  regs = s.regs;
  ir = s.ir;
  ma = s.ma;
  md = s.md;
  a = s.a;
  c = x;
  n = s.n;
  con = s.con;
  t = up s.t;
}

-- s at T4, with R[rb] in A
abbrev pub with_operand : Core → Core
with_operand s = record {
  pc = s.pc;
  regs = s.regs;
  ir = s.ir;
  ma = s.ma;
  md = s.md;
  a = get_or s.regs (rb_of s.ir) 0;
  c = s.c;
  n = s.n;
  con = s.con;
  t = 4;
}

-- from T3 on, the row of o takes the book's clocks and ends as the book says, with the hidden registers as defined
pub record Does (o : Op) (s : Core) (ws : List ℕ) : Type 0 where
  pub m : ℕ
  pub r : Outcome
  pub row : Row o s.regs s.ir ws 3 (at_step s 3) m r
  pub ends : r ≡ joined (perform o s.ir s.ma (visible s ws)) (hidden_by o s.ir (hidden_of s) (visible s ws))
  pub time : op_clocks o s.ir (visible s ws) ≡ suc (suc (suc m))

-- the step in which the ALU works, over each of its operations
binary_rc : (f : Binary) (s : Core) (ws : List ℕ) → execute (encode (Grc ∷ ROut ∷ binary_signal f ∷ CIn ∷ [])) s ws ≡ more (with_result s (binary_result f s.a (get_or s.regs (rc_of s.ir) 0))) ws
binary_rc on_two.Add s ws = refl
binary_rc on_two.Sub s ws = refl
binary_rc on_two.And s ws = refl
binary_rc on_two.Or s ws = refl

binary_c2 : (f : Immediate) (s : Core) (ws : List ℕ) → execute (encode (C2Out ∷ binary_signal (binary_of f) ∷ CIn ∷ [])) s ws ≡ more (with_result s (binary_result (binary_of f) s.a (word_of (c2_of s.ir)))) ws
binary_c2 Addi s ws = refl
binary_c2 Andi s ws = refl
binary_c2 Ori s ws = refl

unary_rc : (f : Unary) (s : Core) (ws : List ℕ) → execute (encode (Grc ∷ ROut ∷ unary_signal f ∷ CIn ∷ [])) s ws ≡ more (with_result s (unary_result f (get_or s.regs (rc_of s.ir) 0))) ws
unary_rc on_one.Neg s ws = refl
unary_rc on_one.Not s ws = refl

pub does_binary : (f : Binary) (s : Core) (ws : List ℕ) → Does (binary f) s ws
unfolding perform op_clocks hidden_by
does_binary f s ws = record {
  m = 3;
  r = _;
  row = then _ (tt, refl, refl, refl) refl (then _ (tt, refl, refl, refl) (binary_rc f (with_operand s) ws) (end (tt, refl, refl, refl) refl));
  ends = refl;
  time = refl;
}

pub does_immediate : (f : Immediate) (s : Core) (ws : List ℕ) → Does (immediate f) s ws
unfolding perform op_clocks hidden_by
does_immediate f s ws = record {
  m = 3;
  r = _;
  row = then _ (tt, refl, refl, refl) refl (then _ (tt, refl, refl, refl) (binary_c2 f (with_operand s) ws) (end (tt, refl, refl, refl) refl));
  ends = refl;
  time = refl;
}

pub does_unary : (f : Unary) (s : Core) (ws : List ℕ) → Does (unary f) s ws
unfolding perform op_clocks hidden_by
does_unary f s ws = record {
  m = 2;
  r = _;
  row = then _ (tt, refl, refl, refl) (unary_rc f (at_step s 3) ws) (end (tt, refl, refl, refl) refl);
  ends = refl;
  time = refl;
}

pub does_nop : (s : Core) (ws : List ℕ) → Does nop s ws
unfolding perform op_clocks hidden_by
does_nop s ws = record { m = 1; r = _; row = end (tt, refl, refl, refl) refl; ends = refl; time = refl }

pub does_stop : (s : Core) (ws : List ℕ) → Does stop s ws
unfolding perform op_clocks hidden_by
does_stop s ws = record { m = 1; r = _; row = end (tt, refl, refl, refl) refl; ends = refl; time = refl }

pub does_unassigned : (s : Core) (ws : List ℕ) → Does unassigned s ws
unfolding perform op_clocks hidden_by
does_unassigned s ws = record { m = 1; r = _; row = end (tt, refl, refl, refl) refl; ends = refl; time = refl }

pub does_br : (s : Core) (ws : List ℕ) → Does br s ws
unfolding perform op_clocks hidden_by taken
does_br s ws = record {
  m = 2;
  r = _;
  row = then _ (tt, refl, refl, refl) refl (end (tt, refl, refl, refl) refl);
  ends = refl;
  time = refl;
}

pub does_brl : (s : Core) (ws : List ℕ) → Does brl s ws
unfolding perform op_clocks hidden_by taken
does_brl s ws = record {
  m = 4;
  r = _;
  row = then _ (tt, refl, refl, refl) refl
      (then _ (tt, refl, refl, refl) refl (then _ (tt, refl, refl, refl) refl (end (tt, refl, refl, refl) refl)));
  ends = refl;
  time = refl;
}
