-- The one-bus core: its registers, and one control step under any control store. Assumes nothing.
use Rattle.std.specs.Prelude.{ℕ, suc, ◌+◌, ◌*◌, ◌/◌, ◌%◌, Bool, true, false, cond, not, ◌||◌, List, length, ◌==◌, nat_lt, slice_index, slice_set}
use Rattle.isa.specs.declared.operation.Binary.TheVariants as on_two
use Rattle.isa.specs.declared.operation.Unary.TheVariants as on_one
use Rattle.isa.specs.declared.operation.Shift.TheVariants as by_places
use Rattle.isa.specs.Fields.{op_of, ra_of, rb_of, rc_of, c1_of, c2_of, when_of, word_of}
use Rattle.isa.specs.Arithmetic.{plus, binary_result, unary_result, shifted_once, condition}
use Rattle.isa.specs.Book.{Cause, Access, access}
use Rattle.isa.specs.Book.Cause.{unassigned_op}
use Rattle.isa.specs.Book.Access.{fit, unfit}
use Rattle.rows.specs.declared.signal.Signal.TheVariants.{PcOut, MdOut, COut, ROut, BaOut, C1Out, C2Out, MaIn, MdIn, IrIn, PcIn, ConPcIn, AIn, CIn, RIn, ConIn, Ld, Gra, Grb, Grc, Add, Sub, And, Or, Neg, Not, CIsB, Inc4, Shr, Shra, Shl, Shc, Read, Write, Wait, Decr, Goto6, Stop, End, NIsZero, NIsNotZero}
use Rattle.rows.specs.Signals.{gives}

-- the registers of the core: PC, R0 to R31, IR, MA, MD, A, C, the count n of five bits, the condition CON and the step T
pub record Core : Type 0 where
  pub pc : ℕ
  pub regs : List ℕ
  pub ir : ℕ
  pub ma : ℕ
  pub md : ℕ
  pub a : ℕ
  pub c : ℕ
  pub n : ℕ
  pub con : Bool
  pub t : ℕ

-- after a step, the core and the memory's words: within an instruction; at its end, and whether it stops; or at a fault, with cause and address
pub data Outcome : Type 0 where
  more : Core → List ℕ → Outcome
  done : Bool → Core → List ℕ → Outcome
  failed : Cause → ℕ → Core → List ℕ → Outcome

-- the number of the register that the control word w selects by the instruction register: R0 where it selects none
abbrev pub selected : ℕ → ℕ → ℕ
selected w ir = cond (gives w Gra) (ra_of ir) (cond (gives w Grb) (rb_of ir) (cond (gives w Grc) (rc_of ir) 0))

-- what the register of that number gives, and what it gives as a base: 0 for R0
abbrev pub chosen : ℕ → Core → ℕ
chosen w s = slice_index s.regs (selected w s.ir)

abbrev pub chosen_base : ℕ → Core → ℕ
chosen_base w s = cond (selected w s.ir == 0) 0 (chosen w s)

-- what IR puts on the bus: a register that it selects, or a constant
abbrev pub from_instruction : ℕ → Core → ℕ
from_instruction w s =
    cond (gives w ROut) (chosen w s) (cond (gives w BaOut) (chosen_base w s)
    (cond (gives w C1Out) (word_of (c1_of s.ir)) (cond (gives w C2Out) (word_of (c2_of s.ir)) 0)))

-- the bus: 0 where no gate drives it
abbrev pub bus : ℕ → Core → ℕ
bus w s = cond (gives w PcOut) s.pc (cond (gives w MdOut) s.md (cond (gives w COut) s.c (from_instruction w s)))

-- the ALU's shifts, by one place
abbrev pub shifter : ℕ → ℕ → ℕ
shifter w y =
    cond (gives w Shr) (shifted_once by_places.Shr y) (cond (gives w Shra) (shifted_once by_places.Shra y)
    (cond (gives w Shl) (shifted_once by_places.Shl y) (cond (gives w Shc) (shifted_once by_places.Shc y) 0)))

-- the ALU's result from A and the bus: 0 where it has no function
abbrev pub alu : ℕ → ℕ → ℕ → ℕ
alu w x y =
    cond (gives w Add) (binary_result on_two.Add x y) (cond (gives w Sub) (binary_result on_two.Sub x y)
    (cond (gives w And) (binary_result on_two.And x y) (cond (gives w Or) (binary_result on_two.Or x y)
    (cond (gives w Neg) (unary_result on_one.Neg y) (cond (gives w Not) (unary_result on_one.Not y)
    (cond (gives w CIsB) y (cond (gives w Inc4) (plus y 4) (shifter w y))))))))

-- the next step: T goes up by one, and has no value above 7
abbrev pub up : ℕ → ℕ
up t = cond (nat_lt t 7) (suc t) 7

-- what MD has after a read, and the words after a write: the word at MA is number MA / 4
abbrev pub held : ℕ → Core → List ℕ → ℕ
held w s ws = cond (gives w Read) (slice_index ws (s.ma / 4)) s.md

abbrev pub written : ℕ → Core → List ℕ → List ℕ
written w s ws = cond (gives w Write) (slice_set ws (s.ma / 4) s.md) ws

-- the core after a step whose bus has v and whose read, if any, leaves d for MD: every right side is read in s
abbrev pub stored : ℕ → ℕ → ℕ → Core → Core
stored w v d s = record {
  pc = cond (gives w PcIn) v (cond (gives w ConPcIn) (cond s.con v s.pc) s.pc);
  regs = cond (gives w RIn) (slice_set s.regs (selected w s.ir) v) s.regs;
  ir = cond (gives w IrIn) v s.ir;
  ma = cond (gives w MaIn) v s.ma;
  md = cond (gives w MdIn) v d;
  a = cond (gives w AIn) v s.a;
  c = cond (gives w CIn) (alu w s.a v) s.c;
  n = cond (gives w Ld) (v % 32) (cond (gives w Decr) ((s.n + 31) % 32) s.n);
  con = cond (gives w ConIn) (condition (when_of s.ir) v) s.con;
  t = cond (gives w Goto6) 6 (cond (gives w End) 0 (up s.t));
}

-- only the step changes
abbrev pub at_step : Core → ℕ → Core
at_step s t = record {
  pc = s.pc;
  regs = s.regs;
  ir = s.ir;
  ma = s.ma;
  md = s.md;
  a = s.a;
  c = s.c;
  n = s.n;
  con = s.con;
  t = t;
}

-- is the condition of the control word on n met?
abbrev pub met : ℕ → ℕ → Bool
met w n = cond (gives w NIsZero) (n == 0) (cond (gives w NIsNotZero) (not (n == 0)) true)

-- does the control word read or write a word?
abbrev pub touches : ℕ → Bool
touches w = gives w Read || gives w Write

abbrev pub closed : Bool → Bool → Core → List ℕ → Outcome
closed true stops s ws = done stops s ws
closed false stops s ws = more s ws

-- the step itself
abbrev pub carried_out : ℕ → Core → List ℕ → Outcome
carried_out w s ws = closed (gives w End) (gives w Stop) (stored w (bus w s) (held w s ws) s) (written w s ws)

-- a fault changes nothing of the core but T, which becomes 0; its address is in MA, the instruction's too until T5
abbrev pub refused : Cause → Core → List ℕ → Outcome
refused e s ws = failed e s.ma (at_step s 0) ws

abbrev pub allowed : Access → Core → List ℕ → Outcome → Outcome
allowed fit s ws o = o
allowed (unfit e) s ws o = refused e s ws

abbrev pub addressed : Bool → ℕ → Core → List ℕ → Outcome
addressed true w s ws = allowed (access s.ma (length ws)) s ws (carried_out w s ws)
addressed false w s ws = carried_out w s ws

-- a step whose condition fails only raises T
abbrev pub conditional : Bool → ℕ → Core → List ℕ → Outcome
conditional true w s ws = addressed (touches w) w s ws
conditional false w s ws = more (at_step s (up s.t)) ws

abbrev pub assigned : Bool → ℕ → Core → List ℕ → Outcome
assigned true w s ws = refused unassigned_op s ws
assigned false w s ws = conditional (met w s.n) w s ws

-- has the operation no row? its control word in T3 is empty
abbrev pub rowless : ℕ → ℕ → Bool
rowless w t = cond (w == 0) (t == 3) false

-- one step under the control word w
abbrev pub execute : ℕ → Core → List ℕ → Outcome
execute w s ws = assigned (rowless w s.t) w s ws

-- the control word of the operation in IR at the step T
abbrev pub control_at : List ℕ → Core → ℕ
control_at store s = slice_index store (op_of s.ir * 8 + s.t)

-- one step under a control store
abbrev pub micro : List ℕ → Core → List ℕ → Outcome
micro store s ws = execute (control_at store s) s ws

-- is the step at hand a Wait step?
abbrev pub waits : List ℕ → Core → Bool
waits store s = cond (gives (control_at store s) Wait) (met (control_at store s) s.n) false

abbrev pub and_then : Outcome → (Core → List ℕ → Outcome) → Outcome
and_then (more s ws) f = f s ws
and_then (done stops s ws) f = done stops s ws
and_then (failed e a s ws) f = failed e a s ws

-- the first j steps of an instruction
unfoldable pub steps : List ℕ → ℕ → Core → List ℕ → Outcome
steps store ℕ.zero s ws = more s ws
steps store (ℕ.suc j) s ws = and_then (micro store s ws) (steps store j)
