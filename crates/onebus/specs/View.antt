-- How a core is seen, and what setting it does. Assumes nothing.
use Rattle.std.specs.Prelude.{◌≡◌, ℕ, ◌^◌, ◌<◌, false, List, length, replicate, slice_index, slice_set}
use Rattle.rows.specs.Core as model
use Rattle.onebus.specs.declared.register_set.Core.TheInside.{Inside}

-- the core of the definitions that has the registers of the code
abbrev pub seen : Inside → model.Core
seen k = record {
  pc = k.pc;
  regs = k.regs;
  ir = k.ir;
  ma = k.ma;
  md = k.md;
  a = k.a;
  c = k.c;
  n = k.n;
  con = k.con;
  t = k.t;
}

-- what every core meets: the count n has five bits, the step three, and each of the 32 registers 32
pub record Fits (k : model.Core) : Type 0 where
  pub count : k.n < 32
  pub step : k.t < 8
  pub many : length k.regs ≡ 32
  pub small : (i : ℕ) → slice_index k.regs i < 2 ^ 32

-- all registers 0
abbrev pub zeroed : model.Core
zeroed = record { pc = 0; regs = replicate 32 0; ir = 0; ma = 0; md = 0; a = 0; c = 0; n = 0; con = false; t = 0 }

-- k with other registers R0 to R31, another program counter and another step
abbrev pub changed : model.Core → ℕ → List ℕ → ℕ → model.Core
changed k p rs t = record {
  pc = p;
  regs = rs;
  ir = k.ir;
  ma = k.ma;
  md = k.md;
  a = k.a;
  c = k.c;
  n = k.n;
  con = k.con;
  t = t;
}

-- with R0 to R31 zeroed; with PC and T zeroed; with all of them zeroed; and with another value in register i
abbrev pub cleared : model.Core → model.Core
cleared k = changed k k.pc (replicate 32 0) k.t

abbrev pub restarted : model.Core → model.Core
restarted k = changed k 0 k.regs 0

abbrev pub started : model.Core → model.Core
started k = changed k 0 (replicate 32 0) 0

abbrev pub with_register : model.Core → ℕ → ℕ → model.Core
with_register k i x = changed k k.pc (slice_set k.regs i x) k.t
