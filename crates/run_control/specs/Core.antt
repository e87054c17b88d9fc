-- A core, as facts: what a clock of it does, and that its instructions are the book's. Assumes nothing.
use Rattle.std.specs.Prelude.{◌≡◌, ℕ, suc, ◌+◌, ◌^◌, ◌<◌, ◌≤◌, Bool, cond, List, replicate, ◌≢◌, slice_index, slice_set}
use Rattle.isa.specs.Book.{Visible, Cause, After, instruction}
use Rattle.isa.specs.Book.After.{next, fault}
use Rattle.rows.specs.Runs.{Fits}

-- after a clock of a core: within an instruction, or at the end of one (does it stop the machine?), with the core and the words then; or a fault with its cause and address
pub data Outcome (P : Type 0) : Type 0 where
  more : P → List ℕ → Outcome P
  done : Bool → P → List ℕ → Outcome P
  failed : Cause → ℕ → Outcome P

-- R0 to R31, all zero
abbrev pub zeros : List ℕ
zeros = replicate 32 0

-- a core, with what run control and the book ask of it
pub record Core : Type 1 where
  -- all that the core holds
  pub P : Type 0
  -- one step, over the memory's words
  pub step : P → List ℕ → Outcome P
  -- the program counter, R0 to R31, and the step T
  pub pc : P → ℕ
  pub regs : P → List ℕ
  pub time : P → ℕ
  -- is the step at hand a Wait step, and at which address does it use the memory?
  pub waits : P → Bool
  pub address : P → ℕ
  -- from where the instruction under way was fetched, at a step that faults
  pub origin : P → ℕ
  -- all zero
  pub fresh : P
  -- T zeroed; PC and T; PC, T and R0 to R31
  pub rewound : P → P
  pub restarted : P → P
  pub cleared : P → P
  -- the register i set to x
  pub with_register : P → ℕ → ℕ → P
  -- the clocks of the instruction that the book does next, where no access waits, and how many of its first clocks are Wait steps
  pub clocks : Visible → ℕ
  pub accesses : Visible → ℕ → ℕ

-- a step after one that is within the instruction
abbrev pub and_then : {P : Type 0} → Outcome P → (P → List ℕ → Outcome P) → Outcome P
and_then (more p ws) f = f p ws
and_then (done z p ws) f = done z p ws
and_then (failed c a) f = failed c a

-- every word has 32 bits
abbrev pub Small : List ℕ → Type 0
Small ws = (i : ℕ) → slice_index ws i < 2 ^ 32

module _ (k : Core) where
  -- what a program sees of the core and the words
  abbrev pub seen : k.P → List ℕ → Visible
  seen p ws = record { pc = k.pc p; regs = k.regs p; words = ws }

  -- the first j steps of an instruction
  abbrev pub steps : ℕ → k.P → List ℕ → Outcome k.P
  steps ℕ.zero p ws = more p ws
  steps (ℕ.suc j) p ws = and_then (steps j p ws) k.step

  -- within an instruction, with the registers and the words of v
  abbrev pub Quiet : Visible → Outcome k.P → Type 0
  Quiet v (more p ws) = (k.regs p ≡ v.regs) × (ws ≡ v.words)
  Quiet v (done z p ws) = ⊥
  Quiet v (failed c a) = ⊥

  -- the outcome is the book's
  abbrev pub Same : Outcome k.P → After → Type 0
  Same (more p ws) r = ⊥
  Same (done z p ws) (next z' v) = (z ≡ z') × (seen p ws ≡ v) × (k.time p ≡ 0)
  Same (done z p ws) (fault c a v) = ⊥
  Same (failed c a) (next z v) = ⊥
  Same (failed c a) (fault c' a' v) = (c ≡ c') × (a ≡ a')

  -- the core q with the words us is j steps into the instruction that began in p with ws
  abbrev pub Reached : k.P → List ℕ → ℕ → k.P → List ℕ → Type 0
  Reached p ws j q us = (j < k.clocks (seen p ws)) × (steps j p ws ≡ more q us)

  -- an instruction that begins in p with the words ws is the book's, with its clocks and its accesses
  pub record Refined (p : k.P) (ws : List ℕ) : Type 0 where
    pub before : (j : ℕ) → j < k.clocks (seen p ws) → Quiet (seen p ws) (steps j p ws)
    pub after : Same (steps (k.clocks (seen p ws)) p ws) (instruction (seen p ws))
    -- a Wait step counts as an access, and the accesses so far go by the step T
    pub counted : (j : ℕ) (q : k.P) (us : List ℕ) → Reached p ws j q us → k.accesses (seen p ws) j + cond (k.waits q) 1 0 ≤ k.accesses (seen p ws) (suc j)
    pub by_time : (j : ℕ) (q : k.P) (us : List ℕ) → Reached p ws j q us → k.accesses (seen p ws) (suc j) ≤ k.accesses (seen p ws) (suc (k.time q))
    pub fetched_at : (j : ℕ) (q : k.P) (us : List ℕ) (c : Cause) (a : ℕ) → Reached p ws j q us → k.step q us ≡ failed c a → k.origin q ≡ k.pc p

  -- what is owed of a core
  pub record CoreFacts : Type 0 where
    pub refined : (p : k.P) (ws : List ℕ) → k.time p ≡ 0 → Fits (seen p ws) → Refined p ws
    -- a step within an instruction does not lead to T 0
    pub moves : (p q : k.P) (ws us : List ℕ) → k.step p ws ≡ more q us → k.time q ≢ 0
    pub fresh : (k.pc k.fresh ≡ 0) × (k.regs k.fresh ≡ zeros) × (k.time k.fresh ≡ 0)
    pub rewound : (p : k.P) → (k.pc (k.rewound p) ≡ k.pc p) × (k.regs (k.rewound p) ≡ k.regs p) × (k.time (k.rewound p) ≡ 0)
    pub restarted : (p : k.P) → (k.pc (k.restarted p) ≡ 0) × (k.regs (k.restarted p) ≡ k.regs p) × (k.time (k.restarted p) ≡ 0)
    pub cleared : (p : k.P) → (k.pc (k.cleared p) ≡ 0) × (k.regs (k.cleared p) ≡ zeros) × (k.time (k.cleared p) ≡ 0)
    pub with_register : (p : k.P) (i x : ℕ) → (k.pc (k.with_register p i x) ≡ k.pc p) × (k.regs (k.with_register p i x) ≡ slice_set (k.regs p) i x) × (k.time (k.with_register p i x) ≡ k.time p)
