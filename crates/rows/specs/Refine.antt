-- What is proved: under our control store the steps of one instruction do what the book says. Assumes nothing.
use Rattle.std.specs.Prelude.{◌≡◌, ℕ, suc, ◌+◌, ◌^◌, ◌<◌, ◌≤◌, Bool, cond, List, slice_index}
use Rattle.isa.specs.Book.{Visible, After, instruction}
use Rattle.isa.specs.Book.After.{next, fault}
use Rattle.isa.specs.Clocks.{clocks, accesses}
use Rattle.rows.specs.Rows.{table}
use Rattle.rows.specs.Core.{Core, Outcome, micro, waits, steps}
use Rattle.rows.specs.Core.Outcome.{more, done, failed}
use Rattle.rows.specs.After.{visible, after_instruction}

-- at the start of an instruction, the numbers in the registers fitting 32 bits; all else is open
pub record Ready (s : Core) : Type 0 where
  pub start : s.t ≡ 0
  pub small : (i : ℕ) → slice_index s.regs i < 2 ^ 32

-- after j steps of the instruction that began with v, and before its end: no register and no word has changed,
-- T is one of the eight steps and not 0 again, and the next step is a Wait step exactly where an access is counted
pub record Amid (v : Visible) (j : ℕ) (s : Core) (ws : List ℕ) : Type 0 where
  pub registers : s.regs ≡ v.regs
  pub kept : ws ≡ v.words
  pub below : s.t < 8
  pub begun : s.t ≡ 0 → j ≡ 0
  pub counted : accesses v j + cond (waits table s) 1 0 ≡ accesses v (suc j)

-- the outcome is within the instruction: no step has carried End, and none has faulted
abbrev pub Within : Visible → ℕ → Outcome → Type 0
Within v j (more s ws) = Amid v j s ws
Within v j (done stops s ws) = ⊥
Within v j (failed e a s ws) = ⊥

-- the outcome is the book's: equal registers, words and program counter, and whether it stops; or equal cause and address
abbrev pub Same : Outcome → After → Type 0
Same (more s ws) r = ⊥
Same (done stops s ws) (next stops' v) = (stops ≡ stops') × (visible s ws ≡ v) × (s.t ≡ 0)
Same (done stops s ws) (fault e a v) = ⊥
Same (failed e a s ws) (next stops v) = ⊥
Same (failed e a s ws) (fault e' a' v) = (e ≡ e') × (a ≡ a') × (visible s ws ≡ v) × (s.t ≡ 0)

-- one instruction takes exactly the book's clocks, ends as the book's does, and leaves the whole core as defined
pub record Refined (s : Core) (ws : List ℕ) : Type 0 where
  pub before : (j : ℕ) → j < clocks (visible s ws) → Within (visible s ws) j (steps table j s ws)
  pub after : Same (steps table (clocks (visible s ws)) s ws) (instruction (visible s ws))
  pub whole : steps table (clocks (visible s ws)) s ws ≡ after_instruction s ws

abbrev pub Refines : Type 0
Refines = (s : Core) (ws : List ℕ) → Ready s → Refined s ws

-- an instruction that finishes takes from low to high clocks
abbrev pub FinishesWithin : ℕ → ℕ → Type 0
FinishesWithin low high =
    (v v' : Visible) (stops : Bool) → instruction v ≡ next stops v' → (low ≤ clocks v) × (clocks v ≤ high)

-- under any control store a step that neither ends the instruction nor faults leads to one of T1 to T7
abbrev pub MovesOn : Type 0
MovesOn =
    (store : List ℕ) (s : Core) (ws : List ℕ) (s' : Core) (ws' : List ℕ) →
    micro store s ws ≡ more s' ws' → (0 < s'.t) × (s'.t < 8)
