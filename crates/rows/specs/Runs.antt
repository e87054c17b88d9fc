-- Whole runs: so many instructions of the book, and the core's steps for them. Assumes nothing.
use Rattle.std.specs.Prelude.{◌≡◌, ℕ, ◌+◌, ◌^◌, ◌<◌, Bool, true, false, List, slice_index}
use Rattle.isa.specs.Book.{Visible, After, register, instruction}
use Rattle.isa.specs.Book.After.{next, fault}
use Rattle.isa.specs.Clocks.{clocks}
use Rattle.rows.specs.Rows.{table}
use Rattle.rows.specs.Core.{Core, Outcome, micro, and_then}
use Rattle.rows.specs.Core.Outcome.{more, done, failed}
use Rattle.rows.specs.After.{visible}

-- all numbers fit 32 bits
pub record Fits (v : Visible) : Type 0 where
  pub small : (i : ℕ) → register v i < 2 ^ 32
  pub held : (i : ℕ) → slice_index v.words i < 2 ^ 32
  pub at : v.pc < 2 ^ 32

-- after an instruction the next one, unless it stopped the machine or faulted
abbrev pub going : Bool → Visible → (Visible → After) → After
going true v f = next true v
going false v f = f v

abbrev pub onward : After → (Visible → After) → After
onward (next stops v) f = going stops v f
onward (fault e a v) f = fault e a v

-- k instructions of the book, or as many as come before a stop or a fault
unfoldable pub instructions : ℕ → Visible → After
instructions ℕ.zero v = next false v
instructions (ℕ.suc k) v = onward (instruction v) (instructions k)

abbrev pub still : Bool → Visible → (Visible → ℕ) → ℕ
still true v f = 0
still false v f = f v

abbrev pub later : After → (Visible → ℕ) → ℕ
later (next stops v) f = still stops v f
later (fault e a v) f = 0

-- the sum of their clocks
unfoldable pub sum_of_clocks : ℕ → Visible → ℕ
sum_of_clocks ℕ.zero v = 0
sum_of_clocks (ℕ.suc k) v = later (instruction v) (sum_of_clocks k) + clocks v

-- at the end of an instruction the core goes on, unless it stops
abbrev pub on : Outcome → Outcome
on (more s ws) = more s ws
on (done true s ws) = done true s ws
on (done false s ws) = more s ws
on (failed e a s ws) = failed e a s ws

-- j steps of the core, from one instruction to the next
unfoldable pub run_steps : List ℕ → ℕ → Core → List ℕ → Outcome
run_steps store ℕ.zero s ws = more s ws
run_steps store (ℕ.suc j) s ws = and_then (on (micro store s ws)) (run_steps store j)

-- the core is where the book is, at the start of an instruction
abbrev pub Alike : Outcome → After → Type 0
Alike (more s ws) (next stops v) = (stops ≡ false) × (visible s ws ≡ v) × (s.t ≡ 0)
Alike (more s ws) (fault e a v) = ⊥
Alike (done stops s ws) (next stops' v) = (stops ≡ stops') × (visible s ws ≡ v) × (s.t ≡ 0)
Alike (done stops s ws) (fault e a v) = ⊥
Alike (failed e a s ws) (next stops v) = ⊥
Alike (failed e a s ws) (fault e' a' v) = (e ≡ e') × (a ≡ a') × (visible s ws ≡ v) × (s.t ≡ 0)

-- k instructions of the book are exactly the sum of their clocks in steps of the core
abbrev pub RunsAlike : Type 0
RunsAlike =
    (k : ℕ) (s : Core) (ws : List ℕ) → Fits (visible s ws) → s.t ≡ 0 →
    Alike (run_steps table (sum_of_clocks k (visible s ws)) s ws) (instructions k (visible s ws))
