-- Runs of real programs, from a machine newly set up. Assumes nothing.
use Rattle.std.specs.Prelude.{◌≡◌, ℕ, Bool, true, false, List, [], ◌∷◌, slice_index}
use Rattle.onebus.specs.declared.fault.Cause.TheVariants.{NoWord}
use Rattle.rows.specs.Core as bus
use Rattle.run_control.specs.declared.calls.Call.{Call}
use Rattle.run_control.specs.declared.calls.Call.TheVariants.{Start, Reset, Clock}
use Rattle.run_control.specs.declared.calls.Answer.{Answer}
use Rattle.run_control.specs.declared.calls.Answer.TheVariants.{Done, Spent, Faulted}
use Rattle.run_control.specs.declared.calls.Turn.{Turn}
use Rattle.run_control.specs.State.{State, Delays}
use Rattle.run_control.specs.Whole.{Comes}
use Rattle.run_control.specs.OneBus.{one_bus}

-- a memory whose every word waits d clocks
abbrev pub steady : ℕ → Unit {0} → Delays
steady d u n = d

-- a call with its answer
abbrev pub turn_of : Call → Answer → Turn
turn_of c a = record { call = c; answer = a }

-- of a machine: R1, the counts, and whether it runs
pub record Shown : Type 0 where
  pub r1 : ℕ
  pub clocks : ℕ
  pub waits : ℕ
  pub finished : ℕ
  pub run : Bool

-- what a machine shows
abbrev pub shown : State bus.Core → Shown
shown s = record { r1 = slice_index s.core.regs 1; clocks = s.clocks; waits = s.waits; finished = s.finished; run = s.run }

-- over the words ws that wait d clocks, the calls and answers ps lead to such a machine
pub record LeadsTo (ws : List ℕ) (d : ℕ) (ps : List Turn) (is : Shown) : Type 0 where
  pub end : State bus.Core
  pub comes : Comes one_bus (steady d) ws tt ps end
  pub shows : shown end ≡ is

-- la r1, 5 and stop
abbrev pub two_words : List ℕ
two_words = 0x28400005 ∷ 0xF8000000 ∷ []

-- nop
abbrev pub one_nop : List ℕ
one_nop = 0 ∷ []

-- a start, and then ps
abbrev pub started_and : List Turn → List Turn
started_and ps = turn_of Start Done ∷ ps

-- word number 1 of a memory of one word, at address 4, in the fetch of the instruction at 4
abbrev pub past_the_end : Answer
past_the_end = Faulted (record { core = record { cause = NoWord (record { number = 1; size = 1 }); address = 4; step = 1 }; instruction = 4; spent = 6; finished = 1 })

-- the runs, with their values
pub record WorkedRuns : Type 0 where
  pub ten : LeadsTo two_words 0 (started_and (turn_of (Clock 10) (Spent 10 2) ∷ [])) (record { r1 = 5; clocks = 10; waits = 0; finished = 2; run = false })
  pub more_wanted : LeadsTo two_words 0 (started_and (turn_of (Clock 1000) (Spent 10 2) ∷ [])) (record { r1 = 5; clocks = 10; waits = 0; finished = 2; run = false })
  pub nine : LeadsTo two_words 0 (started_and (turn_of (Clock 9) (Spent 9 1) ∷ [])) (record { r1 = 5; clocks = 9; waits = 0; finished = 1; run = true })
  pub slow : LeadsTo two_words 3 (started_and (turn_of (Clock 16) (Spent 16 2) ∷ [])) (record { r1 = 5; clocks = 16; waits = 6; finished = 2; run = false })
  -- a reset after five clocks finds the first instruction unfinished, after six finished
  pub reset_at_five : LeadsTo two_words 0 (started_and (turn_of (Clock 5) (Spent 5 0) ∷ turn_of Reset Done ∷ turn_of (Clock 1) (Spent 1 0) ∷ [])) (record { r1 = 0; clocks = 0; waits = 0; finished = 0; run = true })
  pub reset_at_six : LeadsTo two_words 0 (started_and (turn_of (Clock 6) (Spent 6 1) ∷ turn_of Reset Done ∷ turn_of (Clock 1) (Spent 1 0) ∷ [])) (record { r1 = 5; clocks = 0; waits = 0; finished = 0; run = true })
  pub faulting : LeadsTo one_nop 0 (started_and (turn_of (Clock 100) past_the_end ∷ [])) (record { r1 = 0; clocks = 6; waits = 0; finished = 1; run = false })
