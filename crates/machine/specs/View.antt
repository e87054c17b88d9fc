-- A machine over any memory, as run control around the one-bus core has it. Assumes nothing.
use Rattle.std.specs.Prelude.{List}
use Rattle.memory.specs.Memory.{Loan}
use Rattle.memory.specs.declared.memory.Memory.{Ghosts}
use Rattle.rows.specs.Core as bus
use Rattle.run_control.specs.State.{State}
use Rattle.machine.specs.declared.frame.Machine.{Machine}

-- g holds what the memory means
abbrev pub view : {X : Type 0} → Ghosts X → Machine X → State bus.Core
view g m = record {
  core = m.core;
  words = g.words m.memory;
  run = m.run;
  mark = m.mark;
  reset = m.reset;
  left = m.left;
  clocks = m.counts.clocks;
  waits = m.counts.waits;
  finished = m.counts.finished;
  delays = g.delay m.memory;
}

-- what is lent to its memory and is none of its words
abbrev pub lent : {X : Type 0} → Ghosts X → Machine X → List Loan
lent g m = g.frame m.memory
