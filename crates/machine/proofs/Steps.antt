-- What a step of the core means for the machine. Assumes nothing.
use Rattle.std.proofs.Common.{◌≡◌, ◌<◌, ◌≤◌, Bool, true, false, cond, Result, refl, arith}
use Rattle.std.specs.Int.{from_bool}
use Rattle.memory.specs.declared.memory.Memory.{Ghosts}
use Rattle.rows.specs.Rows.{table}
use Rattle.rows.specs.Core as bus
use Rattle.rows.specs.Core.{control_at, micro}
use Rattle.onebus.specs.declared.fault.CoreFault.{CoreFault}
use Rattle.onebus.specs.declared.progress.Progress.{Progress}
use Rattle.onebus.specs.Steps.{Stepped}
use Rattle.run_control.specs.State.{later_delays}
use Rattle.run_control.specs.OneBus.{one_bus}
use Rattle.run_control.proofs.Steps.{Clocked, clocked_step, waited_for}
use Rattle.machine.specs.declared.frame.Machine.{Machine}
use Rattle.machine.specs.View.{view}

-- a step of the machine's core, which answered r and left the core q and the memory n, is a clock of run control
pub a_step : {X : Type 0} (g : Ghosts X) (a : Machine X) (r : Result Progress CoreFault) (q : bus.Core) (n : X) → a.core.t < 8 → Stepped g (control_at table a.core) a.core a.memory r q n →
    Clocked table (view g a) (g.delay n) r q (g.words n) (micro table a.core (g.words a.memory)) (later_delays one_bus (view g a) (g.delay n))
a_step g a r q n t e = clocked_step table (view g a) (g.delay n) r q (g.words n) e.answer e.core e.words e.delays (waited_for a.core (g.words a.memory) t)

-- whether an instruction was finished, as how many were
pub finished_one : (b : Bool) → from_bool b ≡ cond b 1 0
finished_one true = refl
finished_one false = refl

pub one_at_most : (b : Bool) → from_bool b ≤ 1
one_at_most true = omega arith
one_at_most false = omega arith
