-- The one-bus core under run control. Assumes nothing.
use Rattle.std.specs.Prelude.{ℕ, cond, List, nat_lt}
use Rattle.isa.specs.Arithmetic.{minus}
use Rattle.isa.specs.Clocks.{clocks, accesses}
use Rattle.rows.specs.Rows.{table}
use Rattle.rows.specs.Core as bus
use Rattle.rows.specs.Core.{at_step, micro, waits}
use Rattle.onebus.specs.View.{zeroed, restarted, started, with_register}
use Rattle.run_control.specs.Core.{Core, Outcome}
use Rattle.run_control.specs.Core.Outcome.{more, done, failed}
use Rattle.run_control.specs.Whole.{any_delay, Follows, KeepsPace, ResetsLeaveWholeInstructions}

-- run control itself says what a fault leaves
abbrev pub outcome : bus.Outcome → Outcome bus.Core
outcome (bus.Outcome.more s ws) = more s ws
outcome (bus.Outcome.done stops s ws) = done stops s ws
outcome (bus.Outcome.failed c a s ws) = failed c a

-- from where the instruction under way was fetched: the fetch raises PC at the end of T1
abbrev pub fetched_from : bus.Core → ℕ
fetched_from s = cond (nat_lt s.t 2) s.pc (minus s.pc 4)

-- the one-bus core under a control store
abbrev pub core_under : List ℕ → Core
core_under store = record {
  P = bus.Core;
  step = λ s ws. outcome (micro store s ws);
  pc = λ s. s.pc;
  regs = λ s. s.regs;
  time = λ s. s.t;
  waits = λ s. waits store s;
  address = λ s. s.ma;
  origin = fetched_from;
  fresh = zeroed;
  rewound = λ s. at_step s 0;
  restarted = restarted;
  cleared = started;
  with_register = with_register;
  clocks = clocks;
  accesses = accesses;
}

-- under our control store
abbrev pub one_bus : Core
one_bus = core_under table

-- the theorems, over memories whose delays may be any
abbrev pub OneBusFollows : Type 0
OneBusFollows = Follows one_bus any_delay

abbrev pub OneBusKeepsPace : Type 0
OneBusKeepsPace = KeepsPace one_bus any_delay any_delay

abbrev pub OneBusResets : Type 0
OneBusResets = ResetsLeaveWholeInstructions one_bus any_delay
