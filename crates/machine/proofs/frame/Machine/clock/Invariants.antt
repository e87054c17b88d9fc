use Rattle.std.proofs.Common.{◌≡◌, ◌+◌, ◌-◌, ◌≤◌, List}
use Rattle.run_control.specs.OneBus.{one_bus}
use Rattle.run_control.specs.Calls.{counted}
use Rattle.run_control.proofs.OneBus.{one_bus_facts}
use Rattle.run_control.proofs.Runs.{Sofar}
use Rattle.machine.specs.View.{view, lent}
use Rattle.machine.proofs.frame.Machine.clock.Given as goal

-- the clocks so far, and the count of clocks, which they raise at most by one each
abbrev pub invariant-loop-self : goal.invariant-loop-self
invariant-loop-self g l =
    let m = g.M.Memory in
    record {
      within : l.spent ≤ l.wanted;
      ended : l.finished ≤ l.spent;
      counted : counted (view m l.self) ≤ counted (view m l.initial.self) + l.spent;
      sofar : (xs : List g.row.M.Denot) × Sofar one_bus one_bus_facts m.delay (view m l.initial.self) (view m l.self) l.spent l.finished xs;
      lent : lent m l.self ≡ lent m l.initial.self;
    }

abbrev pub decreases-loop-self : goal.decreases-loop-self
decreases-loop-self g l = l.wanted - l.spent
