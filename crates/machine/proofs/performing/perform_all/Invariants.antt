use Rattle.std.proofs.Common.{◌≡◌, map, take}
use Rattle.run_control.specs.OneBus.{one_bus}
use Rattle.run_control.specs.Whole.{Leads, call_of}
use Rattle.machine.specs.View.{view, lent}
use Rattle.machine.proofs.performing.perform_all.Given as goal

-- the calls stay, and those so far, with their answers, lead to the machine
abbrev pub invariant-loop-turn : goal.invariant-loop-turn
invariant-loop-turn g l =
    let m = g.M.Memory in
    record {
      calls : map call_of l.turns ≡ map call_of l.initial.turns;
      leads : Leads one_bus m.delay (view m l.initial.machine) (take l.turn-index l.turns) (view m l.machine);
      lent : lent m l.machine ≡ lent m l.initial.machine;
    }
