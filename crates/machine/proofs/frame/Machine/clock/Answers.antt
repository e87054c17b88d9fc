use Rattle.std.proofs.Common.{◌≡◌, ◌+◌, ◌≤◌, cond, [], ◌∷◌, ◌++◌, ◌∙◌, arith}
use Rattle.run_control.specs.Calls.{counted}
use Rattle.run_control.specs.OneBus.{one_bus}
use Rattle.run_control.proofs.OneBus.{one_bus_facts}
use Rattle.run_control.proofs.Runs.{sofar_more, spends_fault, goes, tick_rises}
use Rattle.machine.specs.View.{view}
use Rattle.machine.proofs.Steps.{finished_one, one_at_most}
use Rattle.machine.proofs.frame.Machine.clock.Goals as goal

pub loop-self-preserved : goal.loop-self-preserved
loop-self-preserved g c =
    let m = g.M.Memory in
    let t = view m c.loop-self.self in
    let u = view m c.tick.new.self in
    let x = c.tick.new.self.memory in
    let so = c.loop-self.invariant in
    let up = tick_rises one_bus one_bus_facts m.delay t u (m.delay x) c.loop-self-test.true c.tick.ensures.state in
    let more = sofar_more one_bus one_bus_facts m.delay _ t _ _ so.sofar.0 so.sofar.1 u x c.in-Ok.done c.loop-self-test.true c.tick.ensures.state c.in-Ok.ensures.answer in
    let one : c.from-finished.result ≡ cond c.in-Ok.done 1 0 = c.from-finished.ensures ∙ finished_one c.in-Ok.done in
    let few : c.from-finished.result ≤ 1 = rw c.from-finished.ensures (one_at_most c.in-Ok.done) in
    record {
      within = omega arith;
      ended = omega arith;
      counted = omega (arith, up.clocks);
      sofar = (so.sofar.0 ++ x ∷ [], rw (← one) at more);
      lent = c.tick.ensures.lent ∙ so.lent;
    }

pub returns-in-Err-clause-clocks : goal.returns-in-Err-clause-clocks
returns-in-Err-clause-clocks g c =
    let m = g.M.Memory in
    let s = view m c.args.self.now in
    let t = view m c.loop-self.self in
    let u = view m c.tick.new.self in
    let x = c.tick.new.self.memory in
    let so = c.loop-self.invariant in
    let room : counted s + c.args.wanted ≤ 1000000000000 = rw (← c.counted_clocks-clocks.ensures) (omega arith) in
    goes one_bus one_bus_facts m.delay s c.args.wanted u _ (so.sofar.0 ++ x ∷ []) c.if-not-self.false c.if-wanted-eq0.false c.if-wanted-gt-MOST_WANTED.false room
    (spends_fault one_bus one_bus_facts m.delay s t _ _ so.sofar.0 so.sofar.1 u x c.args.wanted (c.in-Err.core, c.in-Err.instruction) c.loop-self-test.true c.tick.ensures.state c.in-Err.ensures.answer c.if-spent-wanted.true)
