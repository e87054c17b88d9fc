use Rattle.std.proofs.Common.{◌≡◌, ◌<◌, length, take, refl, ◌∙◌, subst, arith, take_all}
use lib.Seq.{map-set_same}
use Rattle.std.proofs.lemmas.List.{take_more_set}
use Rattle.run_control.specs.OneBus.{one_bus}
use Rattle.run_control.specs.Whole.{Leads, Comes, call_of}
use Rattle.run_control.proofs.OneBus.{one_bus_facts}
use Rattle.run_control.proofs.Whole.{follows, leads_more, paced}
use Rattle.machine.specs.View.{view}
use Rattle.machine.proofs.performing.perform_all.Goals as goal

pub loop-turn-preserved : goal.loop-turn-preserved
loop-turn-preserved g c =
    let m = g.M.Memory in
    let so = c.loop-turn.invariant in
    let more = leads_more one_bus one_bus_facts m.delay m.laws.short _ _ _ _ _ so.leads c.perform-turn.ensures.does in
    let here : c.loop-turn.turn-index < length c.loop-turn.turns = omega arith in
    record {
      calls = map-set_same call_of _ _ _ _ refl ∙ so.calls;
      leads = rw (take_more_set _ _ _ here) more;
      lent = c.perform-turn.ensures.lent ∙ so.lent;
    }

pub returns : goal.returns
returns g c =
    let m = g.M.Memory in
    let so = c.loop-turn.invariant in
    let s = view m c.loop-turn.machine in
    let all : take c.loop-turn.turn-index c.loop-turn.turns ≡ c.loop-turn.turns = take_all _ _ (omega arith) in
    let l : Comes one_bus m.delay (m.words c.args.memory) c.args.memory c.loop-turn.turns s
    = subst (λ x. Leads one_bus m.delay x c.loop-turn.turns s) c.set_up-machine.ensures.state (subst (λ x. Leads one_bus m.delay (view m c.set_up-machine.result) x s) all so.leads) in
    record {
      calls = so.calls;
      comes = l;
      agrees = follows one_bus one_bus_facts m.delay m.laws.short _ c.args.memory _ s (m.laws.fits _) l;
      pace = paced one_bus one_bus_facts m.delay m.laws.short _ c.args.memory _ s (m.laws.fits _) l;
      lent = so.lent ∙ c.set_up-machine.ensures.lent;
    }
