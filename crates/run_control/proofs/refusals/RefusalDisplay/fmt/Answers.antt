use Rattle.std.proofs.Common.{sym, subst}
use Rattle.std.specs.Fmt.{DisplaysOnOk}
use Rattle.run_control.specs.declared.refusals.Refusal.{Refusal}
use Rattle.run_control.specs.Refusals.{reason}
use Rattle.run_control.proofs.refusals.RefusalDisplay.fmt.Goals as goal

pub returns-in-ClocksFull-clause-writes : goal.returns-in-ClocksFull-clause-writes
returns-in-ClocksFull-clause-writes g c =
    subst (λ (e : Refusal). DisplaysOnOk g.W.Write.write_str_gives c.args.f.now c.write-in-ClocksFull.result (reason e) c.write-in-ClocksFull.new.self) (sym c.in-ClocksFull.is) c.write-in-ClocksFull.ensures.writes
