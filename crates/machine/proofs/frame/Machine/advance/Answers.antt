use Rattle.std.proofs.Common.{Ok, Err, ap, ◌∙◌}
use Rattle.machine.proofs.Steps.{a_step}
use Rattle.machine.proofs.frame.Machine.advance.Goals as goal

-- Kept: each exit hands its facts to the one lemma, since they come as a record of its own type.
pub returns-in-Ok-Within : goal.returns-in-Ok-Within
returns-in-Ok-Within g c =
    let h = (a_step g.M.Memory c.args.self.now _ c.step-2.new.self c.step-2.new.memory c.fetched_from-from.ensures.fits.step c.step-2.ensures.step).within (c.in-Ok-Within.is ∙ ap Ok c.in-Ok-Within.field-0-is) in
    let n = c.step.ensures in
    record { answer = h.0; state = rw (n.clocks, n.waits, n.finished) h.1; lent = c.step-2.ensures.step.frame }

pub returns-then-stops : goal.returns-then-stops
returns-then-stops g c =
    let h = (a_step g.M.Memory c.args.self.now _ c.step-2.new.self c.step-2.new.memory c.fetched_from-from.ensures.fits.step c.step-2.ensures.step).finished c.in-Ok-Finished.stops (c.in-Ok-Finished.is ∙ ap Ok c.in-Ok-Finished.field-0-is) in
    let n = c.step.ensures in
    let e = c.finish.ensures in
    record { answer = h.0; state = rw (e.clocks, e.waits, e.finished, n.clocks, n.waits, n.finished) (rw c.if-stops.true at h.1); lent = c.step-2.ensures.step.frame }

pub returns-else-stops : goal.returns-else-stops
returns-else-stops g c =
    let h = (a_step g.M.Memory c.args.self.now _ c.step-2.new.self c.step-2.new.memory c.fetched_from-from.ensures.fits.step c.step-2.ensures.step).finished c.in-Ok-Finished.stops (c.in-Ok-Finished.is ∙ ap Ok c.in-Ok-Finished.field-0-is) in
    let n = c.step.ensures in
    let e = c.finish.ensures in
    record { answer = h.0; state = rw (e.clocks, e.waits, e.finished, n.clocks, n.waits, n.finished) (rw c.if-stops.false at h.1); lent = c.step-2.ensures.step.frame }

pub returns-in-Err : goal.returns-in-Err
returns-in-Err g c =
    let h = (a_step g.M.Memory c.args.self.now _ c.step-2.new.self c.step-2.new.memory c.fetched_from-from.ensures.fits.step c.step-2.ensures.step).faulted c.in-Err.fault c.in-Err.is in
    let n = c.step.ensures in
    record { answer = ap (λ x. Err (c.in-Err.fault, x)) c.fetched_from-from.ensures.from ∙ h.0; state = rw (n.clocks, n.waits, n.finished) h.1; lent = c.step-2.ensures.step.frame }
