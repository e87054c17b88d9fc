use Rattle.std.proofs.Common.{sym, ◌∙◌}
use Rattle.onebus.proofs.Stepping.{stepped, stepped_not}
use Rattle.onebus.proofs.register_set.Core.step_under.Goals as goal

pub returns-in-Ok : goal.returns-in-Ok
returns-in-Ok g c =
    stepped g.M.Memory c.args.word.0 c.args.self.now c.carry_out.new.self c.args.memory.now c.access.new.memory
    (sym c.is_rowless.ensures ∙ c.if-is_rowless.false) (rw (← c.self.view_is) (sym c.allows.ensures ∙ c.if-not-allows.false))
    c.in-Ok.held c.carry_out.result c.in-Ok.ensures c.carry_out.ensures.core c.carry_out.ensures.answer

pub returns-in-Err : goal.returns-in-Err
returns-in-Err g c =
    stepped_not g.M.Memory c.args.word.0 c.args.self.now c.fail-in-Err.new.self c.args.memory.now c.access.new.memory
    (sym c.is_rowless.ensures ∙ c.if-is_rowless.false) (rw (← c.self.view_is) (sym c.allows.ensures ∙ c.if-not-allows.false))
    c.in-Err.cause c.fail-in-Err.result c.in-Err.ensures c.fail-in-Err.ensures.core c.fail-in-Err.ensures.answer
