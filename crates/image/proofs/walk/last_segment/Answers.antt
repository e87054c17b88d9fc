use Rattle.std.proofs.Common.{◌∙◌, ◌-◌, length, arith}
use Rattle.image.proofs.Numbers.{number_past}
use Rattle.image.proofs.Splits.{split_read}
use Rattle.image.proofs.walk.last_segment.Goals as goal

pub returns : goal.returns
returns c =
    let bytes = c.args.body.now in
    let cut = c.in-Some.ensures.cases in
    let sub = c.in-Some-checked_sub.ensures in
    split_read c.args.segment c.args.limit c.number-first.result c.number-count.result c.in-Some-checked_sub.start bytes c.in-Some.rest.now c.split_at.result.0.now c.split_at.result.1.now
    cut.0 cut.2 (c.number-first.ensures ∙ number_past bytes _ _ 0 _ cut.1 (omega arith)) (c.number-count.ensures ∙ number_past bytes _ _ 4 (length bytes - 4) cut.1 (omega (arith, cut.2)))
    c.if-count-eq0.false (omega (arith, sub.0, sub.1)) (omega arith) c.split_at.ensures.front c.split_at.ensures.back
