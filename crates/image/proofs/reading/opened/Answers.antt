use Rattle.std.proofs.Common.{sym, ◌∙◌}
use Rattle.std.proofs.lemmas.Result.{err_from_is_err_and}
use Rattle.image.proofs.Accepting.{walked_over}
use Rattle.image.proofs.Walks.{picked_err, picked_ok}
use Rattle.image.proofs.reading.opened.Goals as goal

pub returns-in_err-walk : goal.returns-in_err-walk
returns-in_err-walk c =
    let p = err_from_is_err_and c.from_residual.result c.from_residual.ensures.1 in
    let cut = c.in-Some.ensures.cases in
    let same = walked_over c.args.size c.number-segments.result c.number-back.result c.args.bytes.now c.in-Some.rest.now c.in-Some.trailer.now cut.0 cut.2 cut.1 c.if-length-gt65536.false
    (sym c.number-found.ensures ∙ c.if-found-ne-MARK.false) c.number-segments.ensures c.number-back.ensures c.if-segments-gt64.false c.if-back-before.false in
    rw (p.1, p.2) (picked_err _ _ _ c.in_err-walk.ensures ∙ same)

pub returns : goal.returns
returns c =
    let cut = c.in-Some.ensures.cases in
    let same = walked_over c.args.size c.number-segments.result c.number-back.result c.args.bytes.now c.in-Some.rest.now c.in-Some.trailer.now cut.0 cut.2 cut.1 c.if-length-gt65536.false
    (sym c.number-found.ensures ∙ c.if-found-ne-MARK.false) c.number-segments.ensures c.number-back.ensures c.if-segments-gt64.false c.if-back-before.false in
    picked_ok _ _ _ c.in_ok-walk.ensures ∙ same
