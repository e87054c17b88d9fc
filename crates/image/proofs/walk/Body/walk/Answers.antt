use Rattle.std.proofs.Common.{arith}
use Rattle.std.proofs.lemmas.Result.{err_from_is_err_and}
use Rattle.std.specs.Option.{option_map}
use Rattle.image.specs.Views.{segment_of}
use Rattle.image.proofs.Walks.{turn_past, turn_found, turned_down, ended, left_over}
use Rattle.image.proofs.walk.Body.walk.Goals as goal

-- Kept: each exit has a lemma of its own, to which it hands its facts, since they come as a record of its own type.
pub returns-in_err-before : goal.returns-in_err-before
returns-in_err-before c =
    let l = c.loop-segment in
    let p = err_from_is_err_and c.from_residual.result c.from_residual.ensures.1 in
    let refused = turned_down (option_map segment_of l.found) l.segment c.args.wanted l.limit l.rest.now _ l.invariant.0 _ c.loop-segment-test.true c.in_err-before.ensures in
    rw (p.1, p.2) refused

pub returns-in_err-whole : goal.returns-in_err-whole
returns-in_err-whole c =
    let l = c.loop-segment in
    let p = err_from_is_err_and c.from_residual-in_err-whole.result c.from_residual-in_err-whole.ensures.1 in
    let refused = left_over (option_map segment_of l.found) l.segment c.args.wanted l.limit l.rest.now _ l.invariant.0 _ c.loop-segment-test.false c.in_err-whole.ensures in
    rw (p.1, p.2) refused

pub returns : goal.returns
returns c =
    let l = c.loop-segment in
    ended (option_map segment_of l.found) l.segment c.args.wanted l.limit l.rest.now _ l.invariant.0 _ c.loop-segment-test.false c.in_ok-whole.ensures

pub loop-segment-preserved : goal.loop-segment-preserved
loop-segment-preserved c =
    let l = c.loop-segment in (
      turn_past (option_map segment_of l.found) l.segment c.args.wanted l.limit l.rest.now _ l.invariant.0 _ _ c.loop-segment-test.true c.in_ok-before.ensures l.invariant.1 c.if-segment-wanted.false,
      λ e. omega (arith, l.invariant.1 e),
    )

pub loop-segment-preserved-then-segment-wanted : goal.loop-segment-preserved-then-segment-wanted
loop-segment-preserved-then-segment-wanted c =
    let l = c.loop-segment in (
      turn_found (option_map segment_of l.found) l.segment c.args.wanted l.limit l.rest.now _ l.invariant.0 _ _ c.loop-segment-test.true c.in_ok-before.ensures l.invariant.1 c.if-segment-wanted.true,
      λ e. omega (arith, c.if-segment-wanted.true),
    )
