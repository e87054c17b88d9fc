use Rattle.std.proofs.Common.{arith}
use Rattle.image.specs.Views.{segment_of, segments_of, segments_left}
use Rattle.image.proofs.Iterators.{turn, progress}
use Rattle.image.proofs.segments.SegmentsIterator.next.Goals as goal

pub returns-clause-steps : goal.returns-clause-steps
returns-clause-steps c =
    let s = c.args.self.now in
    let h = c.in_ok-number.ensures.steps in
    turn (segments_of s.image) s.numbers.start s.numbers.end c.next.new.self.start c.next.new.self.end c.in_ok-number.number c.segment.result (omega (arith, h.1.0)) h.1.1 h.1.2 h.0 c.segment.ensures

pub returns-clause-goes : goal.returns-clause-goes
returns-clause-goes c = progress _ segment_of segments_left c.args.self.now _ c.segment.result tt (returns-clause-steps c)
