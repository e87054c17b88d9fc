use Rattle.std.proofs.Common.{◌∙◌}
use Rattle.image.specs.Views.{segment_of, segments_left}
use Rattle.image.proofs.Loaded.{first_fits, rest_ordered, rest_loaded}
use Rattle.image.proofs.loading.set_segments.Goals as goal

pub set_words-requires : goal.set_words-requires
set_words-requires g c =
    first_fits _ (segments_left c.loop-part.part-iterator) (segments_left c.next.new.self) (segment_of c.in-Some.part) c.in-Some.ensures.steps c.loop-part.invariant.1

pub loop-part-preserved : goal.loop-part-preserved
loop-part-preserved g c =
    let left = segments_left c.loop-part.part-iterator in
    let rest = segments_left c.next.new.self in
    let s = segment_of c.in-Some.part in
    let stored = c.set_words.ensures.words in (
      rest_loaded _ left rest s c.in-Some.ensures.steps c.loop-part.invariant.1 _ stored ∙ c.loop-part.invariant.0,
      rest_ordered _ left rest s c.in-Some.ensures.steps c.loop-part.invariant.1 _ stored,
      c.set_words.ensures.frame ∙ c.loop-part.invariant.2,
    )
