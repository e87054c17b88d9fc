use Rattle.std.proofs.Common.{refl}
use Rattle.image.specs.Views.{segments_of}
use Rattle.image.proofs.Loaded.{suits, loads}
use Rattle.image.proofs.loading.load.Goals as goal

pub set_segments-requires : goal.set_segments-requires
set_segments-requires g c =
    let m = g.M.Memory in
    let segments = segments_of c.in_ok-image.image in
    let read = c.in_ok-image.ensures in
    suits m.words m.delay m.frame c.args.memory.now c.size.new.self c.args.bytes.now c.size.result segments
    c.size.ensures.answer c.size.ensures.words_kept read.answer ((read.accepts segments).only refl).ordered

pub returns : goal.returns
returns g c =
    let m = g.M.Memory in
    let segments = segments_of c.in_ok-image.image in
    let read = c.in_ok-image.ensures in
    loads m.words m.delay m.frame c.args.memory.now c.size.new.self c.args.bytes.now c.size.result segments
    c.size.ensures.answer c.size.ensures.words_kept read.answer ((read.accepts segments).only refl).ordered
    c.set_segments.new.memory c.set_segments.ensures.words c.set_segments.ensures.frame c.size.ensures.frame_kept
