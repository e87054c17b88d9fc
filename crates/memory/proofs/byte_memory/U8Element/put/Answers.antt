use Rattle.std.proofs.Common.{◌+◌, ◌*◌, ◌≤◌, length, ◌∙◌, arith}
use Rattle.memory.specs.ByteMemory.{packed}
use Rattle.memory.proofs.Lists.{words_length}
use Rattle.memory.proofs.Packed.{packed_length, put_words, put_rest}
use Rattle.memory.proofs.byte_memory.U8Element.put.Goals as goal

pub slice_bounds-copy_from_slice-end : goal.slice_bounds-copy_from_slice-end
slice_bounds-copy_from_slice-end c = omega (arith, words_length (packed c.args.bytes.now), packed_length c.args.bytes.now)

pub returns : goal.returns
returns c =
    let bs = c.args.bytes.now in
    let is = c.copy_from_slice.ensures.after ∙ c.to_be_bytes.ensures in
    let within : 4 * c.args.number + 4 ≤ length bs = omega (arith, words_length (packed bs), packed_length bs) in
    record {
      words = put_words bs _ c.args.value within _ is (omega arith);
      rest = put_rest bs _ c.args.value within _ is c.requires;
    }
