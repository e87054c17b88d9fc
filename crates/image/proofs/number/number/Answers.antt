use Rattle.std.proofs.Common.{[], ap, get_or}
use Rattle.image.proofs.Numbers.{number_of_chunk}
use Rattle.image.proofs.number.number.Goals as goal

pub returns : goal.returns
returns c =
    number_of_chunk c.args.bytes.now c.args.i c.from_be_bytes.result _ [] c.requires (ap (λ chunks. get_or chunks c.args.i []) c.as_chunks.ensures.front) c.from_be_bytes.ensures c.from_be_bytes.type_inv
