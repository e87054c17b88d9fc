use Rattle.image.specs.Views.{told}
use Rattle.image.proofs.Accepting.{accepts_exactly}
use Rattle.image.proofs.reading.read.Goals as goal

pub returns : goal.returns
returns c = record {
  answer = c.opened.ensures;
  accepts = accepts_exactly (told c.opened.result) c.args.size c.args.bytes.now c.opened.ensures c.ranges.size.fits (λ i. (c.type_inv.bytes i).fits);
}
