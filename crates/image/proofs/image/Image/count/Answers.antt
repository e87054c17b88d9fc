use Rattle.image.proofs.Walks.{accepted_length}
use Rattle.image.proofs.image.Image.count.Goals as goal

pub returns : goal.returns
returns c =
    let i = c.args.self.now in
    accepted_length i.body.count i.body.size i.body.bytes.now i.whole
