use Rattle.std.proofs.Common.{sym}
use Rattle.image.proofs.Numbers.{length_words}
use Rattle.image.proofs.part.ImagePart.count.Goals as goal

pub returns : goal.returns
returns c = sym (length_words c.args.self.now.words.now)
