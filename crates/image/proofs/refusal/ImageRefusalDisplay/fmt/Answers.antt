use Rattle.std.proofs.Common.{◌≡◌, ◌^◌, ◌<◌, sym, subst, arith}
use Rattle.std.specs.Fmt.{DisplaysOnOk}
use Rattle.image.specs.declared.refusal.ImageRefusal.{ImageRefusal}
use Rattle.image.specs.Refusals.{refusal_text}
use Rattle.image.proofs.Hex.{hex_text}
use Rattle.image.proofs.refusal.ImageRefusalDisplay.fmt.Goals as goal

-- what is displayed of a refusal, where it is one of the variants
displayed : {W : Type 0} (took : _) (f : _) (r : _) (g : _) (e x : ImageRefusal) → e ≡ x → DisplaysOnOk {W = W} took f r (refusal_text x) g → DisplaysOnOk took f r (refusal_text e) g
displayed took f r g e x i w = subst (λ (y : ImageRefusal). DisplaysOnOk took f r (refusal_text y) g) (sym i) w

pub returns-in-Trailer-clause-writes : goal.returns-in-Trailer-clause-writes
returns-in-Trailer-clause-writes g c = displayed _ _ _ _ _ _ c.in-Trailer.is c.write-in-Trailer.ensures.writes

pub returns-in-Cut-clause-writes : goal.returns-in-Cut-clause-writes
returns-in-Cut-clause-writes g c = displayed _ _ _ _ _ _ c.in-Cut.is c.write-in-Cut.ensures.writes

pub returns-in-Mark-clause-writes : goal.returns-in-Mark-clause-writes
returns-in-Mark-clause-writes g c =
    let small : c.in-Mark.found < 2 ^ 32 = omega arith in
    let text = hex_text c.in_radix.result c.laid_out.result c.in-Mark.found _ c.in_radix.ensures c.laid_out.ensures small in
    displayed _ _ _ _ _ _ c.in-Mark.is (subst (λ o. DisplaysOnOk g.W.Write.write_str_gives c.args.f.now c.write-in-Mark.result o c.write-in-Mark.new.self) text c.write-in-Mark.ensures.writes)
