use Rattle.std.proofs.Common.{sym, ◌∙◌, arith, false-eqb}
use Rattle.src_sim.specs.Bases.{radix_of}
use Rattle.src_sim.proofs.Digits.{from_none, one_more, has_digits}
use Rattle.src_sim.proofs.numbers.numeral.Goals as goal

pub loop-byte-init : goal.loop-byte-init
loop-byte-init c = record {
  fits = omega arith;
  read = from_none (radix_of c.args.base) c.args.digits.now (omega (arith, false-eqb _ 0 c.if-is_empty.ensures));
}

pub loop-byte-preserved : goal.loop-byte-preserved
loop-byte-preserved c =
    let is = sym c.digit_in.ensures ∙ c.in_ok-digit.was in
    record {
      fits = omega arith;
      read = rw c.with_digit-number.ensures (one_more (radix_of c.args.base) c.loop-byte.number c.in_ok-digit.digit c.loop-byte.byte-index c.args.digits.now (has_digits c.args.base) c.loop-byte-test.true is ∙ c.loop-byte.invariant.read);
    }
