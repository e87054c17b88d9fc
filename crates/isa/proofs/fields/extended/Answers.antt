use Rattle.std.proofs.Common.{◌^◌, arith}
use Rattle.std.proofs.lemmas.Int.{ints}
use Rattle.std.proofs.lemmas.Nat.{one_shl, mod_below, pow_pos, pow_below}
use Rattle.isa.proofs.fields.extended.Goals as goal

pub overflow_sub-result : goal.overflow_sub-result
overflow_sub-result c =
    let e = one_shl c.args.width 32 (omega arith) in
    let m = mod_below c.args.word (2 ^ c.args.width) (pow_pos c.args.width) in
    let p = pow_below c.args.width 31 c.requires.narrow in
    rw e (omega (arith, ints, m, p))
