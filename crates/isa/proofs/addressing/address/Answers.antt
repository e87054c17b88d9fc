use Rattle.std.proofs.Common.{refl, sym, ap, ◌∙◌, Some, rules, get_or}
use mir.Val.{SFits}
use mir.Syntax.{w32}
use Rattle.isa.specs.Arithmetic.{plus}
use Rattle.isa.proofs.Addresses.{as_word, names, names_none}
use Rattle.isa.proofs.addressing.address.Goals as goal

pub returns-in-Direct : goal.returns-in-Direct
returns-in-Direct c =
    let f : SFits w32 c.in-Direct.c2 = search rules in
    ap Some (c.cast_unsigned.ensures ∙ as_word _ f) ∙ names c.args.pc c.args.registers.now c.args.word _ _ c.in_ok-c2.ensures c.in-Direct.is

pub returns-in-Indexed : goal.returns-in-Indexed
returns-in-Indexed c =
    let f : SFits w32 c.in-Indexed.c2 = search rules in
    ap (λ x. Some (plus (get_or c.args.registers.now c.in-Indexed.rb 0) x)) (c.cast_unsigned-in-Indexed.ensures ∙ as_word _ f) ∙ names c.args.pc c.args.registers.now c.args.word _ _ c.in_ok-c2.ensures c.in-Indexed.is

pub returns-in-Relative : goal.returns-in-Relative
returns-in-Relative c =
    let f : SFits w32 c.in-Relative.c1 = search rules in
    ap (λ x. Some (plus c.args.pc x)) (c.cast_unsigned-in-Relative.ensures ∙ as_word _ f) ∙ names c.args.pc c.args.registers.now c.args.word _ _ c.in_ok-c2.ensures c.in-Relative.is

pub returns-in_default : goal.returns-in_default
returns-in_default c = sym (names_none c.args.pc c.args.registers.now _ c.in_default.not-Direct c.in_default.not-Indexed c.in_default.not-Relative) ∙ names c.args.pc c.args.registers.now c.args.word _ _ c.in_ok-c2.ensures refl
