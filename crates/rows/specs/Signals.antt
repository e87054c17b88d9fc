-- The control signals, and the control words made of them. Assumes nothing.
use Rattle.std.specs.Prelude.{ℕ, ◌+◌, ◌/◌, ◌%◌, ◌^◌, Bool, List, [], ◌∷◌, ◌==◌}
use Rattle.rows.specs.declared.signal.Signal.{Signal}
use Rattle.rows.specs.declared.signal.Signal.TheVariants.{PcOut, MdOut, COut, ROut, BaOut, C1Out, C2Out, MaIn, MdIn, IrIn, PcIn, ConPcIn, AIn, CIn, RIn, ConIn, Ld, Gra, Grb, Grc, Add, Sub, And, Or, Neg, Not, CIsB, Inc4, Shr, Shra, Shl, Shc, Read, Write, Wait, Decr, Goto6, Stop, End, NIsZero, NIsNotZero}

-- the signal's bit in a control word
abbrev pub bit_of : Signal → ℕ
bit_of PcOut = 0
bit_of MdOut = 1
bit_of COut = 2
bit_of ROut = 3
bit_of BaOut = 4
bit_of C1Out = 5
bit_of C2Out = 6
bit_of MaIn = 7
bit_of MdIn = 8
bit_of IrIn = 9
bit_of PcIn = 10
bit_of ConPcIn = 11
bit_of AIn = 12
bit_of CIn = 13
bit_of RIn = 14
bit_of ConIn = 15
bit_of Ld = 16
bit_of Gra = 17
bit_of Grb = 18
bit_of Grc = 19
bit_of Add = 20
bit_of Sub = 21
bit_of And = 22
bit_of Or = 23
bit_of Neg = 24
bit_of Not = 25
bit_of CIsB = 26
bit_of Inc4 = 27
bit_of Shr = 28
bit_of Shra = 29
bit_of Shl = 30
bit_of Shc = 31
bit_of Read = 32
bit_of Write = 33
bit_of Wait = 34
bit_of Decr = 35
bit_of Goto6 = 36
bit_of Stop = 37
bit_of End = 38
bit_of NIsZero = 39
bit_of NIsNotZero = 40

-- does the control word w give the signal?
abbrev pub gives : ℕ → Signal → Bool
gives w x = w / 2 ^ bit_of x % 2 == 1

-- the control word that gives these signals
abbrev pub encode : List Signal → ℕ
encode [] = 0
encode (x ∷ xs) = 2 ^ bit_of x + encode xs
