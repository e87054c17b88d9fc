-- Rules that every step of our control store keeps. Assumes nothing.
use Rattle.std.specs.Prelude.{◌≡◌, ℕ, ◌+◌, ◌*◌, ◌<◌, Bool, true, cond, not, ◌&&◌, ◌||◌, List, [], ◌∷◌, ◌==◌, nat_lt, slice_index}
use Rattle.rows.specs.declared.signal.Signal.{Signal}
use Rattle.rows.specs.declared.signal.Signal.TheVariants.{PcOut, MdOut, COut, ROut, BaOut, C1Out, C2Out, Gra, Grb, Grc, Add, Sub, And, Or, Neg, Not, CIsB, Inc4, Shr, Shra, Shl, Shc, Read, Write, Wait, Decr, Goto6, End, NIsZero, NIsNotZero}
use Rattle.rows.specs.Signals.{gives}
use Rattle.rows.specs.Rows.{table}

-- the signals that exclude each other: the gates, the selects and the ALU's functions
abbrev pub gates : List Signal
gates = PcOut ∷ MdOut ∷ COut ∷ ROut ∷ BaOut ∷ C1Out ∷ C2Out ∷ []

abbrev pub selects : List Signal
selects = Gra ∷ Grb ∷ Grc ∷ []

abbrev pub functions : List Signal
functions = Add ∷ Sub ∷ And ∷ Or ∷ Neg ∷ Not ∷ CIsB ∷ Inc4 ∷ Shr ∷ Shra ∷ Shl ∷ Shc ∷ []

-- how many of the signals does the control word give?
abbrev pub given : List Signal → ℕ → ℕ
given [] w = 0
given (x ∷ xs) w = cond (gives w x) 1 0 + given xs w

-- b holds wherever a does
abbrev pub implies : Bool → Bool → Bool
implies a b = not a || b

-- the rules, of the control word w at the step t
abbrev pub one_at_most : List Signal → ℕ → ℕ → Bool
one_at_most xs t w = nat_lt (given xs w) 2

abbrev pub reads_or_writes : ℕ → ℕ → Bool
reads_or_writes t w =
    implies (gives w Read) (gives w Wait && not (gives w Write))
    && (implies (gives w Write) (gives w Wait) && implies (gives w Wait) (gives w Read || gives w Write))

abbrev pub only_with_end : Signal → ℕ → ℕ → Bool
only_with_end x t w = implies (gives w x) (gives w End)

abbrev pub goes_to_six : ℕ → ℕ → Bool
goes_to_six t w = implies (gives w Goto6) (t == 6 && (gives w Decr && gives w NIsNotZero))

-- the control word of a code at a step
abbrev pub at_code : ℕ → ℕ → ℕ
at_code code t = slice_index table (code * 8 + t)

-- every control word of our control store keeps the rule
pub record EveryStep (rule : ℕ → ℕ → Bool) : Type 0 where
  pub keeps : (code t : ℕ) → code < 32 → t < 8 → rule t (at_code code t) ≡ true

-- the control word ends the instruction whatever n is
abbrev pub ends : ℕ → Bool
ends w = gives w End && not (gives w NIsZero || gives w NIsNotZero)

-- an assigned code, one with a row, has an unconditional End by step 7
abbrev pub ends_by_seven : ℕ → Bool
ends_by_seven code =
    (at_code code 3 == 0) || (ends (at_code code 3) || (ends (at_code code 4)
    || (ends (at_code code 5) || (ends (at_code code 6) || ends (at_code code 7)))))

-- every code of our control store keeps the rule
pub record EveryCode (rule : ℕ → Bool) : Type 0 where
  pub keeps : (code : ℕ) → code < 32 → rule code ≡ true
