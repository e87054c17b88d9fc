-- The control store, looked up by code and step, and tests over all of it. Assumes nothing.
use Rattle.std.proofs.Common.{◌≡◌, ℕ, zero, suc, ◌+◌, ◌*◌, ◌<◌, Bool, true, ◌&&◌, List, get_or, refl, ap, ◌∙◌, subst, le_of_suc-le-suc, not-suc-le-zero, arith}
use native.Mathlib.Decide.{dec_lt}
use Rattle.std.proofs.lemmas.Bool.{and_parts}
use Rattle.isa.specs.Fields.{op_of}
use Rattle.isa.specs.Operations.{Op, operation, decoded_op}
use Rattle.rows.specs.Rows.{control_word, eight, blocks, table}

-- one of the eight words of a block
inside : (o : Op) (r : List ℕ) (t : ℕ) → t < 8 → get_or (eight o r) t 0 ≡ control_word o t
inside o r zero h = refl
inside o r (suc zero) h = refl
inside o r (suc (suc zero)) h = refl
inside o r (suc (suc (suc zero))) h = refl
inside o r (suc (suc (suc (suc zero)))) h = refl
inside o r (suc (suc (suc (suc (suc zero))))) h = refl
inside o r (suc (suc (suc (suc (suc (suc zero)))))) h = refl
inside o r (suc (suc (suc (suc (suc (suc (suc zero))))))) h = refl
inside o r (suc (suc (suc (suc (suc (suc (suc (suc t)))))))) h = absurd (omega arith)

block : (k o i t : ℕ) → i < k → t < 8 → get_or (blocks k o) (i * 8 + t) 0 ≡ control_word (operation (i + o)) t
block zero o i t h l = absurd (not-suc-le-zero h)
block (suc k) o zero t h l =
    let e : 0 * 8 + t ≡ t = omega arith in
    let f : o ≡ 0 + o = omega arith in
    ap (λ (j : ℕ). get_or (blocks (suc k) o) j 0) e ∙ inside (operation o) (blocks k (suc o)) t l ∙ ap (λ (j : ℕ). control_word (operation j) t) f
block (suc k) o (suc i) t h l =
    let e : suc i * 8 + t ≡ suc (suc (suc (suc (suc (suc (suc (suc (i * 8 + t)))))))) = omega arith in
    let f : i + suc o ≡ suc i + o = omega arith in
    ap (λ (j : ℕ). get_or (blocks (suc k) o) j 0) e ∙ block k (suc o) i t (le_of_suc-le-suc h) l ∙ ap (λ (j : ℕ). control_word (operation j) t) f

-- the control word of a code at a step
pub at_row : (code t : ℕ) → code < 32 → t < 8 → get_or table (code * 8 + t) 0 ≡ control_word (operation code) t
unfolding table
at_row code t h l =
    let e : code + 0 ≡ code = omega arith in
    block 32 0 code t h l ∙ ap (λ (j : ℕ). control_word (operation j) t) e

pub looked_up : (w t : ℕ) → t < 8 → get_or table (op_of w * 8 + t) 0 ≡ control_word (decoded_op w) t
unfolding decoded_op
looked_up w t l = at_row (op_of w) t (omega arith) l

-- a test of so many codes from o on, at each of their eight steps
abbrev pub all_steps : (ℕ → ℕ → Bool) → ℕ → ℕ → Bool
all_steps test code zero = true
all_steps test code (suc t) = test code t && all_steps test code t

abbrev pub all_codes : (ℕ → ℕ → Bool) → ℕ → Bool
all_codes test zero = true
all_codes test (suc k) = all_steps test k 8 && all_codes test k

below_suc : (P : ℕ → Type 0) (k i : ℕ) → i < suc k → P k → (i < k → P i) → Dec (i < k) → P i
below_suc P k i h p q (yes l) = q l
below_suc P k i h p q (no l) = let e : k ≡ i = omega arith in subst P e p

some_step : (test : ℕ → ℕ → Bool) (code m t : ℕ) → t < m → all_steps test code m ≡ true → test code t ≡ true
some_step test code zero t h e = absurd (not-suc-le-zero h)
some_step test code (suc m) t h e =
    let b = and_parts (test code m) (all_steps test code m) e in
    below_suc (λ (i : ℕ). test code i ≡ true) m t h b.0 (λ l. some_step test code m t l b.1) (dec_lt t m)

-- a test that all codes pass at all steps, passed at one
pub some_code : (test : ℕ → ℕ → Bool) (k code t : ℕ) → code < k → t < 8 → all_codes test k ≡ true → test code t ≡ true
some_code test zero code t h l e = absurd (not-suc-le-zero h)
some_code test (suc k) code t h l e =
    let b = and_parts (all_steps test k 8) (all_codes test k) e in
    below_suc (λ (i : ℕ). test i t ≡ true) k code h (some_step test k 8 t l b.0) (λ m. some_code test k code t m l b.1) (dec_lt code k)
