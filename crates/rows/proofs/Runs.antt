-- The steps of an instruction over one row, and what they say of the core under our control store. Assumes nothing.
use Rattle.std.proofs.Common.{◌≡◌, ℕ, zero, suc, ◌+◌, ◌*◌, ◌<◌, Bool, true, false, cond, not, ◌&&◌, ◌||◌, T, eqb, ltb, List, length, get_or, sym, refl, ap, ◌∙◌, subst, le_of_suc-le-suc, not-suc-le-zero, zero-add, arith, ltb→lt}
use Rattle.std.proofs.lemmas.Bool.{false≢true, ne_eqb, lt-ltb}
use Rattle.isa.specs.declared.operation.Transfer.TheVariants.{Load, Store, Address}
use Rattle.isa.specs.Fields.{op_of}
use Rattle.isa.specs.Operations.{Op, operation, decoded_op}
use Rattle.isa.specs.Operations.Op.{nop, stop, br, brl, unassigned, transfer, binary, immediate, unary, shift}
use Rattle.isa.specs.Book.{Visible, Access, access, fetched}
use Rattle.isa.specs.Book.Access.{fit}
use Rattle.isa.specs.Clocks.{op_accesses, begun_accesses, accesses}
use Rattle.rows.specs.declared.signal.Signal.TheVariants.{Wait, NIsZero, NIsNotZero}
use Rattle.rows.specs.Signals.{gives}
use Rattle.rows.specs.Rows.{control_word, table}
use Rattle.rows.specs.Core.{Core, Outcome, execute, control_at, micro, waits, and_then, steps}
use Rattle.rows.specs.Core.Outcome.{more, done, failed}
use Rattle.rows.specs.Refine.{Amid, Within}
use Rattle.rows.proofs.Table.{looked_up, all_codes, some_code}

-- the Wait steps of an operation's own, and all Wait steps
abbrev pub own_wait : Op → ℕ → Bool
own_wait nop t = false
own_wait stop t = false
own_wait br t = false
own_wait brl t = false
own_wait unassigned t = false
own_wait (transfer Load m) t = eqb t 6
own_wait (transfer Store m) t = eqb t 7
own_wait (transfer Address m) t = false
own_wait (binary f) t = false
own_wait (immediate f) t = false
own_wait (unary f) t = false
own_wait (shift f) t = false

abbrev pub wait_at : Op → ℕ → Bool
wait_at o t = cond (eqb t 1) true (own_wait o t)

-- Wait stands exactly in those steps, and in no step with a condition
abbrev waited : ℕ → ℕ → Bool
waited code t =
    let w = get_or table (code * 8 + t) 0 in
    cond (gives w Wait) (wait_at (operation code) t && not (gives w NIsZero || gives w NIsNotZero)) (not (wait_at (operation code) t))

all_waited : all_codes waited 32 ≡ true
unfolding table
all_waited = refl

-- over plain tests: g is Wait, i and j the conditions, b whether a Wait step is due
wait_is : (b g i j x y : Bool) → cond g (b && not (i || j)) (not b) ≡ true → cond g (cond i x (cond j y true)) false ≡ b
wait_is true true false false x y q = refl
wait_is true true false true x y q = absurd (false≢true q)
wait_is true true true j x y q = absurd (false≢true q)
wait_is true false i j x y q = absurd (false≢true q)
wait_is false true i j x y q = absurd (false≢true q)
wait_is false false i j x y q = refl

pub waits_are : (s : Core) → s.t < 8 → waits table s ≡ wait_at (decoded_op s.ir) s.t
unfolding decoded_op
waits_are s l =
    let w : ℕ = control_at table s in
    wait_is (wait_at (decoded_op s.ir) s.t) (gives w Wait) (gives w NIsZero) (gives w NIsNotZero) (eqb s.n 0) (not (eqb s.n 0))
    (some_code waited 32 (op_of s.ir) s.t (omega arith) l all_waited)

-- the core at clock j of a row of o, for the word w, with the registers rs
abbrev pub At : Op → List ℕ → ℕ → ℕ → Core → Type 0
At o rs w j s =
    T (ltb 2 s.t && ltb s.t 8) × (s.regs ≡ rs) × (s.ir ≡ w) × (op_accesses o j + cond (own_wait o s.t) 1 0 ≡ op_accesses o (suc j))

-- n steps over the row of one operation, from clock j on, over the words ws, to the outcome r
pub data Row (o : Op) (rs : List ℕ) (w : ℕ) (ws : List ℕ) : ℕ → Core → ℕ → Outcome → Type 0 where
  end : {j : ℕ} {s : Core} {r : Outcome} → At o rs w j s → execute (control_word o s.t) s ws ≡ r → Row o rs w ws j s 1 r
  then : {j : ℕ} {s : Core} {n : ℕ} {r : Outcome} (s' : Core) → At o rs w j s → execute (control_word o s.t) s ws ≡ more s' ws → Row o rs w ws (suc j) s' n r → Row o rs w ws j s (suc n) r

-- n steps of the core under our control store, from clock j of the instruction that began with v, to the outcome r
pub data Runs (v : Visible) : ℕ → Core → ℕ → Outcome → Type 0 where
  last : {j : ℕ} {s : Core} {r : Outcome} → Amid v j s v.words → micro table s v.words ≡ r → Runs v j s 1 r
  step : {j : ℕ} {s : Core} {n : ℕ} {r : Outcome} (s' : Core) → Amid v j s v.words → micro table s v.words ≡ more s' v.words → Runs v (suc j) s' n r → Runs v j s (suc n) r

pub clock : (s : Core) (ws : List ℕ) → T (ltb s.t 8) → micro table s ws ≡ execute (control_word (decoded_op s.ir) s.t) s ws
clock s ws l = ap (λ (w : ℕ). execute w s ws) (looked_up s.ir s.t (ltb→lt s.t 8 l))

-- from a row to the control store, where the fetch has read a word that decodes to its operation
module _ (v : Visible) (ok : access v.pc (length v.words) ≡ fit) where
  and_parts : (x y : Bool) → T (x && y) → T x × T y
  and_parts true y t = (tt, t)
  and_parts false y t = absurd t

  no_wait_at_one : (t : ℕ) → T (ltb 2 t) → eqb t 1 ≡ false
  no_wait_at_one t l = ne_eqb t 1 (λ e. absurd (omega (arith, ltb→lt 2 t l)))

  adds_up : (p q : ℕ) (b : Bool) → p + cond b 1 0 ≡ q → 1 + p + cond b 1 0 ≡ 1 + q
  adds_up p q b e = omega arith

  amid : (j : ℕ) (s : Core) → 2 < j → At (decoded_op (fetched v)) v.regs (fetched v) j s → Amid v j s v.words
  amid j s g h =
      let p = and_parts (ltb 2 s.t) (ltb s.t 8) h.0 in
      let low : s.t < 8 = ltb→lt s.t 8 p.1 in
      let late : 2 < s.t = ltb→lt 2 s.t p.0 in
      let o : Op = decoded_op (fetched v) in
      let w : waits table s ≡ own_wait o s.t =
      waits_are s low ∙ ap (λ (i : ℕ). wait_at (decoded_op i) s.t) h.2 ∙ ap (λ (b : Bool). cond b true (own_wait o s.t)) (no_wait_at_one s.t p.0) in
      let count : (i : ℕ) → 1 < i → accesses v i ≡ 1 + op_accesses o i =
      λ i k. ap (λ (x : Access). cond (ltb 1 i) 1 0 + begun_accesses x v i) ok ∙ ap (λ (b : Bool). cond b 1 0 + op_accesses o i) (lt-ltb 1 i k) in
      record {
        registers = h.1;
        kept = refl;
        below = low;
        begun = λ z. absurd (omega arith);
        counted =
            ap (λ (b : Bool). accesses v j + cond b 1 0) w
            ∙ ap (λ (m : ℕ). m + cond (own_wait o s.t) 1 0) (count j (omega arith))
            ∙ adds_up (op_accesses o j) (op_accesses o (suc j)) (own_wait o s.t) h.3
            ∙ sym (count (suc j) (omega arith));
      }

  pub row_runs : {j : ℕ} {s : Core} {n : ℕ} {r : Outcome} → 2 < j → Row (decoded_op (fetched v)) v.regs (fetched v) v.words j s n r → Runs v j s n r
  row_runs {j} {s} g (end h x) =
      last (amid j s g h)
      (clock s v.words (and_parts (ltb 2 s.t) (ltb s.t 8) h.0).1 ∙ ap (λ (i : ℕ). execute (control_word (decoded_op i) s.t) s v.words) h.2 ∙ x)
  row_runs {j} {s} g (then s' h x k) =
      step s' (amid j s g h)
      (clock s v.words (and_parts (ltb 2 s.t) (ltb s.t 8) h.0).1 ∙ ap (λ (i : ℕ). execute (control_word (decoded_op i) s.t) s v.words) h.2 ∙ x)
      (row_runs (omega arith) k)

stays : (r : Outcome) → and_then r (steps table 0) ≡ r
unfolding steps
stays (more s ws) = refl
stays (done z s ws) = refl
stays (failed e a s ws) = refl

pub runs_steps : {v : Visible} {j : ℕ} {s : Core} {n : ℕ} {r : Outcome} → Runs v j s n r → steps table n s v.words ≡ r
unfolding steps
runs_steps {r = r} (last h x) = ap (λ (u : Outcome). and_then u (steps table 0)) x ∙ stays r
runs_steps (step {n = n} s' h x k) = ap (λ (u : Outcome). and_then u (steps table n)) x ∙ runs_steps k

pub runs_within : {v : Visible} {j : ℕ} {s : Core} {n : ℕ} {r : Outcome} → Runs v j s n r → (i : ℕ) → i < n → Within v (i + j) (steps table i s v.words)
unfolding steps
runs_within {v} {j} {s} (last h x) zero l = subst (λ (k : ℕ). Amid v k s v.words) (sym (zero-add j)) h
runs_within (last h x) (suc i) l = absurd (not-suc-le-zero (le_of_suc-le-suc l))
runs_within {v} {j} {s} (step s' h x k) zero l = subst (λ (k : ℕ). Amid v k s v.words) (sym (zero-add j)) h
runs_within {v} {j} {s} (step s' h x k) (suc i) l =
    let e : i + suc j ≡ suc i + j = omega arith in
    subst (λ (u : Outcome). Within v (suc i + j) (and_then u (steps table i))) (sym x)
    (subst (λ (m : ℕ). Within v m (steps table i s' v.words)) e (runs_within k i (le_of_suc-le-suc l)))
