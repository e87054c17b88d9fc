-- From what a step of the one-bus core promises to one clock of run control. Assumes nothing.
use Rattle.std.proofs.Common.{◌≡◌, ℕ, ◌<◌, Bool, true, false, cond, not, ◌&&◌, ◌||◌, eqb, List, length, Ok, Err, Result, sym, refl, ap, ◌∙◌, subst, arith}
use Rattle.std.proofs.lemmas.Bool.{true≢false, eqb-true}
use Rattle.isa.specs.Fields.{op_of}
use Rattle.isa.specs.Book.{Access, access}
use Rattle.isa.specs.Book.Access.{fit, unfit}
use Rattle.rows.specs.declared.signal.Signal.TheVariants.{Read, Write, Wait}
use Rattle.rows.specs.Signals.{gives}
use Rattle.rows.specs.Rows.{table}
use Rattle.rows.specs.Rules.{implies, reads_or_writes, EveryStep}
use Rattle.rows.proofs.Rules.{every_step}
use Rattle.rows.specs.Core as bus
use Rattle.rows.specs.Core.{at_step, closed, carried_out, stored, allowed, addressed, touches, conditional, met, assigned, rowless, execute, control_at, micro, waits}
use Rattle.rows.specs.Core.Outcome.{more, done, failed}
use Rattle.onebus.specs.declared.fault.CoreFault.{CoreFault}
use Rattle.onebus.specs.declared.progress.Progress.{Progress}
use Rattle.onebus.specs.declared.progress.Progress.TheVariants.{Within, Finished}
use Rattle.onebus.specs.Steps.{core_after, words_after, answer_of, fits, uses_word}
use Rattle.run_control.specs.State.{State, Delays, stepped, later_delays, told_of, after_more, after_end, after_fault}
use Rattle.run_control.specs.Calls.{with_core, with_words}
use Rattle.run_control.specs.OneBus.{outcome, fetched_from, core_under}

-- a fault leaves the core but for T, and the words, and uses none of them
abbrev Leaves : ℕ → bus.Core → List ℕ → bus.Outcome → Type 0
Leaves w s ws (more u us) = Unit {0}
Leaves w s ws (done stops u us) = Unit {0}
Leaves w s ws (failed c a u us) = (u ≡ at_step s 0) × (us ≡ ws) × (uses_word w s ws ≡ false)

and_false : (x y : Bool) → y ≡ false → x && y ≡ false
and_false true y e = e
and_false false y e = refl

module _ (w : ℕ) (s : bus.Core) (ws : List ℕ) where
  closed_leaves : (e z : Bool) (u : bus.Core) (us : List ℕ) → Leaves w s ws (closed e z u us)
  closed_leaves true z u us = tt
  closed_leaves false z u us = tt

  allowed_leaves : (x : Access) → access s.ma (length ws) ≡ x → Leaves w s ws (allowed x s ws (carried_out w s ws))
  allowed_leaves fit e = closed_leaves _ _ _ _
  allowed_leaves (unfit c) e = (refl, refl, and_false (met w s.n) _ (and_false (touches w) _ (ap fits e)))

  addressed_leaves : (b : Bool) → Leaves w s ws (addressed b w s ws)
  addressed_leaves true = allowed_leaves (access s.ma (length ws)) refl
  addressed_leaves false = closed_leaves _ _ _ _

  conditional_leaves : (b : Bool) → Leaves w s ws (conditional b w s ws)
  conditional_leaves true = addressed_leaves (touches w)
  conditional_leaves false = tt

  -- an empty control word touches nothing
  empty_by : (x y : Bool) → eqb w 0 ≡ x → cond x y false ≡ true → w ≡ 0
  empty_by true y e r = eqb-true w 0 e
  empty_by false y e r = absurd (true≢false (sym r))

  empty : rowless w s.t ≡ true → touches w ≡ false
  empty r = ap touches (empty_by (eqb w 0) (eqb s.t 3) refl r)

  assigned_leaves : (b : Bool) → rowless w s.t ≡ b → Leaves w s ws (assigned b w s ws)
  assigned_leaves true e = (refl, refl, and_false (met w s.n) _ (ap (λ b. b && fits (access s.ma (length ws))) (empty e)))
  assigned_leaves false e = conditional_leaves (met w s.n)

  execute_leaves : Leaves w s ws (execute w s ws)
  execute_leaves = assigned_leaves (rowless w s.t) refl

-- a step that uses a word is a Wait step
abbrev WaitedFor : List ℕ → bus.Core → List ℕ → Type 0
WaitedFor store s ws = waits store s ≡ false → uses_word (control_at store s) s ws ≡ false

waited_by : (m w rd wr f : Bool) → implies rd (w && not wr) && (implies wr w && implies w (rd || wr)) ≡ true → cond w m false ≡ false → m && ((rd || wr) && f) ≡ false
waited_by false w rd wr f r e = refl
waited_by true true rd wr f r e = absurd (true≢false e)
waited_by true false true wr f r e = absurd (true≢false (sym r))
waited_by true false false true f r e = absurd (true≢false (sym r))
waited_by true false false false f r e = refl

reads_waited : EveryStep reads_or_writes
unfolding table
reads_waited = every_step refl

-- so it is under our control store
pub waited_for : (s : bus.Core) (ws : List ℕ) → s.t < 8 → WaitedFor table s ws
waited_for s ws l =
    let w = control_at table s in
    waited_by (met w s.n) (gives w Wait) (gives w Read) (gives w Write) (fits (access s.ma (length ws))) (reads_waited.keeps (op_of s.ir) s.t (omega arith) l)

-- the step at hand of the machine s under a control store, with the answer r, the core q, the words us and the delays d after it
module _ (store : List ℕ) (s : State bus.Core) (d : Delays) (r : Result Progress CoreFault) (q : bus.Core) (us : List ℕ) where
  abbrev at_hand : bus.Outcome
  at_hand = micro store s.core s.words

  -- as a clock of run control that leaves the delays x, by what it answers
  pub record Clocked (o : bus.Outcome) (x : Delays) : Type 0 where
    pub within : r ≡ Ok Within → (Ok false ≡ told_of (core_under store) (outcome o) s) × (after_more q us s d ≡ stepped (core_under store) (outcome o) s x)
    pub finished : (stops : Bool) → r ≡ Ok (Finished stops) → (Ok true ≡ told_of (core_under store) (outcome o) s) × (after_end stops q us s d ≡ stepped (core_under store) (outcome o) s x)
    pub faulted : (f : CoreFault) → r ≡ Err f → (Err (f, fetched_from s.core) ≡ told_of (core_under store) (outcome o) s) × (with_words (with_core (after_fault (core_under store) s) q) us d ≡ stepped (core_under store) (outcome o) s x)

  clocked_by : (o : bus.Outcome) → Leaves (control_at store s.core) s.core s.words o → r ≡ answer_of s.core.t o → q ≡ core_after o → us ≡ words_after o → (uses_word (control_at store s.core) s.core s.words ≡ false → d ≡ s.delays) → Clocked o d
  clocked_by (more u vs) l er eq ew ed = record { within = λ e. (refl, cc); finished = λ z e. (cc, cc); faulted = λ f e. (cc, cc) }
  clocked_by (done z u vs) l er eq ew ed = record { within = λ e. (cc, cc); finished = λ z' e. (refl, cc); faulted = λ f e. (cc, cc) }
  clocked_by (failed c a u vs) l er eq ew ed =
      let back = eq ∙ l.0 in
      let kept = ew ∙ l.1 in
      let slow = ed l.2 in
      record {
        within = λ e. (cc, cc);
        finished = λ z e. (cc, cc);
        faulted = λ f e.
            let same = l.1 in
            (cc, ap (λ x. with_words (with_core (after_fault (core_under store) s) x) us d) back ∙ ap (λ x. with_words (with_core (after_fault (core_under store) s) (at_step s.core 0)) x d) kept ∙ ap (λ x. with_words (with_core (after_fault (core_under store) s) (at_step s.core 0)) s.words x) slow);
      }

  later : (w : Bool) → (w ≡ false → d ≡ s.delays) → d ≡ cond w d s.delays
  later true e = refl
  later false e = e refl

  pub clocked_step : r ≡ answer_of s.core.t at_hand → q ≡ core_after at_hand → us ≡ words_after at_hand → (uses_word (control_at store s.core) s.core s.words ≡ false → d ≡ s.delays) → WaitedFor store s.core s.words →
      Clocked at_hand (later_delays (core_under store) s d)
  clocked_step er eq ew ed ok =
      subst (λ x. Clocked at_hand x) (later (waits store s.core) (λ e. ed (ok e))) (clocked_by at_hand (execute_leaves (control_at store s.core) s.core s.words) er eq ew ed)
